use Rattle.user_shares.proofs.Grown.{grown-none, grown-more}
use Rattle.user_shares.proofs.owners.push_leaves.Goals as goal

pub loop-leaf-init : goal.loop-leaf-init
loop-leaf-init g c = grown-none c.args.owners.now.items c.args.user

pub loop-leaf-preserved : goal.loop-leaf-preserved
loop-leaf-preserved g c = grown-more c.args.owners.now.items c.loop-leaf.owners.items _ c.args.user c.loop-leaf._leaf c.loop-leaf.invariant c.in_ok-push.ensures.items
