use Rattle.std.proofs.Common.{ℕ}
use Rattle.limit_tree.specs.Outline.{limits}
use Rattle.user_shares.proofs.Alike.{tight-tree}
use Rattle.user_shares.proofs.stages.grants_within.Goals as goal

pub returns : goal.returns
returns g c =
    record {
      grants = record {
        tight = limits c.in_ok-tree.tree;
        entries = c.in_ok-shared.shared.1;
        is_tight = tight-tree c.args.flat.now c.in_ok-tree.tree c.args.users.now c.args.owners.now c.args.totals.now c.requires.users c.in_ok-tree.ensures.alike;
        later = c.leaves-leaves.ensures.later;
        within = c.in_ok-shared.ensures.within;
        backed = c.in_ok-shared.ensures.backed;
        deepest = λ i l unmet. let at = c.in_ok-shared.ensures.named.entries i l in (at.0, at.1, at.2.unmet unmet);
      };
    }
