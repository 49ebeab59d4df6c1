use Rattle.std.proofs.Common.{refl}
use Rattle.sheet_text.proofs.First.{first_nodes}
use Rattle.sheet_text.proofs.node.Nodes.new.Goals as goal

pub invariant_of-result : goal.invariant_of-result
invariant_of-result g c = first_nodes c.push.new.self.items c.new-nodes.result.items _ c.push-2.new.self.items c.new-names.result.items c.in_ok-kids.kids c.in_ok-push.ensures.items c.new-nodes.ensures.items refl refl refl c.in_ok-push-2.ensures.items c.new-names.ensures.items c.in_ok-kids.ensures.none
