use Rattle.grant_certificate.specs.Ranges.{IsHeldWithin}
use Rattle.grant_certificate.proofs.Marks.{AreMarked}
use Rattle.grant_certificate.proofs.backing.mark_held.Given as goal

abbrev pub invariant-loop-leaf : goal.invariant-loop-leaf
invariant-loop-leaf l = AreMarked l.marks l.initial.marks l.leaf (IsHeldWithin l.number l.fn.place.first l.fn.place.leaves l.grants l.floors l.entries)
