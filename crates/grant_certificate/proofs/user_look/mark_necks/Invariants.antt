use Rattle.grant_certificate.specs.UserNecks.{IsNeckWithin}
use Rattle.grant_certificate.proofs.Marks.{AreMarked}
use Rattle.grant_certificate.proofs.user_look.mark_necks.Given as goal

abbrev pub invariant-loop-leaf : goal.invariant-loop-leaf
invariant-loop-leaf l = AreMarked l.marks l.initial.marks l.leaf (IsNeckWithin l.number l.fn.place.first l.fn.place.leaves l.of.owners.now l.of.grants.now l.of.floors.now l.entries)
