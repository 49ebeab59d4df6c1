use Rattle.std.proofs.Common.{arith, ◌+◌, ◌<◌, Bool, List, length, sym, subst}
use Rattle.std.proofs.lemmas.Bool.{iff_false}
use Rattle.limit_tree.proofs.RangeSums.{leaf_range-inside}
use Rattle.grant_certificate.specs.Ranges.{IsHeldWithin}
use Rattle.grant_certificate.proofs.Entries.{named_at, named_back}
use Rattle.grant_certificate.proofs.Marks.{AreMarked, marks-set, marks-pass, held-within, within-near}
use Rattle.grant_certificate.proofs.backing.mark_held.Goals as goal
use Rattle.grant_certificate.proofs.backing.mark_held.Goals.{then-names+then-is_near, else-names, else-names-via-then-names+else-is_near, else-names-via-else-names}

pub loop-leaf-preserved : goal.loop-leaf-preserved
loop-leaf-preserved c =
    let leaf = c.loop-leaf.leaf in
    let number = c.args.number in
    let first = c.args.place.first in
    let leaves = c.args.place.leaves in
    let g = c.args.grants.now in
    let floors = c.args.floors.now in
    let entries = c.args.entries.now in
    let marks = c.loop-leaf.marks in
    let old = c.args.marks.now in
    let most = c.greatest-most.result in
    let is = c.greatest-most.ensures.greatest in
    let inside : leaf < length marks = omega (arith, c.loop-leaf.auto.marks, c.requires.inside, c.requires.marks, c.loop-leaf-test.true) in
    elim c.if-names.branch [
      | then-names+then-is_near w ↦ subst (λ (ms : List Bool). AreMarked ms old (leaf + 1) (IsHeldWithin number first leaves g floors entries)) (sym w.marks-is)
          (marks-set marks old leaf (IsHeldWithin number first leaves g floors entries) inside
          (held-within number first leaves most g floors entries leaf is
          (named_at entries leaf number (c.names.ensures.named.0 w.if-names.true))
          (leaf_range-inside first leaves leaf c.loop-leaf.auto.leaf (omega (arith, c.loop-leaf-test.true)))
          (w.is_near.ensures.near.0 w.if-is_near.true))
          c.loop-leaf.invariant)
      | else-names w ↦ subst (λ (ms : List Bool). AreMarked ms old (leaf + 1) (IsHeldWithin number first leaves g floors entries)) (sym w.marks-is)
          (marks-pass marks old leaf (IsHeldWithin number first leaves g floors entries)
          (λ held. elim w.else-names.branch [
            | else-names-via-then-names+else-is_near v ↦ iff_false v.is_near.ensures.near v.if-is_near.false (within-near number first leaves most g floors entries leaf is held)
            | else-names-via-else-names v ↦ iff_false c.names.ensures.named v.if-names.false (named_back entries leaf number held.named)
          ])
          c.loop-leaf.invariant)
    ]
