use Rattle.std.proofs.Common.{arith, ◌+◌, ◌<◌, ◌≤◌, Bool, List, length, ℕ, sym, subst}
use Rattle.std.proofs.lemmas.Bool.{iff_false}
use Rattle.grant_certificate.specs.UserNecks.{IsNeckWithin}
use Rattle.grant_certificate.proofs.Entries.{named_at, named_back}
use Rattle.grant_certificate.proofs.Marks.{AreMarked, marks-set, marks-pass}
use Rattle.grant_certificate.proofs.user_look.mark_necks.Goals as goal
use Rattle.grant_certificate.proofs.user_look.mark_necks.Goals.{then-names+then-holds_back, else-names, else-names-via-then-names+else-holds_back, else-names-via-else-names}

pub loop-leaf-preserved : goal.loop-leaf-preserved
loop-leaf-preserved c =
    let leaf = c.loop-leaf.leaf in
    let number = c.args.number in
    let of = c.args.of in
    let entries = c.args.entries.now in
    let marks = c.loop-leaf.marks in
    let old = c.args.marks.now in
    let H : ℕ → Type 0 = IsNeckWithin number c.args.place.first c.args.place.leaves of.owners.now of.grants.now of.floors.now entries in
    let inside : leaf < length marks = omega (arith, c.loop-leaf.auto.marks, c.requires.inside, c.requires.marks, c.loop-leaf-test.true) in
    elim c.if-names.branch [
      | then-names+then-holds_back w ↦ subst (λ (ms : List Bool). AreMarked ms old (leaf + 1) H) (sym w.marks-is)
          (marks-set marks old leaf H inside
          (record {
            inside = omega (arith, of.owned, c.requires.inside, c.loop-leaf-test.true);
            named = named_at entries leaf number (c.names.ensures.named.0 w.if-names.true);
            back = w.holds_back.ensures.holds.0 w.if-holds_back.true;
          })
          c.loop-leaf.invariant)
      | else-names w ↦ subst (λ (ms : List Bool). AreMarked ms old (leaf + 1) H) (sym w.marks-is)
          (marks-pass marks old leaf H
          (λ held. elim w.else-names.branch [
            | else-names-via-then-names+else-holds_back v ↦ iff_false v.holds_back.ensures.holds v.if-holds_back.false held.back
            | else-names-via-else-names v ↦ iff_false c.names.ensures.named v.if-names.false (named_back entries leaf number held.named)
          ])
          c.loop-leaf.invariant)
    ]
