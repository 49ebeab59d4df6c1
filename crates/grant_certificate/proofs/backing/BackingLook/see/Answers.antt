use Rattle.std.proofs.Common.{ℕ, List, Option, sym, subst, inl, inr}
use Rattle.std.proofs.lemmas.Bool.{iff_false}
use Rattle.limit_tree.specs.Outline.{IsFullPlace}
use Rattle.grant_certificate.specs.Ranges.{IsHeldWithin}
use Rattle.grant_certificate.proofs.Seen.{held-seen, held-last, held-either}
use Rattle.grant_certificate.proofs.backing.BackingLook.see.Goals as goal

pub returns-then-full-clause-saw : goal.returns-then-full-clause-saw
returns-then-full-clause-saw c = λ start seen reported count was.
    let place = c.args.place in
    let now = c.args.self.now in
    let number = c.args.number in
    let full = subst (λ (g : List ℕ). IsFullPlace place g) was.grants (reported.0 c.if-full.true) in
    record {
      grants = was.grants;
      floors = was.floors;
      entries = was.entries;
      marked = λ i. (
        λ marked. elim ((c.mark_held.ensures.marked i).0 marked) [
          | inl before ↦ held-seen seen place start.grants.now start.floors.now start.entries.now i ((was.marked i).0 before)
          | inr here ↦ held-last seen place number start.grants.now start.floors.now start.entries.now i count full
              (subst (λ (g : List ℕ). IsHeldWithin number place.first place.leaves g start.floors.now start.entries.now i) was.grants
              (subst (λ (f : List ℕ). IsHeldWithin number place.first place.leaves now.grants.now f start.entries.now i) was.floors
              (subst (λ (e : List (Option ℕ)). IsHeldWithin number place.first place.leaves now.grants.now now.floors.now e i) was.entries here)))
        ],
        λ held. (c.mark_held.ensures.marked i).1 (elim (held-either seen place number start.grants.now start.floors.now start.entries.now i count held) [
          | inl before ↦ inl ((was.marked i).1 before)
          | inr here ↦ inr
              (subst (λ (g : List ℕ). IsHeldWithin number place.first place.leaves g now.floors.now now.entries.now i) (sym was.grants)
              (subst (λ (f : List ℕ). IsHeldWithin number place.first place.leaves start.grants.now f now.entries.now i) (sym was.floors)
              (subst (λ (e : List (Option ℕ)). IsHeldWithin number place.first place.leaves start.grants.now start.floors.now e i) (sym was.entries) here.1)))
        ]),
      );
    }

pub returns-else-full-clause-saw : goal.returns-else-full-clause-saw
returns-else-full-clause-saw c = λ start seen reported count was.
    let place = c.args.place in
    let not = iff_false reported c.if-full.false in
    record {
      grants = was.grants;
      floors = was.floors;
      entries = was.entries;
      marked = λ i. (
        λ marked. held-seen seen place start.grants.now start.floors.now start.entries.now i ((was.marked i).0 marked),
        λ held. elim (held-either seen place c.args.number start.grants.now start.floors.now start.entries.now i count held) [
          | inl before ↦ (was.marked i).1 before
          | inr here ↦ absurd (not (subst (λ (g : List ℕ). IsFullPlace place g) (sym was.grants) here.0))
        ],
      );
    }
