use Rattle.std.proofs.Common.{◌≡◌, ◌∙◌, ℕ, List, Option, Some, None, sym, subst}
use Rattle.std.proofs.lemmas.Bool.{iff_false}
use Rattle.limit_tree.specs.Outline.{limits}
use Rattle.grant_certificate.specs.Flaws.{IsFirstOver}
use Rattle.grant_certificate.specs.Ranges.{IsOverPlace}
use Rattle.grant_certificate.proofs.Seen.{over-last, over-stays}
use Rattle.grant_certificate.proofs.over.FindOverLimit.see.Goals as goal

not_none : (x : ℕ) (o : Option ℕ) → o ≡ Some x → o ≡ None → ⊥
not_none x o e n = let f : Some x ≡ None = sym e ∙ n in cc

pub returns-in-Some-clause-saw : goal.returns-in-Some-clause-saw
returns-in-Some-clause-saw c = λ start seen place reported count was. record {
  grants = was.grants;
  found = over-stays seen place start.grants.now c.args.self.now.found (λ none over. not_none c.in-Some.field-0 c.args.self.now.found c.in-Some.is none) was.found;
}

pub returns-then-over-clause-saw : goal.returns-then-over-clause-saw
returns-then-over-clause-saw c = λ start seen place reported count was. record {
  grants = was.grants;
  found = over-last seen place start.grants.now c.args.number count
      (subst (λ (o : Option ℕ). IsFirstOver (limits seen) start.grants.now o) c.in-None.is was.found)
      (subst (λ (g : List ℕ). IsOverPlace place g) was.grants (reported.0 c.if-over.true));
}

pub returns-else-over-clause-saw : goal.returns-else-over-clause-saw
returns-else-over-clause-saw c = λ start seen place reported count was. record {
  grants = was.grants;
  found = over-stays seen place start.grants.now c.args.self.now.found
      (λ none. subst (λ (g : List ℕ). IsOverPlace place g → ⊥) was.grants (iff_false reported c.if-over.false))
      was.found;
}
