use Rattle.std.proofs.Common.{ℕ, List, subst}
use Rattle.std.proofs.lemmas.Bool.{iff_false}
use Rattle.limit_tree.specs.Outline.{IsFullOver}
use Rattle.limit_tree.proofs.Looks.{deepest-last, deepest-stays}
use Rattle.limit_tree.proofs.look.FindFullVisitor.visit.Goals as goal

pub returns-then-is_full_over-clause-saw : goal.returns-then-is_full_over-clause-saw
returns-then-is_full_over-clause-saw c = λ start seen count leaves was.
    let place = c.args.place in
    let here = c.is_full_over.ensures.full.0 c.if-is_full_over.true in
    let same = subst (λ (g : List ℕ). IsFullOver place g start.leaf) was.grants (subst (λ (i : ℕ). IsFullOver place c.args.self.now.grants.now i) was.leaf here) in
    record { leaf = was.leaf; grants = was.grants; found = deepest-last seen place start.grants.now start.leaf c.args.number count same }

pub returns-else-is_full_over-clause-saw : goal.returns-else-is_full_over-clause-saw
returns-else-is_full_over-clause-saw c = λ start seen count leaves was.
    let place = c.args.place in
    let not = iff_false c.is_full_over.ensures.full c.if-is_full_over.false in
    let same = subst (λ (g : List ℕ). IsFullOver place g start.leaf → ⊥) was.grants (subst (λ (i : ℕ). IsFullOver place c.args.self.now.grants.now i → ⊥) was.leaf not) in
    record { leaf = was.leaf; grants = was.grants; found = deepest-stays seen place start.grants.now start.leaf c.args.self.now.found same was.found }
