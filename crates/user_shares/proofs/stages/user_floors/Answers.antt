use Rattle.std.proofs.Common.{arith, ◌≡◌, ◌∙◌, ◌<◌, ◌^◌, ℕ, List, length, sum, sym, ap, subst}
use Rattle.limit_tree.specs.Outline.{limits}
use Rattle.limit_tree.proofs.Leaves.{length-wants_in, length-floors_in}
use Rattle.grant_certificate.proofs.FitsTree.{floors-fit}
use Rattle.user_shares.specs.Stages.{AreTotals}
use Rattle.user_shares.proofs.stages.user_floors.Goals as goal

pub user_totals-requires-clause-owners : goal.user_totals-requires-clause-owners
user_totals-requires-clause-owners g c =
    let ps = c.args.flat.now in
    omega (arith, c.requires.owners, length-wants_in ps, length-floors_in ps, ap (λ (xs : List ℕ). length xs) c.in_ok-of_leaves.ensures.floors, ap (λ (xs : List ℕ). length xs) c.deref.ensures.value)

pub user_totals-requires-clause-fits : goal.user_totals-requires-clause-fits
user_totals-requires-clause-fits g c =
    let t = limits c.args.flat.now in
    let few : sum t.wants < 2 ^ 64 = omega (arith, c.leaves-bounded.ensures.octets, c.leaves-bounded.ensures.most) in
    subst (λ (xs : List ℕ). sum xs < 2 ^ 64) (sym (c.deref.ensures.value ∙ c.in_ok-of_leaves.ensures.floors)) (floors-fit t c.leaves-bounded.ensures.limit_tree few)

pub returns : goal.returns
returns g c = record { floors = subst (λ (xs : List ℕ). AreTotals c.args.users c.args.owners.now xs c.in_ok-floors.floors.items) (c.deref.ensures.value ∙ c.in_ok-of_leaves.ensures.floors) c.in_ok-floors.ensures.totals }
