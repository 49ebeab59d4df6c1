use Rattle.std.proofs.Common.{arith, ◌≡◌, ◌∙◌, ℕ, List, sum, take, ap, ◌<◌, ◌^◌}
use Rattle.limit_tree.specs.Outline.{limits}
use Rattle.grant_certificate.proofs.FitsTree.{within-fits, floors-fit}
use Rattle.grant_certificate.proofs.UserChecks.{backed-exact}
use Rattle.grant_certificate.proofs.by_users.are_backed_by.Goals as goal

pub totals_into-requires-clause-fits : goal.totals_into-requires-clause-fits
totals_into-requires-clause-fits g c =
    let few : sum (limits c.args.tree.now).wants < 2 ^ 64 = omega (arith, c.leaves-leaves.ensures.octets, c.leaves-leaves.ensures.most) in
    within-fits (limits c.args.tree.now) c.args.grants.now c.requires.within few

pub totals_into-requires-2-clause-fits : goal.totals_into-requires-2-clause-fits
totals_into-requires-2-clause-fits g c =
    let few : sum (limits c.args.tree.now).wants < 2 ^ 64 = omega (arith, c.leaves-leaves.ensures.octets, c.leaves-leaves.ensures.most) in
    let same : take c.leaves-leaves.result c.leaves_into.new.floors ≡ (limits c.args.tree.now).floors = ap (λ (n : ℕ). take n c.leaves_into.new.floors) c.leaves-leaves.ensures.leaves ∙ c.leaves_into.ensures.floors in
    omega (arith, ap (λ (xs : List ℕ). sum xs) same, floors-fit (limits c.args.tree.now) c.leaves-leaves.ensures.limit_tree few)

pub returns : goal.returns
returns g c = record { backed = backed-exact (limits c.args.tree.now) c.args.owners.now c.args.grants.now c.args.entries.now c.are_backed.result c.requires.entries c.are_backed.ensures.backed }

pub invariant_of-of-clause-fits : goal.invariant_of-of-clause-fits
invariant_of-of-clause-fits g c =
    let few : sum (limits c.args.tree.now).wants < 2 ^ 64 = omega (arith, c.leaves-leaves.ensures.octets, c.leaves-leaves.ensures.most) in
    within-fits (limits c.args.tree.now) c.args.grants.now c.requires.within few
