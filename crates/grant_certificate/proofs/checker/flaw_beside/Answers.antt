use Rattle.std.proofs.Common.{arith, ◌≡◌, ap, length, sum, ◌<◌, ◌^◌, ℕ, List, Option, subst}
use Rattle.limit_tree.specs.Outline.{limits}
use Rattle.limit_tree.proofs.Leaves.{length-wants_in, length-floors_in}
use Rattle.grant_certificate.specs.Flaws.{IsFirstOver}
use Rattle.grant_certificate.proofs.Verdicts.{backing-flaw, is-within, sum-fits}
use Rattle.grant_certificate.proofs.checker.flaw_beside.Goals as goal

pub look_at_branches-branches-requires-clause-fits : goal.look_at_branches-branches-requires-clause-fits
look_at_branches-branches-requires-clause-fits g c =
    let few : sum (limits c.args.tree.now).wants < 2 ^ 64 = omega (arith, c.leaves-bounded.ensures.octets, c.leaves-bounded.ensures.most) in
    sum-fits (limits c.args.tree.now) c.args.grants.now c.args.wants.now c.requires.lengths.0 c.requires.wants c.in_default.ensures.first few

pub backing_flaw-requires-clause-fits : goal.backing_flaw-requires-clause-fits
backing_flaw-requires-clause-fits g c =
    let few : sum (limits c.args.tree.now).wants < 2 ^ 64 = omega (arith, c.leaves-bounded.ensures.octets, c.leaves-bounded.ensures.most) in
    sum-fits (limits c.args.tree.now) c.args.grants.now c.args.wants.now c.requires.lengths.0 c.requires.wants c.in_default.ensures.first few

pub returns : goal.returns
returns g c =
    let floored : length c.args.floors.now ≡ length c.args.grants.now = omega (arith, ap (λ (xs : List ℕ). length xs) c.requires.floors, length-wants_in c.args.tree.now, length-floors_in c.args.tree.now, c.requires.lengths.0) in
    let none = subst (λ (o : Option ℕ). IsFirstOver (limits c.args.tree.now) c.args.grants.now o) c.in_default-over.is c.look_at_branches-branches.ensures.over in
    let within = is-within (limits c.args.tree.now) c.args.grants.now c.args.wants.now c.args.floors.now c.requires.lengths.0 c.requires.wants c.requires.floors floored c.in_default.ensures.first c.in_default-first_above.ensures.first none in
    record { flaw = backing-flaw (limits c.args.tree.now) c.args.grants.now c.args.entries.now c.backing_flaw.result c.requires.lengths within c.backing_flaw.ensures.flaw }
