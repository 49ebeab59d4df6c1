use Rattle.std.proofs.Common.{sym, ◌∙◌}
use Rattle.std.specs.Prelude.{slice_index}
use Rattle.grant_certificate.proofs.UserChecks.{exact-none}
use Rattle.grant_certificate.proofs.by_users.holds_inside.Goals as goal

pub returns : goal.returns
returns c =
    let p = c.args.place in
    let exact = exact-none c.none_greater.result p.first p.leaves c.args.grants.now c.args.floors.now (slice_index c.args.grants.now c.args.leaf) c.none_greater.ensures.none in
    record { holds = (λ told. (sym c.holds.ensures.holds ∙ c.if-not-holds.false, exact.0 told), λ both. exact.1 both.1) }
