use Rattle.std.proofs.Common.{◌∙◌, sym, ap, subst, map}
use Rattle.std.specs.List.{All}
use Rattle.line_rates.specs.Stated.{by_number, user_number, IsRising, FitsUser}
use Rattle.rate_floors.specs.declared.find.UserSessions.{UserSessions}
use Rattle.rate_floors.specs.Carried.{carry_fault, unless_broken}
use Rattle.memory_terms.specs.Lack.{AsDefined}
use Rattle.rate_floors.specs.declared.carry.CarryFault.TheVariants as CarryFault
use Rattle.rate_floors.specs.Promises.{Promises, user_key, user_row}
use Rattle.rate_floors.proofs.CarryLemmas.{rows_of_carried, carried_rising, carried_fit, carried_is}
use Rattle.rate_floors.proofs.floors.Floors.carried.Goals as goal

pub fitted-requires-clause-rows : goal.fitted-requires-clause-rows
fitted-requires-clause-rows g c =
    ap (λ us. by_number user_number (map user_row us)) c.in_ok-users.ensures.users
    ∙ ap (by_number user_number) (rows_of_carried c.args.self.now c.users.result.now)
    ∙ c.users.ensures.rows

pub fitted-requires-clause-rising : goal.fitted-requires-clause-rising
fitted-requires-clause-rising g c =
    subst (IsRising user_key) (sym c.in_ok-users.ensures.users) (carried_rising c.args.self.now c.users.result.now c.users.ensures.rising)

pub fitted-requires-clause-fit : goal.fitted-requires-clause-fit
fitted-requires-clause-fit g c =
    subst (All (λ (entry : UserSessions). FitsUser entry.row)) (sym c.in_ok-users.ensures.users) (carried_fit c.args.self.now c.users.result.now c.users.ensures.fit)

pub returns : goal.returns
returns g c =
    let same = carried_is c.args.self.now c.args.limits.now c.users.result.now c.in_ok-users.users.items c.users.ensures.rows c.users.ensures.rising c.in_ok-users.ensures.users in
    record { carried = subst (λ (p : Promises). AsDefined CarryFault.Memory c.fitted.result (unless_broken (carry_fault p) p)) same c.fitted.ensures.floors }
