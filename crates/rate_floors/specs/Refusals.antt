-- Why one more session of a user is refused: the first limit that its guarantees are above.
use Rattle.std.specs.Prelude.{◌≡◌, ◌↔◌, ℕ, ◌+◌, true, if◌then◌else◌, Option, Some, None}
use Rattle.std.specs.FinMap as finite
use Rattle.std.specs.Option.{option_or}
use Rattle.line_rates.specs.declared.ask.Name.TheVariants.{Group}
use Rattle.line_rates.specs.declared.ask.Way.TheVariants.{Down, Up}
use Rattle.line_rates.specs.Rates.{group_rate}
use Rattle.rate_floors.specs.declared.carry.CarryFault.{CarryFault}
use Rattle.rate_floors.specs.declared.carry.CarryFault.TheVariants.{TooLarge}
use Rattle.rate_floors.specs.declared.find.UserSessions.{UserSessions}
use Rattle.rate_floors.specs.Carried.{broken, broken_row, broken_line}
use Rattle.rate_floors.specs.Promises.{Promises, user_of, promised, promised_group, is_small, counted, admits}

abbrev pub with_more : UserSessions → UserSessions
with_more entry = record { row = entry.row; sessions = entry.sessions + 1 }

-- the first limit of a group that the guarantees in it are above; a group without a row has none
abbrev pub broken_in_group : Promises → Option ℕ → Option CarryFault
broken_in_group p None = None
broken_in_group p (Some group) =
    option_or
    (broken (Group Down group) (promised_group p.users Down group)
    (group_rate (finite.get p.rates.groups group) Down))
    (broken (Group Up group) (promised_group p.users Up group)
    (group_rate (finite.get p.rates.groups group) Up))

-- of each session of the user, of the user, of their group, of a way, of the server
abbrev pub first_above : Promises → UserSessions → Option CarryFault
first_above after entry =
    option_or (option_or (broken_row (with_more entry)) (broken_in_group after entry.row.group))
    (broken_line (promised after.users Down) (promised after.users Up) after.rates.server
    after.rates.down after.rates.up)

abbrev pub refused_for : Promises → Option UserSessions → Option CarryFault
refused_for after None = None
refused_for after (Some entry) =
    if is_small after entry.sessions then first_above after entry else Some TooLarge

-- what one more session of the user is refused for, if it is
abbrev pub refusal : Promises → ℕ → Option CarryFault
refusal p user = refused_for (counted p user) (user_of p user)

-- There is a reason exactly if one more session does not fit.
abbrev pub RefusesWhatDoesNotFit : Type 0
RefusesWhatDoesNotFit =
    (p : Promises) (user : ℕ) → (refusal p user ≡ None) ↔ (admits p user ≡ true)
