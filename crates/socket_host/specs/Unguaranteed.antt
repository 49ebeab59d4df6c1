-- Logins that are refused, since the guaranteed rate of their user does not fit.
use Rattle.std.specs.Prelude.{◌≡◌, ℕ, Bool, true, false, if◌then◌else◌, List, Option, Some, None, IfSome, string_bytes}
use Rattle.std.specs.List.{list_any}
use Rattle.std.specs.declared.alloc.Global.{Global}
use Rattle.authorizer.specs.Users.{Users}
use Rattle.rate_floors.specs.Promises.{Promises}
use Rattle.rate_floors.specs.Refusals.{refusal}
use Rattle.rate_floors.specs.declared.carry.CarryFault.{CarryFault}
use Rattle.session_table.specs.declared.actions.Action.{Action}
use Rattle.session_table.specs.declared.actions.Action.TheVariants.{Say, Hook, OpenPassive, ConnectTo, DropData, Start, Abort, CloseControl, ReleaseFloor}
use Rattle.session_table.specs.declared.answers.Answer.{Answer}
use Rattle.session_table.specs.declared.answers.Answer.TheVariants as answer
use Rattle.session_table.specs.declared.refusals.Refusal.{Refusal}
use Rattle.session_table.specs.declared.refusals.Refusal.TheVariants.{NoGuarantee}
use Rattle.socket_host.specs.Standing.{number_of}
use Rattle.socket_host.specs.declared.unguaranteed.Entrant.{Entrant}

-- the user whom a step would log in, by their name
abbrev pub IsEntrant : Users → Option (List ℕ) → Option Entrant → Type 0
IsEntrant users None result = result ≡ None
IsEntrant users (Some name) result =
    (entrant : Entrant) × (result ≡ Some entrant) × (entrant.number ≡ number_of users name)
    × IfSome entrant.name (λ text. string_bytes text ≡ name)

abbrev pub is_lack : Refusal → Bool
is_lack NoGuarantee = true
is_lack _ = false

abbrev pub lacks_said : Answer Global → Bool
lacks_said (answer.Notice notice) = false
lacks_said (answer.Refusal why) = is_lack why
lacks_said (answer.Fault fault) = false
lacks_said (answer.Made reply) = false

-- the action is the reply to a login whose guarantee does not fit
abbrev pub lacks_in : {R K : Type 0} → Action Global R K → Bool
lacks_in (Say said) = lacks_said said
lacks_in (Hook call) = false
lacks_in OpenPassive = false
lacks_in (ConnectTo to) = false
lacks_in DropData = false
lacks_in (Start job) = false
lacks_in Abort = false
lacks_in CloseControl = false
lacks_in (ReleaseFloor user) = false

abbrev pub lacks_by : {R K : Type 0} → List (Action Global R K) → Bool
lacks_by actions = list_any lacks_in actions

-- why a login was refused for its guarantee, if a step with these actions says so
abbrev pub reason_for :
    {R K : Type 0} → List (Action Global R K) → Promises → Option Entrant → Option CarryFault
reason_for actions floors None = None
reason_for actions floors (Some entrant) =
    if lacks_by actions then refusal floors entrant.number else None
