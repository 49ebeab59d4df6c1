-- Replies that end a session.
use Rattle.std.specs.Prelude.{Bool, true, false, List, [], ◌∷◌, Option, Some, None}
use Rattle.std.specs.List.{list_any}
use Rattle.server_house.specs.declared.server_hooks.SessionRefusal.{SessionRefusal}
use Rattle.server_house.specs.declared.server_hooks.SessionRefusal.TheVariants as session
use Rattle.session_table.specs.declared.actions.Action.{Action}
use Rattle.session_table.specs.declared.actions.Action.TheVariants.{Say, Hook, OpenPassive, ConnectTo, DropData, Start, Abort, CloseControl, ReleaseFloor}
use Rattle.session_table.specs.declared.answers.Answer.{Answer}
use Rattle.session_table.specs.declared.answers.Answer.TheVariants as answer
use Rattle.session_table.specs.declared.refusals.Refusal.{Refusal}
use Rattle.session_table.specs.declared.refusals.Refusal.TheVariants.{TooManyLogins, TooManyHeldLines}
use Rattle.std.specs.declared.alloc.Global.{Global}

-- the refusal by which a session ends, but that of a guarantee, which is told with its reason
abbrev pub ending_refusal : Refusal → Option SessionRefusal
ending_refusal TooManyLogins = Some session.TooManyLogins
ending_refusal TooManyHeldLines = Some session.TooManyHeldLines
ending_refusal _ = None

abbrev pub refusal_in : Answer Global → Option SessionRefusal
refusal_in (answer.Notice notice) = None
refusal_in (answer.Refusal refusal) = ending_refusal refusal
refusal_in (answer.Fault fault) = None
refusal_in (answer.Made reply) = None

-- the refusal by which a session ends, if the action is its reply
abbrev pub refusal_of : {R K : Type 0} → Action Global R K → Option SessionRefusal
refusal_of (Say said) = refusal_in said
refusal_of (Hook call) = None
refusal_of OpenPassive = None
refusal_of (ConnectTo to) = None
refusal_of DropData = None
refusal_of (Start job) = None
refusal_of Abort = None
refusal_of CloseControl = None
refusal_of (ReleaseFloor user) = None

abbrev pub or_later : Option SessionRefusal → Option SessionRefusal → Option SessionRefusal
or_later (Some why) later = Some why
or_later None later = later

-- the first such refusal that a step with these actions says
abbrev pub first_refusal : {R K : Type 0} → List (Action Global R K) → Option SessionRefusal
first_refusal [] = None
first_refusal (action ∷ actions) = or_later (refusal_of action) (first_refusal actions)

abbrev pub is_refusing : Answer Global → Bool
is_refusing (answer.Notice notice) = false
is_refusing (answer.Refusal refusal) = true
is_refusing (answer.Fault fault) = false
is_refusing (answer.Made reply) = false

-- the action is a reply that refuses
abbrev pub is_refusal : {R K : Type 0} → Action Global R K → Bool
is_refusal (Say said) = is_refusing said
is_refusal (Hook call) = false
is_refusal OpenPassive = false
is_refusal (ConnectTo to) = false
is_refusal DropData = false
is_refusal (Start job) = false
is_refusal Abort = false
is_refusal CloseControl = false
is_refusal (ReleaseFloor user) = false

-- a step with these actions says a refusal
abbrev pub says_refusal : {R K : Type 0} → List (Action Global R K) → Bool
says_refusal actions = list_any is_refusal actions
