-- The events of a handler, and the effect of a list of actions on it.
use Rattle.std.specs.Prelude.{ℕ, ◌≡◌, List, [], ◌∷◌}
use Rattle.virtual_path.specs.Path.{path_text}
use Rattle.session_table.specs.declared.actions.Action.{Action}
use Rattle.session_table.specs.declared.actions.Action.TheVariants as action
use Rattle.session_table.specs.declared.actions.HookCall.{HookCall}
use Rattle.session_table.specs.declared.actions.HookCall.TheVariants as hook

-- an event: with the user's name, or with the text of the user's path
pub data Event : Type 0 where
  Connected : Event
  Disconnected : Event
  LoggedIn : List ℕ → Event
  LoginFailed : List ℕ → Event
  LoggedOut : List ℕ → Event
  FileSent : List ℕ → Event
  FileReceived : List ℕ → Event
  FileNotSent : List ℕ → Event
  FileNotReceived : List ℕ → Event

abbrev pub event_of : {A : Type 0} → HookCall A → Event
event_of hook.Connect = Connected
event_of hook.Disconnect = Disconnected
event_of (hook.Login name) = LoggedIn name
event_of (hook.LoginFailed name) = LoginFailed name
event_of (hook.Logout name) = LoggedOut name
event_of (hook.FileSent path) = FileSent (path_text path)
event_of (hook.FileReceived path) = FileReceived (path_text path)
event_of (hook.IncompleteFileSent path) = FileNotSent (path_text path)
event_of (hook.IncompleteFileReceived path) = FileNotReceived (path_text path)

-- the effect of one action on a handler: a Hook calls it, and no other action does
abbrev pub Leaves : {H A R K : Type 0} → (H → Event → H → Type 0) → H → Action A R K → H → Type 0
Leaves Reported old (action.Hook call) new = Reported old (event_of call) new
Leaves Reported old _ new = new ≡ old

-- the effect of a list of actions on it, one after another
abbrev pub AllLeave : {H A R K : Type 0} → (H → Event → H → Type 0) → H → List (Action A R K) → H
    → Type 0
AllLeave Reported old [] new = new ≡ old
AllLeave {H} Reported old (first ∷ others) new =
    (mid : H) × Leaves Reported old first mid × AllLeave Reported mid others new
