-- Laws of the session table.
use Rattle.std.specs.Prelude.{ℕ, ◌≡◌, ◌+◌, ◌≤◌, ◌⊎◌, true, false, cond, List, [], ◌∷◌, ◌++◌, length, Option, Some, None, Ok, unwrap_or}
use Rattle.authorizer.specs.Changes.{is_password}
use Rattle.authorizer.specs.Users.{Users, allowed}
use Rattle.ftp_terms.specs.declared.letters.Letter.{Letter}
use Rattle.ftp_terms.specs.declared.letters.Letter.TheVariants.{Rename}
use Rattle.ftp_wire.specs.Items.{Item}
use Rattle.ftp_wire.specs.Reading.{item_of}
use Rattle.ftp_wire.specs.declared.commands.Command.TheVariants as command
use Rattle.virtual_path.specs.Path.{Path, joined, resolved}
use Rattle.session_table.specs.Always.{EachAdmission, EachCall, EachEnd}
use Rattle.session_table.specs.declared.actions.Action.{Action}
use Rattle.session_table.specs.declared.actions.Action.TheVariants as action
use Rattle.session_table.specs.declared.inputs.Input.{Input}
use Rattle.session_table.specs.declared.inputs.Input.TheVariants as input
use Rattle.session_table.specs.declared.rules.NamedRow.{NamedRow}
use Rattle.session_table.specs.declared.rules.NamedRow.TheVariants.{At}
use Rattle.session_table.specs.declared.stages.Stage.TheVariants.{Named}
use Rattle.session_table.specs.Calls.{Call}
use Rattle.session_table.specs.Judged.{home_of}
use Rattle.session_table.specs.Rules.{Line, rule}
use Rattle.session_table.specs.StateRows.{number_of}
use Rattle.session_table.specs.Plans.{Plan}
use Rattle.session_table.specs.Steps.{asks_floors, in_its_turn}
use Rattle.session_table.specs.Table.{most_held, table}
use Rattle.session_table.specs.Views.{View, is_inside, serves_lines}

-- of each step, whatever a client sends and a store answers
abbrev pub InEachStep : (A R K : Type 0)
    → (Users → View → List Item → ℕ → Input A K → Plan A R K → Type 0) → Type 0
InEachStep A R K Holds =
    (users : Users) (view : View) (held : List Item) (moment : ℕ) (reported : Input A K)
    → Holds users view held moment reported (table users view held moment reported).plan

-- ---- calls of the store

-- the store's path of a text, by a user who is logged in and has the letter there
pub record IsAllowedAt (users : Users) (view : View) (letter : Letter) (text : List ℕ)
    (stored : Path) : Type 0 where
  pub path : Path
  pub inside : is_inside view.stage ≡ true
  pub names : resolved view.cwd text ≡ Ok path
  pub stands : joined (home_of users view.name) path ≡ Ok stored
  pub holds : allowed users view.name letter path ≡ true

-- the call is on paths that are allowed; the entry to rename is the one that RNFR named
abbrev pub IsAllowedCall : {K : Type 0} → (Path → Type 0) → Option Path → Call K → Type 0
IsAllowedCall Allowed source (Call.Stat path) = Allowed path
IsAllowedCall Allowed source (Call.Listing path) = Allowed path
IsAllowedCall Allowed source (Call.OpenRead path offset) = Allowed path
IsAllowedCall Allowed source (Call.OpenWrite path mode moment) = Allowed path
IsAllowedCall Allowed source (Call.Finish sink moment) = ⊥
IsAllowedCall Allowed source (Call.MakeDir path) = Allowed path
IsAllowedCall Allowed source (Call.RemoveDir path) = Allowed path
IsAllowedCall Allowed source (Call.RemoveFile path) = Allowed path
IsAllowedCall Allowed source (Call.Rename from to) = (source ≡ Some from) × Allowed to

-- the call is for a row at a location, by its letter and its text; a row without a path makes none
abbrev pub IsAllowedFor : {K : Type 0} → Users → View → NamedRow (List ℕ) → Call K → Type 0
IsAllowedFor users view (At place) call =
    IsAllowedCall (IsAllowedAt users view place.letter place.text) view.source call
IsAllowedFor users view _ call = ⊥

-- a line that may be served at this input: the line that comes, or the first of those that wait
abbrev pub MayServe : {A K : Type 0} → Input A K → List Item → Line → Type 0
MayServe (input.Line item) held line = item_of item ≡ Ok line
MayServe input.Held (first ∷ others) line = first ≡ Ok line
MayServe _ held line = ⊥

-- the call is the `finish` of the sink that came back
abbrev pub IsReturned : {A K : Type 0} → Input A K → ℕ → Call K → Type 0
IsReturned (input.TransferEnded end (Some sink)) moment (Call.Finish other later) =
    (other ≡ sink) × (later ≡ moment)
IsReturned _ moment _ = ⊥

abbrev pub IsRightful : {A K : Type 0} → Users → View → List Item → ℕ → Input A K → Call K → Type 0
IsRightful users view held moment reported call = IsReturned reported moment call
    ⊎ ((line : Line) × MayServe reported held line × IsAllowedFor users view (rule line).row call)

unfoldable pub CallsAreRightful : (A R K : Type 0) → Type 0
CallsAreRightful A R K = InEachStep A R K (λ users view held moment reported.
    EachCall (IsRightful users view held moment reported))

unfoldable pub NoCallsOutside : (A R K : Type 0) → Type 0
NoCallsOutside A R K = InEachStep A R K (λ users view held moment reported plan.
    is_inside view.stage ≡ false → EachCall (IsReturned reported moment) plan)

-- ---- actions

module _ {A R K : Type 0} where
  -- number of transfers that an action starts, and of passive ports and transfers that it asks for
  abbrev pub starts_by : Action A R K → ℕ
  starts_by (action.Start job) = 1
  starts_by _ = 0

  abbrev pub asks_by : Action A R K → ℕ
  asks_by (action.Start job) = 1
  asks_by action.OpenPassive = 1
  asks_by _ = 0

  -- the number of the user whose floor is released
  abbrev pub release_by : Action A R K → List ℕ
  release_by (action.ReleaseFloor number) = number ∷ []
  release_by _ = []

  abbrev pub starting : List (Action A R K) → ℕ
  starting [] = 0
  starting (action ∷ actions) = starts_by action + starting actions

  abbrev pub asking : List (Action A R K) → ℕ
  asking [] = 0
  asking (action ∷ actions) = asks_by action + asking actions

  abbrev pub releases : List (Action A R K) → List ℕ
  releases [] = []
  releases (action ∷ actions) = release_by action ++ releases actions

unfoldable pub NoTransferUnprepared : (A R K : Type 0) → Type 0
NoTransferUnprepared A R K = InEachStep A R K (λ users view held moment reported plan.
    view.prepared ≡ false → EachEnd (λ admitted after actions. starting actions ≡ 0) plan)

-- only a line asks for something
abbrev pub most_asked : {A K : Type 0} → Input A K → ℕ
most_asked (input.Line item) = 1
most_asked input.Held = 1
most_asked _ = 0

unfoldable pub OneThingIsAsked : (A R K : Type 0) → Type 0
OneThingIsAsked A R K = InEachStep A R K (λ users view held moment reported.
    EachEnd (λ admitted after actions. asking actions ≤ most_asked reported))

-- ---- held lines

unfoldable pub FewLinesAreHeld : (A R K : Type 0) → Type 0
FewLinesAreHeld A R K =
    (users : Users) (view : View) (held : List Item) (moment : ℕ) (reported : Input A K)
    → length held ≤ most_held
    → length (table {A = A} {R = R} {K = K} users view held moment reported).held ≤ most_held

-- ---- floors

-- the number of the user who is logged in, if any
abbrev pub logged_in : View → List ℕ
logged_in view = cond (is_inside view.stage) (view.number ∷ []) []

-- The users who are admitted, who were logged in, whose floors are released, and who are logged in
-- after the step. Either a user is admitted while nobody is logged in, and is logged in after; or
-- nobody is admitted, and the user who is logged in, if any, stays and no floor is released, or
-- leaves and their floor is released.
abbrev pub Releases : List ℕ → List ℕ → List ℕ → List ℕ → Type 0
Releases [] before released after =
    ((released ≡ []) × (after ≡ before)) ⊎ ((released ≡ before) × (after ≡ []))
Releases (number ∷ []) before released after =
    (before ≡ []) × (released ≡ []) × (after ≡ number ∷ [])
Releases (number ∷ other ∷ others) before released after = ⊥

unfoldable pub FloorsAreReleasedOnce : (A R K : Type 0) → Type 0
FloorsAreReleasedOnce A R K = InEachStep A R K (λ users view held moment reported.
    EachEnd (λ admitted after actions.
    Releases admitted (logged_in view) (releases actions) (logged_in after)))

-- admission is asked for the user who was named, by PASS in its turn with that user's password
pub record IsRightfulAdmission {A K : Type 0} (users : Users) (view : View) (held : List Item)
    (reported : Input A K) (number : ℕ) : Type 0 where
  pub text : Option (List ℕ)
  pub serves : serves_lines view ≡ true
  pub turn : in_its_turn reported held ≡ Some (Ok (command.Pass text))
  pub named : view.stage ≡ Named
  pub right : is_password users view.name (unwrap_or text []) ≡ true
  pub whose : number ≡ number_of users view.name

unfoldable pub AdmissionsAreRightful : (A R K : Type 0) → Type 0
AdmissionsAreRightful A R K = InEachStep A R K (λ users view held moment reported.
    EachAdmission (IsRightfulAdmission users view held reported))

-- a step that does not serve PASS asks for no admission
unfoldable pub OthersAskNoFloors : (A R K : Type 0) → Type 0
OthersAskNoFloors A R K = InEachStep A R K (λ users view held moment reported plan.
    asks_floors held reported ≡ false → EachAdmission (λ number. ⊥) plan)

-- ---- what RNFR named

-- The path that RNFR named, after a step: none; or, if RNFR is served and allowed, its path; or, if
-- no line is served, the path before.
abbrev pub IsNamed : Users → View → Option Item → Option Path → Type 0
IsNamed users view item None = Unit {0}
IsNamed users view None (Some path) = view.source ≡ Some path
IsNamed users view (Some (Ok (command.Rnfr text))) (Some path) =
    IsAllowedAt users view Rename text path
IsNamed users view (Some _) (Some path) = ⊥

unfoldable pub SourcesAreNamed : (A R K : Type 0) → Type 0
SourcesAreNamed A R K = InEachStep A R K (λ users view held moment reported.
    EachEnd (λ admitted after actions. IsNamed users view
    (cond (serves_lines view) (in_its_turn reported held) None) after.source))
