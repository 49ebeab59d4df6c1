-- A step of a session: the line that is served in it, and the points at which lack of memory may
-- stop it.
use Rattle.std.specs.Prelude.{ℕ, ◌≡◌, ◌&&◌, Bool, true, false, List, [], ◌∷◌, Option, Some, None, Ok}
use Rattle.authorizer.specs.Users.{Users}
use Rattle.ftp_wire.specs.Items.{Item}
use Rattle.ftp_wire.specs.Reading.{item_of}
use Rattle.ftp_wire.specs.declared.commands.Command.TheVariants as command
use Rattle.rate_floors.specs.Promises.{Promises}
use Rattle.virtual_tree.specs.Calls.{Exchange}
use Rattle.session_table.specs.declared.actions.Action.{Action}
use Rattle.session_table.specs.declared.inputs.Input.{Input}
use Rattle.session_table.specs.declared.inputs.Input.TheVariants as input
use Rattle.session_table.specs.Plans.{Ran, Stops}
use Rattle.session_table.specs.Plans.Plan.{Then}
use Rattle.session_table.specs.Table.{Taken, table}
use Rattle.session_table.specs.Views.{View, serves_lines}

-- the state of a session, and its held lines
pub record Standing : Type 0 where
  pub view : View
  pub held : List Item

-- exactly the calls of a plan were made, with this result, and these lines are held then
abbrev pub Took : {S A R K : Type 0} → (S → Exchange R K → S → Type 0) → Taken A R K
    → S → S → Promises → Promises → Standing → List (Action A R K) → Type 0
Took Step taken old new promises promises' standing actions =
    Ran Step taken.plan old new promises promises' standing.view actions
    × (standing.held ≡ taken.held)

-- the plan asks for nothing and ends with this result
abbrev pub IsTaken : {A R K : Type 0} → Taken A R K → Standing → List (Action A R K) → Type 0
IsTaken taken standing actions =
    (Then standing.view actions ≡ taken.plan) × (standing.held ≡ taken.held)

-- The effect of an input on the state of the session, its held lines, the store and the guarantees;
-- and the actions.
unfoldable pub SessionStep : {S A R K : Type 0} → (S → Exchange R K → S → Type 0) → Users → View
    → List Item → ℕ → Input A K → S → S → Promises → Promises → View → List Item
    → List (Action A R K) → Type 0
SessionStep {R = R} Step users view held moment reported old new promises promises' view' held'
    actions =
    Ran Step (table {R = R} users view held moment reported).plan old new promises promises' view'
    actions
    × (held' ≡ (table {R = R} users view held moment reported).held)

-- lack of memory may stop a step here: before its first call, or after looks at the store alone
unfoldable pub SessionStops : {S A R K : Type 0} → (S → Exchange R K → S → Type 0) → Users → View
    → List Item → ℕ → Input A K → S → S → Type 0
SessionStops {R = R} Step users view held moment reported old new =
    Stops Step (table {R = R} users view held moment reported).plan old new

abbrev pub holds_some : List Item → Bool
holds_some [] = false
holds_some (first ∷ others) = true

-- a held line may be taken
abbrev pub is_due : View → List Item → Bool
is_due view held = serves_lines view && holds_some held

-- the line whose turn it is: the new one if no line waits, otherwise the first of those that wait
abbrev pub in_its_turn : {A K : Type 0} → Input A K → List Item → Option Item
in_its_turn (input.Line item) [] = Some (item_of item)
in_its_turn input.Held (first ∷ others) = Some first
in_its_turn _ held = None

-- PASS
abbrev pub is_pass : Item → Bool
is_pass (Ok (command.Pass text)) = true
is_pass _ = false

abbrev pub is_pass_turn : Option Item → Bool
is_pass_turn None = false
is_pass_turn (Some item) = is_pass item

-- an input whose step may ask for admission: PASS in its turn
abbrev pub asks_floors : {A K : Type 0} → List Item → Input A K → Bool
asks_floors held reported = is_pass_turn (in_its_turn reported held)
