-- Commands that are refused for what they ask of the store.
use Rattle.std.specs.Prelude.{ℕ, ◌≡◌, if◌then◌else◌, Bool, true, false, List, [], ◌∷◌, Option, Some, None, Ok}
use Rattle.std.specs.declared.alloc.Global.{Global}
use Rattle.ftp_wire.specs.Items.{Item}
use Rattle.ftp_wire.specs.Written.{written}
use Rattle.ftp_wire.specs.declared.commands.Command.{Command}
use Rattle.session_table.specs.Steps.{in_its_turn}
use Rattle.session_table.specs.declared.actions.Action.{Action}
use Rattle.session_table.specs.declared.actions.Action.TheVariants.{Say, Hook, OpenPassive, ConnectTo, DropData, Start, Abort, CloseControl, ReleaseFloor}
use Rattle.session_table.specs.declared.answers.Answer.{Answer}
use Rattle.session_table.specs.declared.answers.Answer.TheVariants as answer
use Rattle.session_table.specs.declared.inputs.Input.{Input}
use Rattle.session_table.specs.declared.refusals.Refusal.{Refusal}
use Rattle.session_table.specs.declared.refusals.Refusal.TheVariants as refusal
use Rattle.virtual_path.specs.declared.fault.PathFault.{PathFault}
use Rattle.virtual_path.specs.declared.fault.PathFault.TheVariants as path
use Rattle.virtual_tree.specs.declared.fault.StoreFault.{StoreFault}
use Rattle.virtual_tree.specs.declared.fault.StoreFault.TheVariants as store

-- the store has a fault of its own
abbrev pub is_fault : StoreFault → Bool
is_fault store.Full = true
is_fault store.Device = true
is_fault store.Memory = true
is_fault _ = false

-- the refusal is for what a command asks of the store: its path, its letters, or what is there
abbrev pub is_of_store : Refusal → Bool
is_of_store (refusal.Store fault) = if is_fault fault then false else true
is_of_store (refusal.Path path.Memory) = false
is_of_store (refusal.Path fault) = true
is_of_store refusal.NotPermitted = true
is_of_store refusal.ListsNoFile = true
is_of_store _ = false

abbrev pub declined_said : Answer Global → Option Refusal
declined_said (answer.Notice notice) = None
declined_said (answer.Refusal why) = if is_of_store why then Some why else None
declined_said (answer.Fault fault) = None
declined_said (answer.Made reply) = None

-- such a refusal, if the action is its reply
abbrev pub declined_in : {R K : Type 0} → Action Global R K → Option Refusal
declined_in (Say said) = declined_said said
declined_in (Hook call) = None
declined_in OpenPassive = None
declined_in (ConnectTo to) = None
declined_in DropData = None
declined_in (Start job) = None
declined_in Abort = None
declined_in CloseControl = None
declined_in (ReleaseFloor user) = None

abbrev pub or_else : Option Refusal → Option Refusal → Option Refusal
or_else (Some why) others = Some why
or_else None others = others

-- the first such refusal that a step with these actions replies
abbrev pub declined_by : {R K : Type 0} → List (Action Global R K) → Option Refusal
declined_by [] = None
declined_by (action ∷ actions) = or_else (declined_in action) (declined_by actions)

-- the line is that of the command whose turn it is at the input, as a client writes it
abbrev pub IsLineOf : {A K : Type 0} → List Item → Input A K → List ℕ → Type 0
IsLineOf held reported line =
    (command : Command (List ℕ)) × (in_its_turn reported held ≡ Some (Ok command))
    × (line ≡ written command)
