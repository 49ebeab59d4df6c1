-- The results of a step that was not made.
use Rattle.std.specs.Prelude.{ℕ, ◌≡◌, ◌+◌, Bool, true, cond, List, length, Option, Some}
use Rattle.control_session.specs.declared.no_step.NoStep.{NoStep}
use Rattle.control_session.specs.declared.no_step.NoStep.TheVariants.{NoMemory, Over}
use Rattle.control_session.specs.declared.turn_fault.TurnFault.{TurnFault}
use Rattle.control_session.specs.declared.turn_fault.TurnFault.TheVariants.{Memory}
use Rattle.session_table.specs.declared.inputs.Input.{Input}

-- the event of the data side, whether the control connection is to be closed, and the fault
abbrev pub LeftBy : {A K : Type 0} → NoStep A K → Option (Input A K) → Bool → Option TurnFault
    → Option (Input A K) → Bool → Option TurnFault → Type 0
LeftBy (NoMemory back) came closed lost came' closed' lost' =
    (came' ≡ back) × (closed' ≡ closed) × (lost' ≡ Some Memory)
LeftBy Over came closed lost came' closed' lost' =
    (came' ≡ came) × (closed' ≡ true) × (lost' ≡ lost)

-- the number of turns for held lines that may follow
abbrev pub open_held : {X : Type 0} → Bool → List X → ℕ
open_held closed held = cond closed 0 (length held + 1)
