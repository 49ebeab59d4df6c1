-- Events of the data side among the inputs.
use Rattle.std.specs.Prelude.{Bool, true, false}
use Rattle.session_table.specs.declared.inputs.Input.{Input}
use Rattle.session_table.specs.declared.inputs.Input.TheVariants as input

-- the end of a transfer, or a passive port
abbrev pub is_event : {A K : Type 0} → Input A K → Bool
is_event (input.TransferEnded end sink) = true
is_event (input.DataReady port) = true
is_event _ = false
