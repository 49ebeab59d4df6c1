-- Values for a QUIT that waits.
use Rattle.std.specs.Prelude.{Option, Some, None}
use Rattle.session_table.specs.declared.stages.Control.{Control}
use Rattle.session_table.specs.declared.stages.Control.TheVariants.{Quitting}

-- a value, if a QUIT waits
abbrev pub if_quitting : {X : Type 0} → Control → X → Option X
if_quitting Quitting value = Some value
if_quitting _ value = None
