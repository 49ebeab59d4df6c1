-- A run that lack of memory ends.
use Rattle.std.specs.Prelude.{◌≡◌, ◌≢◌, ◌⊎◌, ℕ, All, ◌<◌, List, [], length, Result, Err}
use Rattle.line_rates.specs.Rates.{Rates}
use Rattle.world_terms.specs.declared.event.Event.{Event}
use Rattle.world_terms.specs.declared.event.EventAnswer.{EventAnswer}
use Rattle.world_terms.specs.declared.fault.StepFault.{StepFault}
use Rattle.world_terms.specs.declared.fault.StepFault.TheVariants.{Memory}
use Rattle.world_terms.specs.Lanes.{World}
use Rattle.world_terms.specs.Runs.{IsRunOfSome}

-- memory did not run out for the event of this reply
abbrev pub HadMemory : Result EventAnswer StepFault → Type 0
HadMemory reply = reply ≢ Err Memory

-- a run of the events before the one for which memory ran out, if there is an event at all
pub record IsStoppedRun (rates : ℕ → Rates) (start : World) (events : List Event) (end : World)
    : Type 0
  where
    pub some : IsRunOfSome rates start events end
    pub had : All HadMemory some.replies
    pub left : (some.done < length events) ⊎ (events ≡ [])
