-- The end reported for a job.
use Rattle.std.specs.Prelude.{◌≡◌, ◌⊎◌, ◌++◌, ℕ, List, [], ◌∷◌, Option, Some, None}
use Rattle.data_pump.specs.declared.pumped.PumpEnd.{PumpEnd}
use Rattle.data_pump.specs.declared.pumped.PumpEnd.TheVariants as pump
use Rattle.data_pump.specs.declared.pumped.OpenFault.{OpenFault}
use Rattle.data_pump.specs.declared.pumped.OpenFault.TheVariants as opening
use Rattle.transfer_worker.specs.declared.end.JobEnd.{JobEnd}
use Rattle.transfer_worker.specs.declared.end.JobEnd.TheVariants.{Ended, ReadFault, WriteFault, Memory, Stopped}
use Rattle.transfer_worker.specs.declared.gate.Go.{Go}
use Rattle.transfer_worker.specs.declared.gate.Go.TheVariants.{Stop}
use Rattle.transfer_worker.specs.declared.job.Ran.{Ran}
use Rattle.transfer_worker.specs.declared.job.Ran.TheVariants.{Out, In, Unopened}

-- the end of a job for a pump's end
abbrev pub end_of : PumpEnd → Option JobEnd
end_of pump.Ended = Some Ended
end_of pump.More = None
end_of pump.ReadFault = Some ReadFault
end_of pump.WriteFault = Some WriteFault
end_of pump.Memory = Some Memory

abbrev pub fault_of : OpenFault → JobEnd
fault_of opening.ReadFault = ReadFault
fault_of opening.Memory = Memory

-- the end reported for a transfer with this last pump is that of the pump; or `Stopped`, if the
-- pump left more and the gate said Stop
abbrev pub EndsAs : Go → PumpEnd → JobEnd → Type 0
EndsAs go last end = (end_of last ≡ Some end) ⊎ ((end ≡ Stopped) × (last ≡ pump.More) × (go ≡ Stop))

abbrev pub MayReport : {R K C A : Type 0} → Go → JobEnd → Ran R K C A → Type 0
MayReport go end (Out out) = EndsAs go out.last end
MayReport go end (In upload) = EndsAs go upload.last end
MayReport go end Unopened = (end ≡ ReadFault) ⊎ (end ≡ Memory)

-- a gate that records what it is told has recorded this too, once
abbrev pub Reports : Option (List (ℕ × JobEnd)) → Option (List (ℕ × JobEnd)) → ℕ → JobEnd → Type 0
Reports old new session end =
    (before : List (ℕ × JobEnd)) → old ≡ Some before → new ≡ Some (before ++ (session, end) ∷ [])
