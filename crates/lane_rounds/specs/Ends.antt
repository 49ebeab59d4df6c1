-- The end that a lane reports to a session for a job.
use Rattle.std.specs.Prelude.{Bool, true, false, Option, Some, None}
use Rattle.session_table.specs.declared.inputs.End.{End}
use Rattle.session_table.specs.declared.inputs.End.TheVariants.{Done, Lost, Local, Full, NoConnection, NoMemory, Aborted}
use Rattle.transfer_worker.specs.declared.end.JobEnd.{JobEnd}
use Rattle.transfer_worker.specs.declared.end.JobEnd.TheVariants as job
use Rattle.transfer_worker.specs.declared.job.Ran.{Ran}
use Rattle.transfer_worker.specs.declared.job.Ran.TheVariants.{Out, In, Unopened}

-- for a download, whose file is read and whose connection is written
abbrev pub sent_end : JobEnd → End
sent_end job.Ended = Done
sent_end job.ReadFault = Local
sent_end job.WriteFault = Lost
sent_end job.Memory = NoMemory
sent_end job.Stopped = Aborted

-- for an upload, whose connection is read and whose file is written
abbrev pub received_end : JobEnd → End
received_end job.Ended = Done
received_end job.ReadFault = Lost
received_end job.WriteFault = Local
received_end job.Memory = NoMemory
received_end job.Stopped = Aborted

-- the end reported, given what is left of the job: an unopened job failed at its file
abbrev pub reported_end : {R K C A : Type 0} → JobEnd → Ran R K C A → End
reported_end end (Out out) = sent_end end
reported_end end (In upload) = received_end end
reported_end end Unopened = sent_end end

-- the sink returned to the session: that of an upload
abbrev pub reported_sink : {R K C A : Type 0} → Ran R K C A → Option K
reported_sink (Out out) = None
reported_sink (In upload) = Some upload.flow.sink
reported_sink Unopened = None

-- the sink of an upload; a download has none
abbrev pub bound_sink : {K : Type 0} → Bool → Option K → Option K
bound_sink true sink = sink
bound_sink false sink = None

-- an upload has no sink any more
abbrev pub lacks_sink : {K : Type 0} → Bool → Option K → Bool
lacks_sink false sink = false
lacks_sink true None = true
lacks_sink true (Some sink) = false

-- An abort is one if the session has asked for it. A transfer that was stopped otherwise ends for
-- lack of memory, and so does an upload without a sink, which was not begun.
abbrev pub bound_end : End → Bool → Bool → End
bound_end end has_stopped true = NoMemory
bound_end Aborted false false = NoMemory
bound_end Aborted true false = Aborted
bound_end Done has_stopped false = Done
bound_end Lost has_stopped false = Lost
bound_end Local has_stopped false = Local
bound_end Full has_stopped false = Full
bound_end NoConnection has_stopped false = NoConnection
bound_end NoMemory has_stopped false = NoMemory
