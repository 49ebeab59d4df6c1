-- The ends that a lane may report of a transfer.
use Rattle.std.specs.Prelude.{◌≡◌, Bool, true, false, None}
use Rattle.server_house.specs.declared.transfer_end.TransferEnd.{TransferEnd}
use Rattle.session_table.specs.declared.inputs.End.TheVariants.{Aborted, NoMemory}
use Rattle.transfer_worker.specs.declared.job.LaneJob.{LaneJob}
use Rattle.transfer_worker.specs.declared.job.LaneJob.TheVariants.{Send, Take}

-- the sink of an upload comes back, unless there was no memory to begin; a download has none
abbrev pub HasSinkOf : {K : Type 0} → Bool → TransferEnd K → Type 0
HasSinkOf false end = end.sink ≡ None
HasSinkOf true end = end.sink ≡ None → end.end ≡ NoMemory

module _ {R K C : Type 0} where
  -- octets are received
  abbrev pub is_upload : LaneJob R K C → Bool
  is_upload (Send user session source connection data_type) = false
  is_upload (Take user session connection sink data_type) = true

  -- a transfer was aborted only if its lane saw that it was to stop
  abbrev pub IsLaneEnd : LaneJob R K C → Bool → TransferEnd K → Type 0
  IsLaneEnd job seen end = (end.end ≡ Aborted → seen ≡ true) × HasSinkOf (is_upload job) end
