-- The job of a transfer, as its lane has it.
use Rattle.std.specs.Prelude.{◌≡◌, ℕ, ◌/◌, Bool, true, false, nat_le, List, length, Option, Some, None}
use Rattle.std.specs.declared.alloc.Global.{Global}
use Rattle.server_house.specs.declared.connection.DataConnection.{DataConnection}
use Rattle.server_house.specs.declared.connection.TheConstants.{FIRST_WRITE}
use Rattle.server_house.specs.declared.served.Served.{Served}
use Rattle.server_house.specs.declared.served.Served.TheVariants.{Listing, File}
use Rattle.ftp_terms.specs.declared.data_type.DataType.{DataType}
use Rattle.ftp_terms.specs.declared.data_type.DataType.TheVariants.{Ascii, Image}
use Rattle.session_table.specs.declared.actions.Job.{Job}
use Rattle.session_table.specs.declared.actions.Job.TheVariants.{Text, SendFile, TakeFile}
use Rattle.transfer_worker.specs.declared.job.LaneJob.{LaneJob}
use Rattle.transfer_worker.specs.declared.job.LaneJob.TheVariants.{Send, Take}

-- octets are received only for a file that is taken
abbrev pub is_upload : {R K : Type 0} → Job Global R K → Bool
is_upload (Text octets) = false
is_upload (SendFile source data_type) = false
is_upload (TakeFile sink data_type) = true

-- the octets that are expected are written with the first write; under TYPE A each may be two
abbrev pub fits_first_write : Option ℕ → DataType → Bool
fits_first_write None data_type = false
fits_first_write (Some count) Image = nat_le count FIRST_WRITE
fits_first_write (Some count) Ascii = nat_le count (FIRST_WRITE / 2)

-- whether a download is brief: a listing by its length, and a file only if what is known of it fits
abbrev pub IsBrief : {R K : Type 0} → (R → Option (List ℕ)) → Job Global R K → Bool → Type 0
IsBrief remaining (Text octets) brief = brief ≡ nat_le (length octets) FIRST_WRITE
IsBrief remaining (SendFile source data_type) brief =
    (octets : List ℕ) → brief ≡ true → remaining source ≡ Some octets
    → fits_first_write (Some (length octets)) data_type ≡ true
IsBrief remaining (TakeFile sink data_type) brief = brief ≡ false

-- the sink of an upload, which the session gets back
abbrev pub sink_in : {R K : Type 0} → Job Global R K → Option K
sink_in (Text octets) = None
sink_in (SendFile source data_type) = None
sink_in (TakeFile sink data_type) = Some sink

-- a listing is sent as it is
abbrev pub lane_job : {R K : Type 0} → Job Global R K → DataConnection → ℕ → ℕ
    → LaneJob (Served Global R) K DataConnection
lane_job (Text octets) connection user session = Send user session (Listing octets) connection Image
lane_job (SendFile source data_type) connection user session =
    Send user session (File source) connection data_type
lane_job (TakeFile sink data_type) connection user session =
    Take user session connection sink data_type

-- the sink of a job that no lane took
abbrev pub sink_of : {R K C : Type 0} → LaneJob R K C → Option K
sink_of (Send user session source connection data_type) = None
sink_of (Take user session connection sink data_type) = Some sink
