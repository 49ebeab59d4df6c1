-- Transfers that are cut by the end of their session.
use Rattle.std.specs.Prelude.{Bool, true, false, Option, Some, None}
use Rattle.std.specs.declared.alloc.Global.{Global}
use Rattle.server_house.specs.declared.cause.EndCause.{EndCause}
use Rattle.server_house.specs.declared.cause.EndCause.TheVariants.{ControlLost, ServerEnds, SessionEnded}
use Rattle.session_table.specs.declared.inputs.End.TheVariants.{Done}
use Rattle.session_table.specs.declared.inputs.Input.{Input}
use Rattle.session_table.specs.declared.inputs.Input.TheVariants.{TransferEnded}

-- whoever ended the session cut its transfer: the server that ends, its owner, or the client
abbrev pub cut_by : Bool → Bool → EndCause
cut_by true is_ended = ServerEnds
cut_by false true = SessionEnded
cut_by false false = ControlLost

-- the reason for which the transfer was cut whose end is the last of its session, if it was
abbrev pub cause_of_cut : {K : Type 0} → Option (Input Global K) → Bool → Bool → Option EndCause
cause_of_cut (Some (TransferEnded Done sink)) is_ending is_ended = None
cause_of_cut (Some (TransferEnded end sink)) is_ending is_ended = Some (cut_by is_ending is_ended)
cause_of_cut _ is_ending is_ended = None
