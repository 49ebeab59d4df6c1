-- Transfers by how they ended.
use Rattle.std.specs.Prelude.{ℕ, ◌+◌, ◌-◌, ◌^◌, Option, Some, None, min}
use Rattle.server_house.specs.declared.cause.EndCause.{EndCause}
use Rattle.server_house.specs.declared.cause.EndCause.TheVariants.{Aborted, NothingPrepared, NoClient, NotAccepted, NotConnected, NoMemory, File, Refused, Connection, ControlLost, ServerEnds, SessionEnded}
use Rattle.server_status.specs.declared.status.EndCounts.{EndCounts}

-- a count that stays at the greatest number
abbrev pub one_more : ℕ → ℕ
one_more n = min (n + 1) (2 ^ 64 - 1)

-- one more transfer, that ended for this reason; none if it came to its end
abbrev pub counted : EndCounts → Option EndCause → EndCounts
counted c None = record c { whole = one_more c.whole }
counted c (Some Aborted) = record c { aborted = one_more c.aborted }
counted c (Some NothingPrepared) = record c { unconnected = one_more c.unconnected }
counted c (Some NoClient) = record c { unconnected = one_more c.unconnected }
counted c (Some (NotAccepted error)) = record c { unconnected = one_more c.unconnected }
counted c (Some (NotConnected error)) = record c { unconnected = one_more c.unconnected }
counted c (Some (Connection error)) = record c { lost = one_more c.lost }
counted c (Some ControlLost) = record c { lost = one_more c.lost }
counted c (Some File) = record c { file = one_more c.file }
counted c (Some Refused) = record c { file = one_more c.file }
counted c (Some NoMemory) = record c { memory = one_more c.memory }
counted c (Some ServerEnds) = record c { owner = one_more c.owner }
counted c (Some SessionEnded) = record c { owner = one_more c.owner }
