use Rattle.std.proofs.Common.{◌<◌, length}
use Rattle.script_session.proofs.side.drain.Given as goal

abbrev pub invariant-loop-read : goal.invariant-loop-read
invariant-loop-read g l = record { room : 0 < length l.buffer }
