use Rattle.std.proofs.Common.{◌≡◌, take}
use Rattle.ftp_server.specs.Rows.{last_set}
use Rattle.ftp_server.proofs.rows.last_set.Given as goal

abbrev pub invariant-loop-place : goal.invariant-loop-place
invariant-loop-place l = l.found ≡ last_set (take l.place l.set) l.number
