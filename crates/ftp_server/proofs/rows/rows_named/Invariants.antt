use Rattle.std.proofs.Common.{◌≡◌, map, string_bytes, take}
use Rattle.ftp_server.specs.Rows.{named_rows}
use Rattle.ftp_server.proofs.rows.rows_named.Given as goal

abbrev pub invariant-loop-place : goal.invariant-loop-place
invariant-loop-place l = l.rows.items ≡ named_rows l.users.users l.set (map string_bytes (take l.place l.names))
