use Rattle.std.proofs.Common.{◌≡◌, drop, map}
use Rattle.ftp_wire.specs.Table.{row, row_of}
use Rattle.ftp_wire.proofs.table.find_row.Given as goal

abbrev pub invariant-loop-row : goal.invariant-loop-row
invariant-loop-row l = row_of (map row l.rows) l.code ≡ row_of (map row (drop l.row-index l.rows)) l.code
