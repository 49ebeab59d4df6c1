-- The rows of the code as those of a table of keys.
use Rattle.std.specs.Prelude.{List, map, Option, Some, None, Result, Ok, Err}
use Rattle.std.specs.Net.Addr.{ipv4_octets}
use Rattle.toml.specs.Data.{no_items}
use Rattle.toml.specs.View.{table_view, items_view}
use Rattle.config_file.specs.declared.fault.Problem.{Problem}
use Rattle.config_file.specs.declared.row.Absent.{Absent}
use Rattle.config_file.specs.declared.row.Absent.TheVariants as absent
use Rattle.config_file.specs.declared.row.Row.{Row}
use Rattle.config_file.specs.declared.reading.Reading.{Reading}
use Rattle.config_file.specs.declared.reading.Reading.TheVariants as reading
use Rattle.config_file.specs.Keys.{KeyRow}
use Rattle.config_file.specs.Values.{Held, nothing, number, text, flag, address, inner, items, Judged}

abbrev pub default_of : Absent → Option Held
default_of absent.Refused = None
default_of absent.Nothing = Some nothing
default_of (absent.Number n) = Some (number n)
default_of (absent.Line s) = Some (text s.now)
default_of (absent.Flag b) = Some (flag b)
default_of (absent.Address octets) = Some (address octets)
default_of absent.NoRows = Some (items no_items)

abbrev pub row_of : Row → KeyRow
row_of row = record { key = row.0.now; kind = row.1; default = default_of row.2 }

abbrev pub rows_of : List Row → List KeyRow
rows_of rows = map row_of rows

abbrev pub held_of : Reading → Held
held_of reading.Nothing = nothing
held_of (reading.Number n) = number n
held_of (reading.Text s) = text s.now
held_of (reading.Flag b) = flag b
held_of (reading.Address a) = address (ipv4_octets a)
held_of (reading.Table t) = inner (table_view t.now)
held_of (reading.Rows values) = items (items_view values.now)

abbrev pub judged_of : Result Reading Problem → Judged
judged_of (Ok found) = Ok (held_of found)
judged_of (Err problem) = Err problem
