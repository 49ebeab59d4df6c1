-- The rows of a report in their order.
use Rattle.std.specs.Prelude.{◌≡◌, ℕ, ◌-◌, List, IsPermutation, String, map, string_bytes}
use Rattle.std.specs.BTreeMap.{BTreeMap}
use Rattle.std.specs.List.Sorted.{IsNonDecreasingBy, IsStableByKey}
use Rattle.std.specs.Ordering.{nat_cmp}
use Rattle.std.specs.declared.alloc.Global.{Global}
use Rattle.log_lines.specs.Words.{Octets}
use Rattle.usage_report.specs.declared.adding.Sums.{Sums}
use Rattle.usage_report.specs.declared.rank.UsageRow.{UsageRow}

abbrev pub row_view : UsageRow → Octets × Sums
row_view row = (row.key.now, row.sums)

abbrev pub entry_view : String Global × Sums → Octets × Sums
entry_view entry = (string_bytes entry.0, entry.1)

-- the rank of a row: the more octets, the lower
abbrev pub rank : UsageRow → ℕ
rank row = 18446744073709551615 - row.sums.octets

-- the rows of all keys, the one with the most octets first; rows with as many octets stay in the
-- order of the map, which is that of their keys
abbrev pub AreRanked : BTreeMap (String Global) Sums → List UsageRow → Type 0
AreRanked rows ranked =
    (all : List UsageRow) × (map row_view all ≡ map entry_view rows.entries)
    × IsPermutation all ranked × IsNonDecreasingBy rank ranked
    × IsStableByKey rank nat_cmp all ranked
