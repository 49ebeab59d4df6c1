use Rattle.std.proofs.Common.{◌≡◌, ◌++◌, map}
use Rattle.usage_report.specs.Ranks.{entry_view, row_view}
use Rattle.usage_report.proofs.rank.rows_of.Given as goal

-- the rows so far, and the entries that are left
abbrev pub invariant-entries : goal.invariant-entries
invariant-entries l =
    (goal.iterator-entries).can_next l.key-iterator ×
    (goal.iterator-entries).is_finite l.key-iterator ×
    (map row_view l.all.items ++ map entry_view l.key-iterator ≡ map entry_view l.rows.entries)
