use Rattle.std.proofs.Common.{◌≡◌, ◌++◌, ℕ, List, drop, map}
use Rattle.session_table.specs.Texts.{AreReported, ended_lines}
use Rattle.session_table.specs.TransferRows.{entry_reported}
use Rattle.virtual_tree.specs.Calls.{entry_of}
use Rattle.session_rows.proofs.lines.octets_of.Given as goal

-- the octets so far are those of lines that, with lines for what is left behind them, are the whole
abbrev pub invariant-loop-entry : goal.invariant-loop-entry
invariant-loop-entry g l =
    (done : List (List ℕ)) × (l.octets.items ≡ ended_lines done)
    × ((rest : List (List ℕ))
    → AreReported (map (entry_reported l.users.users l.state l.above l.style) (map entry_of (drop l.entry-index l.entries))) rest
    → AreReported (map (entry_reported l.users.users l.state l.above l.style) (map entry_of l.entries)) (done ++ rest))
