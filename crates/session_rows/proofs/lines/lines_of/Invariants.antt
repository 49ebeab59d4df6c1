use Rattle.std.proofs.Common.{◌++◌, ℕ, List, drop, map}
use Rattle.ftp_terms.specs.LineText.{text_of}
use Rattle.session_table.specs.Texts.{AreReported}
use Rattle.session_table.specs.TransferRows.{entry_reported}
use Rattle.virtual_tree.specs.Calls.{entry_of}
use Rattle.session_rows.proofs.lines.lines_of.Given as goal

-- whatever lines tell what is left make, behind those so far, the whole
abbrev pub invariant-loop-entry : goal.invariant-loop-entry
invariant-loop-entry g l =
    (rest : List (List ℕ))
    → AreReported (map (entry_reported l.users.users l.state l.above l.style) (map entry_of (drop l.entry-index l.entries))) rest
    → AreReported (map (entry_reported l.users.users l.state l.above l.style) (map entry_of l.entries)) (map text_of l.lines.items ++ rest)
