use Rattle.std.proofs.Common.{◌≡◌, ◌++◌, map, take}
use Rattle.status_table.specs.Lines.{session_line}
use Rattle.status_table.specs.Tables.{texts}
use Rattle.status_table.proofs.table.push_session_lines.Given as goal

abbrev pub invariant-loop-session : goal.invariant-loop-session
invariant-loop-session l =
    texts l.lines ≡ texts l.fn.lines ++ map (λ s. session_line l.now s.now) (take l.session-index l.sessions)
