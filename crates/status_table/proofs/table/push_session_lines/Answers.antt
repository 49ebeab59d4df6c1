use Rattle.std.proofs.Common.{string_bytes}
use Rattle.std.specs.Borrow.{Bor}
use Rattle.server_status.specs.declared.status.SessionStatus.{SessionStatus}
use Rattle.status_table.specs.Lines.{session_line}
use Rattle.status_table.specs.Tables.{texts}
use Rattle.status_table.proofs.Screens.{line_more}
use Rattle.status_table.proofs.table.push_session_lines.Goals as goal

pub loop-session-preserved : goal.loop-session-preserved
loop-session-preserved c =
    line_more (λ (s : Bor SessionStatus). session_line c.args.now.now s.now) c.args.sessions.now c.loop-session.session-index c.session-item.result (texts c.args.lines.now)
    (texts c.loop-session.lines) (texts c.push.new.lines) (string_bytes c.in_ok-line.line) c.loop-session-test.true c.session-item.is c.loop-session.invariant
    c.in_ok-push.ensures.pushed c.in_ok-line.ensures.line
