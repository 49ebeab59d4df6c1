use Rattle.std.proofs.Common.{string_bytes}
use Rattle.std.specs.Borrow.{Bor}
use Rattle.server_status.specs.declared.status.TransferStatus.{TransferStatus}
use Rattle.status_table.specs.Lines.{user_line}
use Rattle.status_table.specs.Tables.{texts}
use Rattle.status_table.proofs.Screens.{line_more}
use Rattle.status_table.proofs.table.push_users.Goals as goal

pub loop-transfer-preserved : goal.loop-transfer-preserved
loop-transfer-preserved c =
    line_more (λ (t : Bor TransferStatus). user_line c.args.before c.args.now.now t.now) c.args.users.now c.loop-transfer.transfer-index c.transfer-item.result (texts c.args.lines.now)
    (texts c.loop-transfer.lines) (texts c.push.new.lines) (string_bytes c.in_ok-line.line) c.loop-transfer-test.true c.transfer-item.is c.loop-transfer.invariant
    c.in_ok-push.ensures.pushed c.in_ok-line.ensures.line
