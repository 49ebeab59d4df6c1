use Rattle.std.specs.Borrow.{Bor}
use Rattle.server_status.specs.declared.status.TransferStatus.{TransferStatus}
use Rattle.status_table.specs.Tables.{entry_lines, texts}
use Rattle.status_table.proofs.Screens.{flat_more}
use Rattle.status_table.proofs.table.push_entries.Goals as goal

pub loop-transfer-preserved : goal.loop-transfer-preserved
loop-transfer-preserved c =
    flat_more (λ (t : Bor TransferStatus). entry_lines c.args.earlier c.args.before c.args.now.now t.now) c.args.transfers.now c.loop-transfer.transfer-index c.transfer-item.result
    (texts c.args.lines.now) (texts c.loop-transfer.lines) (texts c.push_entry.new.lines) c.loop-transfer-test.true c.transfer-item.is c.loop-transfer.invariant c.in_ok-push_entry.ensures.pushed
