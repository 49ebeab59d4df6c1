use Rattle.server_status.specs.StatusData.{transfer_data}
use Rattle.server_status.proofs.Lists.{shown_more}
use Rattle.server_status.proofs.values.transfer_values.Goals as goal

pub loop-transfer-preserved : goal.loop-transfer-preserved
loop-transfer-preserved c =
    shown_more transfer_data c.args.transfers.now c.loop-transfer.transfer-index c.transfer-item.result c.loop-transfer.values.items c.push.new.self.items
    c.in_ok-transfer_value.field-0 c.loop-transfer-test.true c.transfer-item.is c.loop-transfer.invariant c.in_ok-transfer_value.ensures.transfer c.in_ok-push.ensures.items
