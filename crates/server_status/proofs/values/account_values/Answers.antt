use Rattle.server_status.specs.StatusData.{account_data}
use Rattle.server_status.proofs.Lists.{shown_more}
use Rattle.server_status.proofs.values.account_values.Goals as goal

pub loop-account-preserved : goal.loop-account-preserved
loop-account-preserved c =
    shown_more account_data c.args.accounts.now c.loop-account.account-index c.account-item.result c.loop-account.values.items c.push.new.self.items
    c.in_ok-account_value.field-0 c.loop-account-test.true c.account-item.is c.loop-account.invariant c.in_ok-account_value.ensures.account c.in_ok-push.ensures.items
