use Rattle.server_status.specs.StatusRead.{IsSessionOf}
use Rattle.server_status.proofs.Lists.{are_of-more}
use Rattle.server_status.proofs.records.sessions_of.Goals as goal

pub loop-value-preserved : goal.loop-value-preserved
loop-value-preserved c =
    are_of-more IsSessionOf c.args.values.now c.loop-value.value-index c.value-item.result c.loop-value.sessions.items c.push.new.self.items c.in_ok-session_of.field-0
    c.loop-value-test.true c.value-item.is c.loop-value.invariant c.in_ok-session_of.ensures.session c.in_ok-push.ensures.items
