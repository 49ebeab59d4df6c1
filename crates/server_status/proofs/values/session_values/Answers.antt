use Rattle.server_status.specs.StatusData.{session_data}
use Rattle.server_status.proofs.Lists.{shown_more}
use Rattle.server_status.proofs.values.session_values.Goals as goal

pub loop-session-preserved : goal.loop-session-preserved
loop-session-preserved c =
    shown_more session_data c.args.sessions.now c.loop-session.session-index c.session-item.result c.loop-session.values.items c.push.new.self.items
    c.in_ok-session_value.field-0 c.loop-session-test.true c.session-item.is c.loop-session.invariant c.in_ok-session_value.ensures.session c.in_ok-push.ensures.items
