use Rattle.std.proofs.Common.{arith}
use Rattle.control_session.proofs.Going.{releases_step}
use Rattle.control_session.proofs.carrying.release_all.Goals as goal

pub loop-action-preserved : goal.loop-action-preserved
loop-action-preserved g c =
    let inv = c.loop-action.invariant in
    releases_step g.H.Host.Does _ _ _ _ inv.0 c.args.actions.now c.loop-action.action-index c.action-item.result (omega (arith, c.loop-action-test.true)) c.action-item.is inv.1 c.release_one.ensures.released inv.2
