use Rattle.ftp_server.proofs.Last.{last_step}
use Rattle.ftp_server.proofs.rows.last_set.Goals as goal

pub loop-place-preserved : goal.loop-place-preserved
loop-place-preserved c =
    last_step c.args.set.now c.loop-place.place _ c.args.number c.loop-place.found c.later-found.result c.loop-place-test.true c.loop-place.invariant c.later-found.ensures.later
