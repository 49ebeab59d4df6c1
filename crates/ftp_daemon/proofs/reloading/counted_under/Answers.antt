use Rattle.ftp_daemon.proofs.Counted.{are_counted}
use Rattle.ftp_daemon.proofs.reloading.counted_under.Goals as goal

pub returns-in-Ok-clause-counted : goal.returns-in-Ok-clause-counted
returns-in-Ok-clause-counted c = are_counted c.args.floors.now c.in-Ok.new c.args.limits.now c.in-Ok.ensures.carried c.promises_fit.ensures.fit
