use Rattle.ftp_daemon.proofs.KeptLemmas.{may_begin, owner_may}
use Rattle.ftp_daemon.proofs.serving.serve_booked.Goals as goal

pub serve_named-requires-clause-rated : goal.serve_named-requires-clause-rated
serve_named-requires-clause-rated g c κs within = may_begin c.args.service.limits g.P.OwnerSigns.allows

pub serve_named-requires-clause-owner : goal.serve_named-requires-clause-owner
serve_named-requires-clause-owner g c κs within = λ rates may. owner_may c.args.service.limits rates g.P.OwnerSigns.allows may
