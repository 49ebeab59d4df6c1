use Rattle.ftpd.proofs.Told.{told}
use Rattle.ftpd.proofs.serving.serve_with.Goals as goal

pub returns-clause-issued : goal.returns-clause-issued
returns-clause-issued g c = told _ c.serve_logged-served.result c.with_lost.result c.with_lost.ensures.same c.serve_logged-served.ensures.issued

pub returns-clause-kept : goal.returns-clause-kept
returns-clause-kept g c = told _ c.serve_logged-served.result c.with_lost.result c.with_lost.ensures.same c.serve_logged-served.ensures.kept

pub returns-clause-every_second : goal.returns-clause-every_second
returns-clause-every_second g c = told _ c.serve_logged-served.result c.with_lost.result c.with_lost.ensures.same c.serve_logged-served.ensures.every_second
