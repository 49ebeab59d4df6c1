use Rattle.std.proofs.Common.{ap, ◌∙◌}
use Rattle.round_pace.specs.Earned.{tick_of}
use Rattle.paced_rounds.specs.Settled.{rounds_of}
use Rattle.ftp_daemon.proofs.KeptLemmas.{none_allowed}
use Rattle.ftp_daemon.proofs.server.Server.open.Goals as goal

pub lend_line-desk-requires-clause-new : goal.lend_line-desk-requires-clause-new
lend_line-desk-requires-clause-new g c = (c.args.service.limits, c.in-Ok.ensures.new)

pub lend_line-desk-requires-clause-rated : goal.lend_line-desk-requires-clause-rated
lend_line-desk-requires-clause-rated g c =
    ap g.B.PartsName.rates (c.histories_keep_rates.ensures.new (tick_of c.in-Ok.made.begun.micros) c.args.service.limits c.in-Ok.made.pace c.in-Ok.ensures.new) ∙ c.requires.rated

pub returns-in-Err-clause-carried : goal.returns-in-Err-clause-carried
returns-in-Err-clause-carried g c = c.settle_unlent.ensures.unheld.0 ∙ c.requires.carried

pub returns-in-Err-clause-rates : goal.returns-in-Err-clause-rates
returns-in-Err-clause-rates g c =
    none_allowed g.B.PartsName.rates (rounds_of c.settle_unlent.result) c.settle_unlent.ensures.unheld.1
