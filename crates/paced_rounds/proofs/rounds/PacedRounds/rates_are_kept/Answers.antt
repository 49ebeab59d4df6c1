use Rattle.paced_rounds.specs.History.{stretches}
use Rattle.paced_rounds.proofs.RunLemmas.{keeps_rates}
use Rattle.paced_rounds.proofs.rounds.PacedRounds.rates_are_kept.Goals as goal

pub returns-clause-kept : goal.returns-clause-kept
returns-clause-kept g c =
    keeps_rates c.stretches_keep_rates.ensures.kept c.args.self.now.pace c.args.self.now.latest (stretches c.args.self.now.ended.items c.args.self.now.pace c.args.self.now.log.items) c.args.self.now.run
