use Rattle.paced_rounds.specs.History.{stretches, ended_in, history}
use Rattle.paced_rounds.proofs.GuaranteeLemmas.{run_guaranteed, next_guaranteed}
use Rattle.paced_rounds.proofs.rounds.PacedRounds.guarantees_are_offered.Goals as goal

pub returns-clause-rounds : goal.returns-clause-rounds
returns-clause-rounds g c =
    run_guaranteed c.guarantees_are_offered.ensures.stretches c.args.self.now.pace c.args.self.now.latest (stretches c.args.self.now.ended.items c.args.self.now.pace c.args.self.now.log.items) c.args.self.now.run

pub returns-clause-next : goal.returns-clause-next
returns-clause-next g c =
    next_guaranteed c.guarantees_are_offered.ensures.next c.args.self.now.pace c.args.self.now.latest (ended_in c.args.self.now.ended.items) (history c.args.self.now.log.items) c.args.self.now.run
