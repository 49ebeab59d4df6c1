use Rattle.std.proofs.Common.{subst, sym}
use Rattle.paced_rounds.specs.Allowed.{AreAllowed}
use Rattle.paced_rounds.specs.History.{history, ended_in, stretch_under}
use Rattle.lent_parts.proofs.ChangeLemmas.{allowed_more}
use Rattle.lent_parts.proofs.rounds.LentRounds.into_rounds.Goals as goal

pub returns-clause-rates : goal.returns-clause-rates
returns-clause-rates g c =
    let rounds = c.args.self.rounds in
    subst (AreAllowed g.B.PartsName.rates) (sym c.into_rounds.ensures.history)
    (allowed_more g.B.PartsName.rates (ended_in rounds.ended.items) (stretch_under rounds.pace (history rounds.log.items)) c.args.self.ended c.args.self.rated)
