use Rattle.std.proofs.Common.{ap, ◌∙◌, sym, subst}
use Rattle.round_pace.specs.Histories.{rates_of}
use Rattle.paced_rounds.specs.Allowed.{AreAllowed}
use Rattle.paced_rounds.specs.History.{history, ended_in, stretch_under}
use Rattle.lent_parts.proofs.ChangeLemmas.{allowed_more, in_both}
use Rattle.lent_parts.proofs.rounds.LentRounds.change.Goals as goal

pub invariant_of-self-clause-rated : goal.invariant_of-self-clause-rated
invariant_of-self-clause-rated g c =
    let old = c.args.self.now in
    in_both c.change.result c.change.ensures.rates c.change.ensures.unchanged
    (λ e. ap g.B.PartsName.rates e ∙ c.requires.allowed) (λ e. ap (λ p. g.B.PartsName.rates (rates_of p)) e.0 ∙ old.rated)

pub invariant_of-self-clause-ended : goal.invariant_of-self-clause-ended
invariant_of-self-clause-ended g c =
    let old = c.args.self.now in
    in_both c.change.result c.change.ensures.ended c.change.ensures.unchanged
    (λ e. subst (AreAllowed g.B.PartsName.rates) (sym e) (allowed_more g.B.PartsName.rates (ended_in old.rounds.ended.items) (stretch_under old.rounds.pace (history old.rounds.log.items)) old.ended old.rated))
    (λ e. subst (AreAllowed g.B.PartsName.rates) (sym e.3) old.ended)
