use Rattle.std.proofs.Common.{◌≡◌, OnErr, ap, ◌∙◌, subst, sym}
use Rattle.paced_rounds.specs.Allowed.{AreAllowed}
use Rattle.lent_parts.proofs.rounds.LentRounds.hold.Goals as goal

pub invariant_of-self-clause-rated : goal.invariant_of-self-clause-rated
invariant_of-self-clause-rated g c =
    let old = c.args.self.now in
    ap g.B.PartsName.rates c.hold-result.ensures.rates ∙ old.rated

pub invariant_of-self-clause-ended : goal.invariant_of-self-clause-ended
invariant_of-self-clause-ended g c =
    let old = c.args.self.now in
    subst (AreAllowed g.B.PartsName.rates) (sym c.hold-result.ensures.ended) old.ended

pub invariant_of-self-in_default-clause-carried : goal.invariant_of-self-in_default-clause-carried
invariant_of-self-in_default-clause-carried g c =
    let old = c.args.self.now in
    c.hold-result.ensures.carried ∙ old.carried

pub invariant_of-self-in_default-clause-counted : goal.invariant_of-self-in_default-clause-counted
invariant_of-self-in_default-clause-counted g c =
    let old = c.args.self.now in
    let new = c.hold-result.new.self in
    let same : new.rounds.book ≡ old.rounds.rounds.book = subst (λ x. OnErr x (new.rounds.book ≡ old.rounds.rounds.book)) c.in_default.is c.hold-result.ensures.unchanged in
    ap (λ b. b.issued) same ∙ old.counted

pub invariant_of-self-in_default-clause-ended : goal.invariant_of-self-in_default-clause-ended
invariant_of-self-in_default-clause-ended g c =
    let old = c.args.self.now in
    subst (AreAllowed g.B.PartsName.rates) (sym c.hold-result.ensures.ended) old.ended
