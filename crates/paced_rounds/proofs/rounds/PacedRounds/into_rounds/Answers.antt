use Rattle.std.proofs.Common.{◌≡◌, ◌+◌, List, sum_by, ap, ◌∙◌, subst, sym}
use Rattle.std.proofs.Math.Logic.{∥∥₁_map}
use Rattle.round_pace.specs.Stretches.{Stretch, StretchesKeep}
use Rattle.paced_rounds.specs.History.{ended_in, octets_in, stretches}
use Rattle.paced_rounds.specs.Spans.{AllBetween}
use Rattle.paced_rounds.proofs.RunLemmas.{ended_more}
use Rattle.paced_rounds.proofs.rounds.PacedRounds.into_rounds.Goals as goal

pub of-account-requires-clause-spanned : goal.of-account-requires-clause-spanned
of-account-requires-clause-spanned g c =
    let old = c.args.self in
    let same : ended_in c.and-all.result.items ≡ stretches old.ended.items old.pace old.log.items = ended_more old.ended.items c.and-all.result.items (old.pace, old.log) c.and-all.ensures.more in
    ∥∥₁_map old.spanned (λ b. subst (λ (ss : List Stretch). StretchesKeep ss × AllBetween old.opened old.latest ss) (sym same) (c.rates_are_kept.ensures.kept, b))

pub of-account-requires-clause-granted : goal.of-account-requires-clause-granted
of-account-requires-clause-granted g c =
    let old = c.args.self in
    let same : ended_in c.and-all.result.items ≡ stretches old.ended.items old.pace old.log.items = ended_more old.ended.items c.and-all.result.items (old.pace, old.log) c.and-all.ensures.more in
    c.issued-issued.ensures.issued ∙ c.rates_are_kept.ensures.issued ∙ ap (λ (ss : List Stretch). old.carried + sum_by octets_in ss) (sym same)

pub returns-clause-history : goal.returns-clause-history
returns-clause-history g c =
    let old = c.args.self in
    ap (λ a. ended_in a.items) c.of-account.ensures.rounds ∙ ended_more old.ended.items c.and-all.result.items (old.pace, old.log) c.and-all.ensures.more
