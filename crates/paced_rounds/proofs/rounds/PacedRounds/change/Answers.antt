use Rattle.std.proofs.Common.{◌≡◌, ◌+◌, ◌++◌, ◌∷◌, [], ℕ, List, ap, ◌∙◌, sym}
use Rattle.round_pace.specs.Histories.{rates_of}
use Rattle.round_pace.specs.Paced.{Paced}
use Rattle.round_pace.specs.Stretches.{Stretch}
use Rattle.paced_rounds.specs.History.{history, stretch_under, ended_in, stretches}
use Rattle.paced_rounds.proofs.RunLemmas.{run_change, ended_more, stretches_changed, sum_changed}
use Rattle.paced_rounds.proofs.SpanLemmas.{span_changed}
use Rattle.paced_rounds.proofs.rounds.PacedRounds.change.Goals as goal

pub invariant_of-self-2 : goal.invariant_of-self-2
invariant_of-self-2 g c =
    let old = c.args.self.now in
    let pace : Paced = c.in_ok-pace.pace in
    let before : List Stretch = stretches old.ended.items old.pace old.log.items in
    let now : List Stretch = stretches c.and-self.result.items pace c.new-self.result.items in
    let rated : rates_of pace ≡ c.args.limits = c.stretches_keep_rates.ensures.changed c.args.limits old.pace pace c.in_ok-pace.ensures.changed in
    let more : ended_in c.and-self.result.items ≡ ended_in old.ended.items ++ stretch_under old.pace (history old.log.items) ∷ [] =
    ended_more old.ended.items c.and-self.result.items (old.pace, old.log) c.and-self.ensures.more in
    let all : now ≡ before ++ stretch_under pace [] ∷ [] = stretches_changed old.ended.items c.and-self.result.items old.pace pace old.log.items c.new-self.result.items more c.new-self.ensures.none in
    record {
      begun = old.begun;
      spanned = span_changed old.opened old.latest before now pace all old.spanned;
      run = run_change old.pace pace old.latest before now c.args.limits c.in_ok-pace.ensures.changed rated all old.run;
      turned = old.turned;
      reported = old.reported ∙ ap (λ (n : ℕ). old.carried + n) (sym (sum_changed before now pace all));
    }
