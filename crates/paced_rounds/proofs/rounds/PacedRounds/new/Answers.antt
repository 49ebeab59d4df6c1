use Rattle.std.proofs.Common.{◌≡◌, ℕ, ◌+◌, ◌≤◌, sum_by, List, ap, ◌∙◌, subst, sym, arith}
use Rattle.paced_rounds.specs.History.{Ended, Entry, stretches, octets_in}
use Rattle.paced_rounds.specs.Spans.{AllBetween}
use Rattle.paced_rounds.specs.LaneTurns.{turns_in}
use Rattle.paced_rounds.proofs.LaneLemmas.{second_new}
use Rattle.paced_rounds.proofs.RunLemmas.{run_new}
use Rattle.paced_rounds.proofs.SpanLemmas.{span_new}
use Rattle.paced_rounds.proofs.rounds.PacedRounds.new.Goals as goal

pub invariant_of-result : goal.invariant_of-result
invariant_of-result g c = record {
  begun = (let e : (x : ℕ) → x ≤ x = λ x. omega arith in e c.args.now);
  spanned = subst (λ (z : List Ended × List Entry). ∥ AllBetween c.args.now c.args.now (stretches z.0 c.args.pace z.1) ∥₁) (λ i. (sym c.new-2.ensures.none i, sym c.new.ensures.none i)) ∣ span_new c.args.now c.args.pace ∣₁;
  run = run_new c.stretches_keep_rates.ensures.new c.histories_keep_rates.ensures.new c.args.now c.requires.new.0 c.args.pace c.new-2.result.items c.new.result.items c.requires.new.1 c.new-2.ensures.none c.new.ensures.none;
  turned = ∣ second_new (turns_in c.new-3.result.items) (ap turns_in c.new-3.ensures.none) ∣₁;
  reported = sym c.issued-carried.ensures.issued ∙ (let e : (x : ℕ) → x ≡ x + 0 = λ x. omega arith in e c.issued-carried.result)
      ∙ ap (λ (z : List Ended × List Entry). c.issued-carried.result + sum_by octets_in (stretches z.0 c.args.pace z.1)) (λ i. (sym c.new-2.ensures.none i, sym c.new.ensures.none i));
}
