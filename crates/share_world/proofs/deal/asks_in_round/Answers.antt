use Rattle.std.proofs.Common.{◌++◌, refl, sym, ap, ◌∙◌, append-nil}
use Rattle.share_world.specs.Performed.{HasAsk}
use Rattle.share_world.proofs.Asking.{all_more, all_whole, asks_step, asker_if}
use Rattle.share_world.proofs.deal.asks_in_round.Goals as goal
use Rattle.share_world.proofs.deal.asks_in_round.Goals.{in-Some+in_ok-push, in_default}

pub loop-number-preserved : goal.loop-number-preserved
loop-number-preserved g c = record {
  asks = asks_step c.args.lanes.now c.loop-number.number _ c.index-lanes-number.result c.due.result c.loop-number.asks.items c.match-due.asks.items refl c.loop-number-test.true c.index-lanes-number.is c.due.ensures.due
      (elim c.match-due.branch [
        | in-Some+in_ok-push w ↦ ap (λ v. v.items) w.asks-is ∙ w.in_ok-push.ensures.items ∙ ap (λ o. c.loop-number.asks.items ++ asker_if c.loop-number.number o) (sym w.in-Some.is)
        | in_default w ↦ ap (λ v. v.items) w.asks-is ∙ sym (append-nil c.loop-number.asks.items) ∙ ap (λ o. c.loop-number.asks.items ++ asker_if c.loop-number.number o) (sym w.in_default.is)
      ]) c.loop-number.invariant.asks;
  asked = all_more HasAsk c.args.lanes.now c.loop-number.number _ c.index-lanes-number.result refl c.loop-number-test.true c.index-lanes-number.is c.loop-number.invariant.asked c.due.ensures.asked;
}

pub returns-clause-asked : goal.returns-clause-asked
returns-clause-asked g c = all_whole HasAsk c.args.lanes.now c.loop-number.number c.loop-number-test.false c.loop-number.invariant.asked
