use Rattle.std.proofs.Common.{arith}
use Rattle.line_rates.proofs.OrderSteps.{numbered_more, askers_more}
use Rattle.line_rates.proofs.RowLemmas.{at_any}
use Rattle.line_rates.proofs.queue.queue_of.Goals as goal

pub loop-number-preserved : goal.loop-number-preserved
loop-number-preserved g c = record {
  askers = askers_more c.args.asks.now c.loop-number.number c.loop-number.queue.items c.push.new.self.items _ c.in_ok-push.ensures.items c.loop-number.invariant.askers (omega arith) (λ d. at_any c.args.asks.now c.loop-number.number _ d (omega arith));
  numbers = numbered_more c.args.asks.now c.loop-number.queue.items c.push.new.self.items _ c.in_ok-push.ensures.items c.loop-number.invariant.numbers (omega arith) (λ d. at_any c.args.asks.now c.loop-number.number _ d (omega arith));
}
