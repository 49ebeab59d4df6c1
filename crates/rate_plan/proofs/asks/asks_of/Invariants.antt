use Rattle.std.proofs.Common.{◌≡◌, length, ℕ, Some}
use Rattle.std.specs.Prelude.{slice_get}
use Rattle.line_rates.specs.TickTree.{Asker}
use Rattle.rate_plan.specs.Asked.{IsAskOf}
use Rattle.rate_plan.proofs.asks.asks_of.Given as goal

abbrev pub invariant-loop-place : goal.invariant-loop-place
invariant-loop-place g l = record {
  count : length l.asks.items ≡ l.place;
  each : (i : ℕ) (a : Asker) → slice_get l.asks.items i ≡ Some a → IsAskOf l.share_by l.transfers i a;
}
