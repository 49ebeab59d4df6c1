use Rattle.std.proofs.Common.{◌≡◌, length, ℕ, Some}
use Rattle.std.specs.Prelude.{slice_get}
use Rattle.line_rates.specs.TickTree.{Asker}
use Rattle.ask_shares.specs.Leaves.{IsAskAt}
use Rattle.ask_shares.proofs.sharing.numbered.Given as goal

abbrev pub invariant-loop-place : goal.invariant-loop-place
invariant-loop-place g l = record {
  count : length l.numbered.items ≡ l.place;
  each : (i : ℕ) (a : Asker) → slice_get l.numbered.items i ≡ Some a → IsAskAt l.asks i a;
}
