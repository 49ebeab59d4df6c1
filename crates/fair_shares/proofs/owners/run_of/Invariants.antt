use Rattle.std.proofs.Common.{◌≡◌, ◌<◌, ◌≤◌, ℕ, Some}
use Rattle.std.specs.Prelude.{IsTrue, slice_get}
use Rattle.line_rates.specs.declared.ask.Ask.{Ask}
use Rattle.fair_shares.specs.Users.{is_of_user}
use Rattle.fair_shares.proofs.owners.run_of.Given as goal

abbrev pub invariant-loop-leaf : goal.invariant-loop-leaf
invariant-loop-leaf l =
    (a : Ask) (i : ℕ) → slice_get l.asks l.first ≡ Some a → l.first ≤ i → i < l.leaf → IsTrue (is_of_user l.asks a i)
