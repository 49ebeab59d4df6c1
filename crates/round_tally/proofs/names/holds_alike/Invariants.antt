use Rattle.std.proofs.Common.{◌≡◌, ◌<◌, ℕ}
use Rattle.limit_tree.specs.Outline.{leaf_range}
use Rattle.line_rates.specs.TickTree.{bears_at}
use Rattle.round_tally.proofs.names.holds_alike.Given as goal

abbrev pub invariant-loop-leaf : goal.invariant-loop-leaf
invariant-loop-leaf g l = (i : ℕ) → i < l.leaf → leaf_range l.place.first l.place.leaves i ≡ bears_at l.limits l.name l.asks i
