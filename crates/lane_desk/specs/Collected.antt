-- The asks collected by a round.
use Rattle.std.specs.Prelude.{ℕ, List}
use Rattle.line_rates.specs.TickTree.{Asker}

-- the asks with their lanes, and a number whose bit i is set if lane i is among them
pub record AsksView : Type 0 where
  pub asks : List Asker
  pub answered : ℕ
