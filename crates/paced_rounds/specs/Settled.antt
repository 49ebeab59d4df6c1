-- The rounds of a settlement.
use Rattle.std.specs.Prelude.{List}
use Rattle.round_pace.specs.Stretches.{Stretch}
use Rattle.paced_rounds.specs.History.{ended_in}
use Rattle.paced_rounds.specs.declared.account.Settlement.{Settlement}
use Rattle.paced_rounds.specs.declared.account.SettledRounds.{SettledRounds}

module _ {N A : Type 0} where
  -- the history of a settlement: its rounds under the rates in force, from the first on
  abbrev pub rounds_of : Settlement N A → List Stretch
  rounds_of s = ended_in s.rounds.items

module _ {A : Type 0} where
  -- the same of one that was read
  abbrev pub rounds_in : SettledRounds A → List Stretch
  rounds_in s = ended_in s.rounds.items
