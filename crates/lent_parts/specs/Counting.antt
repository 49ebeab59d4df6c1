-- The limits that held back the leaves of a round.
use Rattle.std.specs.Prelude.{ℕ, List, Option, Some, None, slice_get, slice_index_or}
use Rattle.line_rates.specs.declared.ask.Ask.{Ask}
use Rattle.line_rates.specs.declared.ask.Name.{Name}
use Rattle.paced_rounds.specs.Beating.{closed_in}
use Rattle.round_cadence.specs.Cadences.{Beats}
use Rattle.round_pace.specs.Paced.{Paced}
use Rattle.round_tally.specs.Counts.{held_back}

-- a limit that was used up, or an inner one whose row is closed at a moment; nothing without an ask
abbrev pub held_of : Option Name → Option Ask → Paced → Beats → ℕ → Option Name
held_of used_up None p c now = None
held_of used_up (Some ask) p c now = held_back used_up (closed_in ask p c now)
