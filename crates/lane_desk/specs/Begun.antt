-- The view of a round that has done nothing, after some lanes' seats were split off.
use Rattle.std.specs.Prelude.{ℕ, [], replicate, false}
use Rattle.desk_rule.specs.declared.view.RoundView.{RoundView}
use Rattle.desk_rule.specs.Lanes.{untraced}

abbrev pub dealt_round : ℕ → ℕ → RoundView
dealt_round k i =
    record { dealt = i; traces = replicate k untraced; back = []; answering = false }
