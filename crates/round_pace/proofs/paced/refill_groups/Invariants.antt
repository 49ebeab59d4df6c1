use Rattle.std.proofs.Common.{◌≡◌, ◌++◌, map, take, drop}
use Rattle.std.specs.List.{All}
use Rattle.round_pace.specs.Offered.{refill_group}
use Rattle.round_pace.specs.Paced.{IsGroupPace}
use Rattle.round_pace.proofs.paced.refill_groups.Given as goal

abbrev pub invariant-loop-place : goal.invariant-loop-place
invariant-loop-place g l = record {
  rows : l.groups.items ≡ map (refill_group l.begun l.tick) (take l.place l.fn.groups.items) ++ drop l.place l.fn.groups.items;
  paces : All IsGroupPace l.groups.items;
}
