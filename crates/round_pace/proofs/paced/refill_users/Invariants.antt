use Rattle.std.proofs.Common.{◌≡◌, ◌++◌, map, take, drop}
use Rattle.std.specs.List.{All}
use Rattle.round_pace.specs.Offered.{refill_user}
use Rattle.round_pace.specs.Paced.{IsUserPace}
use Rattle.round_pace.proofs.paced.refill_users.Given as goal

abbrev pub invariant-loop-place : goal.invariant-loop-place
invariant-loop-place g l = record {
  rows : l.users.items ≡ map (refill_user l.begun l.tick) (take l.place l.fn.users.items) ++ drop l.place l.fn.users.items;
  paces : All IsUserPace l.users.items;
}
