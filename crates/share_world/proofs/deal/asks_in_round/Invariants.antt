use Rattle.std.proofs.Common.{◌≡◌, ◌++◌, drop, take}
use Rattle.std.specs.Prelude.{All}
use Rattle.world_terms.specs.Decisions.{in_round, in_round_from}
use Rattle.share_world.specs.Performed.{HasAsk}
use Rattle.share_world.proofs.deal.asks_in_round.Given as goal

abbrev pub invariant-loop-number : goal.invariant-loop-number
invariant-loop-number g l = record {
  asks : l.asks.items ++ in_round_from l.number (drop l.number l.lanes) ≡ in_round l.lanes;
  asked : All HasAsk (take l.number l.lanes);
}
