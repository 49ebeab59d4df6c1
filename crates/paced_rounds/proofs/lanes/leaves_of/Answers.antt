use Rattle.std.proofs.Common.{arith, ◌<◌, length}
use Rattle.paced_rounds.specs.LaneTurns.{lane_of, ask_of, grant_of}
use Rattle.paced_rounds.proofs.LaneLemmas.{entry_more, at_any}
use Rattle.paced_rounds.proofs.lanes.leaves_of.Goals as goal

pub loop-i-preserved : goal.loop-i-preserved
loop-i-preserved c =
    let in_lanes : c.loop-i.i < length c.args.lanes.now = omega arith in
    let in_asks : c.loop-i.i < length c.args.asks.now = omega (arith, c.requires.asks, c.requires.lanes) in
    let in_grants : c.loop-i.i < length c.args.grants.now = omega (arith, c.requires.lanes) in
    record {
      lanes = entry_more lane_of c.args.lanes.now c.loop-i.i c.loop-i.leaves.items c.and-leaves.result.items _ c.and-leaves.ensures.more c.loop-i.invariant.lanes in_lanes (λ d. at_any c.args.lanes.now c.loop-i.i _ d in_lanes);
      asks = entry_more ask_of c.args.asks.now c.loop-i.i c.loop-i.leaves.items c.and-leaves.result.items _ c.and-leaves.ensures.more c.loop-i.invariant.asks in_asks (λ d. at_any c.args.asks.now c.loop-i.i _ d in_asks);
      grants = entry_more grant_of c.args.grants.now c.loop-i.i c.loop-i.leaves.items c.and-leaves.result.items _ c.and-leaves.ensures.more c.loop-i.invariant.grants in_grants (λ d. at_any c.args.grants.now c.loop-i.i _ d in_grants);
    }
