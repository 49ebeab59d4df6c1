use Rattle.std.proofs.Common.{◌∙◌, ◌<◌, length, arith}
use Rattle.paced_rounds.proofs.BeatLemmas.{settle_next}
use Rattle.paced_rounds.proofs.beats.settle.Goals as goal

pub loop-i-preserved : goal.loop-i-preserved
loop-i-preserved g c =
    let near : c.loop-i.i < length c.args.asks.now = omega arith in
    settle_next c.args.pace.now c.args.tick c.args.asks.now _ c.loop-i.i c.loop-i.cadence c.settle.new.self c.rows_of-rows.result near c.settle.ensures.settled c.rows_of-rows.ensures.rows ∙ c.loop-i.invariant
