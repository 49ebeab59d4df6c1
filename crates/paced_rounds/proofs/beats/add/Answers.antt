use Rattle.std.proofs.Common.{◌∙◌, ◌<◌, length, arith}
use Rattle.paced_rounds.proofs.BeatLemmas.{add_next}
use Rattle.paced_rounds.proofs.beats.add.Goals as goal

pub loop-i-preserved : goal.loop-i-preserved
loop-i-preserved g c =
    let near : c.loop-i.i < length c.args.asks.now = omega arith in
    add_next c.args.pace.now c.args.asks.now c.args.grants.now _ c.loop-i.i c.loop-i.cadence c.add.new.self c.rows_of-rows.result c.crowd_of-crowd.result c.share_by-share_by.result c.limits.result.now near c.requires.each c.add.ensures.added c.rows_of-rows.ensures.rows
    c.crowd_of-crowd.ensures.crowd c.share_by-share_by.ensures.share_by c.limits.ensures.limits
    ∙ c.loop-i.invariant
