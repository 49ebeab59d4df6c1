use Rattle.std.proofs.Common.{◌∙◌, ◌<◌, length, arith}
use Rattle.paced_rounds.proofs.ChargeLemmas.{take_next}
use Rattle.paced_rounds.proofs.RunLemmas.{taken_next}
use Rattle.paced_rounds.proofs.charge.charge.Goals as goal

pub loop-i-preserved : goal.loop-i-preserved
loop-i-preserved g c =
    let near : c.loop-i.i < length c.args.asks.now = omega arith in (
      take_next c.args.asks.now c.args.grants.now _ c.loop-i.i c.own_part-own.result c.loop-i.pace c.took.new.self near c.requires.each c.own_part-own.ensures.own c.took.ensures.taken ∙ c.loop-i.invariant.0,
      taken_next c.args.asks.now c.args.grants.now _ c.loop-i.i c.loop-i.taken.items c.and-taken.result.items near c.requires.each c.and-taken.ensures.more ∙ c.loop-i.invariant.1,
    )
