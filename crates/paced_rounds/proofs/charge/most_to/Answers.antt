use Rattle.std.proofs.Common.{◌<◌, length, arith}
use Rattle.paced_rounds.specs.History.{leaves}
use Rattle.paced_rounds.proofs.ChargeLemmas.{most_more}
use Rattle.paced_rounds.proofs.charge.most_to.Goals as goal

pub loop-i-preserved : goal.loop-i-preserved
loop-i-preserved c =
    let near : c.loop-i.i < length c.args.asks.now = omega arith in
    most_more c.args.way c.args.user (leaves c.args.asks.now c.args.grants.now) c.args.asks.now c.args.grants.now _ c.loop-i.i c.loop-i.most c.most_part.result _ near c.requires.each c.loop-i.invariant c.most_part.ensures.part c.max-most.ensures
