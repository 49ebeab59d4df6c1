use Rattle.std.proofs.Common.{◌∙◌, ◌<◌, length, arith}
use Rattle.paced_rounds.proofs.TurnLemmas.{had_next}
use Rattle.paced_rounds.proofs.turns.add_all.Goals as goal

pub loop-i-preserved : goal.loop-i-preserved
loop-i-preserved c =
    let near : c.loop-i.i < length c.args.lanes.now = omega arith in
    had_next c.args.lanes.now c.args.grants.now c.loop-i.i c.loop-i.had c.add.new.had near c.requires.each c.add.ensures.had ∙ c.loop-i.invariant
