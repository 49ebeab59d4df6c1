use Rattle.std.proofs.Common.{◌<◌, length, arith, refl}
use Rattle.paced_rounds.proofs.ChargeLemmas.{session_more}
use Rattle.paced_rounds.proofs.charge.session_octets.Goals as goal

pub loop-i-preserved : goal.loop-i-preserved
loop-i-preserved c =
    let near : c.loop-i.i < length c.args.asks.now = omega arith in
    record {
      is = session_more c.args.way c.args.user c.args.session c.args.asks.now c.args.grants.now _ c.loop-i.i c.loop-i.octets c.part_of-octets.result _ near c.requires.each c.loop-i.invariant.is c.part_of-octets.ensures.part refl;
      small = omega (arith, c.loop-i.invariant.small, c.part_of-octets.ensures.small);
    }
