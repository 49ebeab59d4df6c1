use Rattle.std.proofs.Common.{length, arith, le_refl}
use Rattle.data_pump.proofs.RunLemmas.{holds_no}
use Rattle.data_pump.proofs.runs.run_before.Goals as goal

pub returns-in-Some-clause-run : goal.returns-in-Some-clause-run
returns-in-Some-clause-run c =
    let first = c.in-Some.ensures in
    holds_no c.args.octet c.args.piece.now c.in-Some.place first.0.before (omega (arith, first.0.high))

pub returns-in-None-clause-run : goal.returns-in-None-clause-run
returns-in-None-clause-run c =
    holds_no c.args.octet c.args.piece.now (length c.args.piece.now) c.in-None.ensures (le_refl (length c.args.piece.now))
