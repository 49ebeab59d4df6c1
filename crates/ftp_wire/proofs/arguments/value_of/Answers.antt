use Rattle.std.proofs.Common.{arith, get_or}
use Rattle.std.proofs.lemmas.Int.Digits.{digits_value_more}
use Rattle.ftp_wire.proofs.Numbers.{digit_value_is, number_digit}
use Rattle.ftp_wire.proofs.arguments.value_of.Goals as goal

pub overflow_sub-octet : goal.overflow_sub-octet
overflow_sub-octet c =
    let here = number_digit c.args.digits.now c.loop-octet.octet-index c.requires.digits (omega arith) in
    omega (arith, here.0)

pub loop-octet-preserved : goal.loop-octet-preserved
loop-octet-preserved c =
    let digits = c.args.digits.now in
    let i = c.loop-octet.octet-index in
    let here = number_digit digits i c.requires.digits (omega arith) in
    omega (arith, digits_value_more 10 digits i (omega arith), digit_value_is (get_or digits i 0) here, here.0)
