use Rattle.std.proofs.Common.{arith, sym}
use Rattle.ftp_reply.proofs.NumberLemmas.{decimal_three}
use Rattle.ftp_reply.proofs.codes.ReplyCode.digits.Goals as goal

pub returns : goal.returns
returns c = record {
  digits = sym (decimal_three c.args.self.number c.args.self.low (omega (arith, c.args.self.high)));
}
