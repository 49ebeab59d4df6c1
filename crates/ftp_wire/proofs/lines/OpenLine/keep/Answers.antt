use Rattle.std.proofs.Common.{rules, arith}
use Rattle.ftp_wire.proofs.Holding.{grows, passes_limit}
use Rattle.ftp_wire.proofs.lines.OpenLine.keep.Goals as goal

pub returns-then-self : goal.returns-then-self
returns-then-self g c = record { holds = λ rest holds. grows _ _ rest c.args.octet c.if-self.true holds }

pub returns-then-len-gt-LONGEST_LINE : goal.returns-then-len-gt-LONGEST_LINE
returns-then-len-gt-LONGEST_LINE g c = record { holds = λ rest holds. (passes_limit _ _ rest c.args.octet c.if-self.false (search (rules, arith)) holds, c.clear.ensures.items) }
