use Rattle.ftp_reply.proofs.replies.Reply.one_line.Goals as goal

pub invariant_of-result : goal.invariant_of-result
invariant_of-result g c = record { low = c.args.code.low; high = c.args.code.high; lines = (c.args.text.one_line, tt) }
