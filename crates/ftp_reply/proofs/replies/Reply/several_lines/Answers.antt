use Rattle.ftp_reply.proofs.ReplyLemmas.{texts_on_lines}
use Rattle.ftp_reply.proofs.replies.Reply.several_lines.Goals as goal

pub invariant_of-result : goal.invariant_of-result
invariant_of-result g c = record {
  low = c.args.code.low;
  high = c.args.code.high;
  lines = (c.args.first.one_line, (c.args.last.one_line, texts_on_lines c.args.inner.items));
}
