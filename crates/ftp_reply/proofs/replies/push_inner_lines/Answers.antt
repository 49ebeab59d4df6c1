use Rattle.std.proofs.Common.{arith}
use Rattle.ftp_reply.proofs.BufferLemmas.{OnErr-from, front_stays}
use Rattle.ftp_reply.proofs.replies.push_inner_lines.Goals as goal

pub returns-in_err-push_inner-clause-front : goal.returns-in_err-push_inner-clause-front
returns-in_err-push_inner-clause-front g c =
    OnErr-from c.from_residual.result
    (front_stays _ _ _ _ _ _ (omega (arith, c.args.buffer.now.ok.0)) (omega (arith, c.loop-text.buffer.ok.0)) c.loop-text.invariant c.in_err-push_inner.ensures.front)
