use Rattle.ftp_reply.proofs.QuoteLemmas.{doubled_other}
use Rattle.ftp_reply.proofs.quoting.push_doubled.Goals as goal

pub returns : goal.returns
returns g c = record { appended = rw (doubled_other c.args.character c.if-character-eq34.false) c.in_ok-push.ensures.bytes }
