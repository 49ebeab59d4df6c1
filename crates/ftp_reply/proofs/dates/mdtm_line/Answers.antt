use Rattle.ftp_reply.proofs.DateLemmas.{IsAscii-from_time_val}
use Rattle.ftp_reply.proofs.LineLemmas.{line_dated}
use Rattle.ftp_reply.proofs.dates.mdtm_line.Goals as goal

pub digits_text-requires : goal.digits_text-requires
digits_text-requires g c = record { ascii = IsAscii-from_time_val _ _ c.mdtm_text-digits.ensures.text }

pub made-requires : goal.made-requires
made-requires g c = record {
  line = rw (c.in_ok-text.ensures.ok, c.digits_text.ensures.text) (line_dated _ _ c.mdtm_text-digits.ensures.text);
}

pub returns : goal.returns
returns g c = record {
  text = rw (c.made.ensures.text, c.in_ok-text.ensures.ok, c.digits_text.ensures.text) c.mdtm_text-digits.ensures.text;
}
