use Rattle.ftp_reply.proofs.dates.mdtm_text.Goals as goal

pub returns : goal.returns
returns c = record {
  text = record {
    date = c.date_of-date.result;
    falls_on = c.date_of-date.ensures.falls_on;
    text_is =
        rw (← c.year_of.ensures.year, ← c.four_digits.ensures.digits, ← c.two_digits.ensures.digits, ← c.two_digits-2.ensures.digits, ← c.two_digits-3.ensures.digits, ← c.two_digits-4.ensures.digits, ← c.two_digits-5.ensures.digits)
        (rw (c.four_digits.ensures.octets, c.two_digits.ensures.octets, c.two_digits-2.ensures.octets, c.two_digits-3.ensures.octets, c.two_digits-4.ensures.octets, c.two_digits-5.ensures.octets));
  };
}
