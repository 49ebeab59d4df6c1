use Rattle.ftp_reply.proofs.ListingLemmas.{list_parts}
use Rattle.ftp_reply.proofs.NumberLemmas.{hole_spaced, hole_zeroed}
use Rattle.ftp_reply.proofs.listings.list_text.Goals as goal

pub returns : goal.returns
returns g c = record {
  text = record {
    date = c.date_of-date.result;
    falls_on = c.date_of-date.ensures.falls_on;
    text_is =
        rw (c.in_ok-text.ensures.ok, c.laid_out.ensures, c.laid_out-2.ensures, c.laid_out-3.ensures, hole_spaced 12 c.listed_size-size.result, hole_spaced 2 c.date_of-date.result.day, hole_zeroed 4 c.year_of-year.result)
        (rw (c.mode_text-mode.ensures.text, c.listed_size-size.ensures.size, c.month_name-month.ensures.name, c.year_of-year.ensures.year)
        (list_parts _ _ _ _ _ _));
  };
}
