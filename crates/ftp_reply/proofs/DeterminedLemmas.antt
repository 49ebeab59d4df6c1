-- The calendar has one date for a day, so each text is the only one.
use Rattle.std.proofs.Common.{◌≡◌, ◌++◌, codes, ap, sym, ◌∙◌}
use Rattle.jiff_core.proofs.DateLemmas.{epoch_day_injective}
use Rattle.ftp_reply.specs.Dates.{time_val}
use Rattle.ftp_reply.specs.Determined.{EntriesHaveOneText, LinesHaveOneText, MomentsHaveOneText}
use Rattle.ftp_reply.specs.Listings.{entry_facts, list_text}

pub moments : MomentsHaveOneText
moments seconds text other one two =
    let same = epoch_day_injective one.date two.date (one.falls_on ∙ sym two.falls_on) in
    let dates : time_val seconds one.date ≡ time_val seconds two.date = rw (same.0, same.1, same.2) in
    one.text_is ∙ dates ∙ sym two.text_is

pub lines : LinesHaveOneText
lines entry name text other one two =
    let same = epoch_day_injective one.date two.date (one.falls_on ∙ sym two.falls_on) in
    let dates : list_text entry name one.date ≡ list_text entry name two.date = rw (same.0, same.1, same.2) in
    one.text_is ∙ dates ∙ sym two.text_is

pub entries : EntriesHaveOneText
entries entry facts letters path text other one two =
    let same = moments entry.modified one.modified two.modified one.modified_is two.modified_is in
    one.text_is
    ∙ ap (λ modified. entry_facts entry facts letters modified ++ codes " " ++ path) same
    ∙ sym two.text_is
