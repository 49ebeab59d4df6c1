-- Refused entries of a book.
use Rattle.std.specs.Prelude.{◌+◌, ℕ, nat_lt, nat_le, Option, Some, None, if◌then◌else◌}
use Rattle.grant_ledger.specs.Books.{BookView}
use Rattle.grant_ledger.specs.declared.fault.BookFault.{BookFault}
use Rattle.grant_ledger.specs.declared.fault.BookFault.TheVariants.{NotYet, BookFull}
use Rattle.grant_ledger.specs.declared.ledger.TheConstants.{MAX_ISSUED}

-- the book would have issued more than `MAX_ISSUED`
abbrev pub full : ℕ → Option BookFault
full issued = if nat_lt MAX_ISSUED issued then Some BookFull else None

-- a tick not above the last one is refused first
abbrev pub refusal_after : Option ℕ → ℕ → ℕ → Option BookFault
refusal_after None tick issued = full issued
refusal_after (Some last) tick issued = if nat_le tick last then Some (NotYet last) else full issued

-- why a book refuses an entry with this total at this tick, if it does
abbrev pub refusal : BookView → ℕ → ℕ → Option BookFault
refusal book total tick = refusal_after book.last_tick tick (book.issued + total)
