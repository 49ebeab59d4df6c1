-- Metadata of a directory entry.
use Rattle.std.specs.Prelude.{ℕ, ◌≤◌, min}
use Rattle.std.proofs.Common.{arith}
use Rattle.ftp_terms.specs.declared.entries.EntryKind.{EntryKind}
use Rattle.ftp_terms.specs.declared.entries.Meta.{Meta}
use Rattle.ftp_terms.specs.declared.entries.TheConstants.{LATEST}

pub shown_by_latest : (seconds : ℕ) → min seconds LATEST ≤ LATEST
shown_by_latest seconds = omega arith

-- an entry last changed at this second; a second after the latest that can be shown is shown as
-- that
abbrev pub entry_meta : EntryKind → ℕ → ℕ → Meta
entry_meta kind size seconds =
    record {
      kind = kind;
      size = size;
      modified = min seconds LATEST;
      can_be_shown = shown_by_latest seconds;
    }
