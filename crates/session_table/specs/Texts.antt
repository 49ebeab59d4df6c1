-- Lines of replies and listings, by their content; a line may contain a date of the calendar.
use Rattle.std.specs.Prelude.{ℕ, ◌≡◌, List, [], ◌∷◌, ◌++◌}
use Rattle.std.specs.List.{flat_map}
use Rattle.ftp_reply.specs.Dates.{IsTimeVal}
use Rattle.ftp_reply.specs.Listings.{IsListLine, IsMlstEntry}
use Rattle.ftp_terms.specs.declared.entries.Meta.{Meta}
use Rattle.ftp_terms.specs.declared.facts.Facts.{Facts}
use Rattle.ftp_terms.specs.declared.letters.Letters.{Letters}

-- the content of a line
pub data Reported : Type 0 where
  -- a moment, in seconds since 1970, by fourteen digits
  Moment : ℕ → Reported
  -- an entry in the style of `ls -l`
  LongLine : Meta → List ℕ → Reported
  -- an entry's name alone
  NameLine : List ℕ → Reported
  -- the facts of an entry, and its name or path
  FactLine : Meta → Facts → Letters → List ℕ → Reported

-- the line has this content
abbrev pub IsReported : Reported → List ℕ → Type 0
IsReported (Moment seconds) line = IsTimeVal seconds line
IsReported (LongLine meta name) line = IsListLine meta name line
IsReported (NameLine name) line = line ≡ name
IsReported (FactLine meta facts letters path) line = IsMlstEntry meta facts letters path line

-- the lines have these contents, one each
abbrev pub AreReported : List Reported → List (List ℕ) → Type 0
AreReported [] lines = lines ≡ []
AreReported (reported ∷ others) lines =
    (line : List ℕ) × (rest : List (List ℕ)) × IsReported reported line × AreReported others rest
    × (lines ≡ line ∷ rest)

-- the octets of lines, each ended by CR LF
abbrev pub ended_lines : List (List ℕ) → List ℕ
ended_lines = flat_map (λ line. line ++ 13 ∷ 10 ∷ [])
