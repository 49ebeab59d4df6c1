-- Each listing text is unique.
use Rattle.std.specs.Prelude.{◌≡◌, ℕ, List}
use Rattle.ftp_terms.specs.declared.entries.Meta.{Meta}
use Rattle.ftp_terms.specs.declared.facts.Facts.{Facts}
use Rattle.ftp_terms.specs.declared.letters.Letters.{Letters}
use Rattle.ftp_reply.specs.Dates.{IsTimeVal}
use Rattle.ftp_reply.specs.Listings.{IsListLine, IsMlstEntry}

-- at most one text satisfies the predicate
abbrev pub HasOneText : (List ℕ → Type 0) → Type 0
HasOneText Reported = (text other : List ℕ) → Reported text → Reported other → text ≡ other

-- a moment has one text, an entry has one line, and an entry with its facts and letters has one
-- text
abbrev pub MomentsHaveOneText : Type 0
MomentsHaveOneText = (seconds : ℕ) → HasOneText (IsTimeVal seconds)

abbrev pub LinesHaveOneText : Type 0
LinesHaveOneText = (entry : Meta) (name : List ℕ) → HasOneText (IsListLine entry name)

abbrev pub EntriesHaveOneText : Type 0
EntriesHaveOneText = (entry : Meta) (facts : Facts) (letters : Letters) (path : List ℕ)
    → HasOneText (IsMlstEntry entry facts letters path)
