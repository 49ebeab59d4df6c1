-- The way of sharing that words state.
use Rattle.std.specs.Prelude.{◌≡◌, ◌++◌, List, Option, None, Some, codes, false, string_bytes, ℕ}
use Rattle.clap.specs.Words.{Row, first_of}
use Rattle.line_rates.specs.declared.share_by.ShareBy.{ShareBy}
use Rattle.line_rates.specs.declared.share_by.ShareBy.TheVariants.{Sessions, Users}
use Rattle.command_line.specs.Numbers.{refusal_head}
use Rattle.command_line.specs.declared.words.WordsFault.{WordsFault}
use Rattle.command_line.specs.declared.words.WordsFault.TheVariants.{Refused, Memory}

-- the name of a way of sharing
abbrev pub way_name : ShareBy → List ℕ
way_name Sessions = codes "sessions"
way_name Users = codes "users"

-- the way that a word names; without a word, sessions
abbrev pub IsWayOf : Option (List ℕ) → ShareBy → Type 0
IsWayOf None way = way ≡ Sessions
IsWayOf (Some word) way = word ≡ way_name way

-- the options of a command state that way
abbrev pub IsWayIn : List Row → ShareBy → Type 0
IsWayIn rows way = IsWayOf (first_of (codes "share-by") rows) way

-- the refusal of a word that names no way
abbrev pub way_refusal : List ℕ → List ℕ
way_refusal word =
    refusal_head (codes "WAY") (codes "sessions or users") (codes "share-by") word
    ++ codes "\n\nFor more information, try '--help'.\n"

-- memory ran out, or the fault is that refusal
abbrev pub IsWayRefusal : List ℕ → WordsFault → Type 0
IsWayRefusal word (Refused text is_help) =
    (string_bytes text ≡ way_refusal word) × (is_help ≡ false)
IsWayRefusal word Memory = Unit {0}

-- memory ran out, or the option has a value that names no way, which the fault refuses
abbrev pub IsUnknownWayIn : List Row → WordsFault → Type 0
IsUnknownWayIn rows (Refused text is_help) =
    (word : List ℕ) × (first_of (codes "share-by") rows ≡ Some word)
    × ((way : ShareBy) → word ≡ way_name way → ⊥) × IsWayRefusal word (Refused text is_help)
IsUnknownWayIn rows Memory = Unit {0}
