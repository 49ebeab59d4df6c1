-- The sums over the lines of logs.
use Rattle.std.specs.Prelude.{◌≡◌, ◌-◌, ◌==◌, ◌&&◌, Bool, true, bytes_eq, nat_eq, if◌then◌else◌, List, [], ◌∷◌, ◌++◌, filter, length, slice_index, take, Option, Some, None, String}
use Rattle.std.specs.BTreeMap.{BTreeMap, get_by_text}
use Rattle.std.specs.declared.alloc.Global.{Global}
use Rattle.std.specs.List.{filter_map}
use Rattle.std.specs.Option.{unwrap_or}
use Rattle.log_lines.specs.Lines.{Line}
use Rattle.log_lines.specs.Words.{Octets, parts}
use Rattle.log_lines.specs.declared.moment.LogDay.{LogDay}
use Rattle.usage_report.specs.Keys.{key_of}
use Rattle.usage_report.specs.Adding.{no_tally, plus, row_of, tally_of}
use Rattle.usage_report.specs.declared.key.UsageKey.{UsageKey}
use Rattle.usage_report.specs.declared.adding.Sums.{Sums}
use Rattle.usage_report.specs.declared.usage.Usage.{Usage}

abbrev pub is_same_day : LogDay → LogDay → Bool
is_same_day one other =
    nat_eq one.year other.year && nat_eq one.month other.month && nat_eq one.day other.day

-- the day is the one that is stated, if one is
abbrev pub is_on_day : Option LogDay → LogDay → Bool
is_on_day None ended = true
is_on_day (Some day) ended = is_same_day day ended

-- the transfer ended on the day
abbrev pub is_on : Option LogDay → Line → Bool
is_on day line = is_on_day day line.ended.day

-- the text without the end of its last line
abbrev pub without_end : Octets → Octets
without_end text =
    if slice_index text (length text - 1) == 10 then take (length text - 1) text else text

-- the lines of a text; the last may lack its end
abbrev pub lines_in : Octets → List Octets
lines_in [] = []
lines_in (octet ∷ rest) = parts 10 (without_end (octet ∷ rest))

-- the transfers of lines that were read, those of the day
abbrev pub counted : Option LogDay → List (Option Line) → List Line
counted day seen = filter (is_on day) (filter_map (λ line. line) seen)

-- those of one key
abbrev pub with_key : UsageKey → Octets → List Line → List Line
with_key by key lines = filter (λ line. bytes_eq (key_of by line) key) lines

-- the sums are those of the lines seen: of each key, those of exactly the transfers with that key
-- that ended on the day; and in all
pub record IsUsageOf (usage : Usage) (seen : List (Option Line)) : Type 0 where
  pub rows : (key : Octets)
      → get_by_text usage.rows key ≡ row_of (with_key usage.by key (counted usage.day seen))
  pub total : usage.total ≡ tally_of (counted usage.day seen)

-- more lines are seen than before, by the same key and of the same day
pub record HasSeen (before after : Usage) (more : List (Option Line)) : Type 0 where
  pub by : after.by ≡ before.by
  pub day : after.day ≡ before.day
  pub sums : (seen : List (Option Line)) → IsUsageOf before seen → IsUsageOf after (seen ++ more)

-- the transfer is added to the row of the key
abbrev pub IsRowAdded : BTreeMap (String Global) Sums → BTreeMap (String Global) Sums → Octets
    → Line → Type 0
IsRowAdded before after key line =
    (other : Octets) → get_by_text after other
    ≡ (if bytes_eq key other then Some (plus (unwrap_or (get_by_text before key) no_tally) line)
    else get_by_text before other)

-- the transfer is added to the row of its key, and to the total
pub record IsCounted (before after : Usage) (line : Line) : Type 0 where
  pub by : after.by ≡ before.by
  pub day : after.day ≡ before.day
  pub total : after.total ≡ plus before.total line
  pub rows : IsRowAdded before.rows after.rows (key_of before.by line) line
