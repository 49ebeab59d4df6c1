-- One log: its lines, and those that are not of the form.
use Rattle.std.specs.Prelude.{◌≡◌, ℕ, ◌+◌, Bool, true, false, List, [], ◌∷◌, ◌++◌, length, map, Option, Some, None, IfSome, option_map}
use Rattle.std.specs.List.{count_by}
use Rattle.std.specs.Option.{unwrap_or}
use Rattle.log_lines.specs.Lines.{Line, line_of}
use Rattle.log_lines.specs.Words.{Octets}
use Rattle.usage_report.specs.Usages.{HasSeen, lines_in}
use Rattle.usage_report.specs.declared.look.LogLook.{LogLook}
use Rattle.usage_report.specs.declared.usage.Usage.{Usage}

abbrev pub is_unread : Option Line → Bool
is_unread None = true
is_unread (Some line) = false

-- the number of the first line that is not of the form, from 1
abbrev pub first_unread : List (Option Line) → Option ℕ
first_unread [] = None
first_unread (None ∷ seen) = Some 1
first_unread (Some line ∷ seen) = option_map (λ n. n + 1) (first_unread seen)

-- the number of lines, the number of those that are not of the form, and that of the first
pub record IsLookOf (look : LogLook) (seen : List (Option Line)) : Type 0 where
  pub lines : look.lines ≡ length seen
  pub unread : look.unread ≡ count_by is_unread seen
  pub first : look.first_unread ≡ first_unread seen

-- the look after one more line
abbrev pub looked : LogLook → Bool → LogLook
looked look true = record {
  lines = look.lines + 1;
  unread = look.unread;
  first_unread = look.first_unread;
}
looked look false = record {
  lines = look.lines + 1;
  unread = look.unread + 1;
  first_unread = Some (unwrap_or look.first_unread (look.lines + 1));
}

-- more lines are seen than before
abbrev pub HasLooked : LogLook → LogLook → List (Option Line) → Type 0
HasLooked before after more =
    (seen : List (Option Line)) → IsLookOf before seen → IsLookOf after (seen ++ more)

-- of the lines of a text some are taken, from its front, and the lines of the rest are left
pub record TakesLines (before after : Usage) (look further : LogLook) (text rest : Octets)
    : Type 0 where
  pub seen : List (Option Line)
  pub sums : HasSeen before after seen
  pub looks : HasLooked look further seen
  pub left : map line_of (lines_in text) ≡ seen ++ map line_of (lines_in rest)

-- the same of a reader, if its octets are known
abbrev pub TakesFrom : Usage → Usage → LogLook → LogLook → Option Octets → Option Octets → Type 0
TakesFrom before after look further left rest =
    IfSome left (λ text. (more : Octets) × (rest ≡ Some more)
    × TakesLines before after look further text more)

-- known octets have come to their end
abbrev pub ComesToEnd : Option Octets → Option Octets → Type 0
ComesToEnd left rest = IfSome left (λ _. rest ≡ Some [])

-- the lines of a log, all of them
pub record IsLogTaken (before after : Usage) (look : LogLook) (text : Octets) : Type 0 where
  pub sums : HasSeen before after (map line_of (lines_in text))
  pub looks : IsLookOf look (map line_of (lines_in text))
