-- The words of `usage`.
use Rattle.std.specs.Prelude.{◌≡◌, List, [], Option, Some, None, codes, map, option_map}
use Rattle.std.specs.Option.{unwrap_or}
use Rattle.clap.specs.Words.{Row, Text, all_of, first_of}
use Rattle.command_line.specs.Given.{is_flagged}
use Rattle.command_line.specs.declared.usage.UsageWords.{UsageWords}

-- the words after `usage`: each path, in their order, and each option
pub record AreUsageWords (rows : List Row) (words : UsageWords) : Type 0 where
  pub logs : map (λ w. w.now) words.logs.items ≡ unwrap_or (all_of (codes "XFERLOG") rows) []
  pub day : option_map (λ w. w.now) words.day ≡ first_of (codes "day") rows
  pub by : option_map (λ w. w.now) words.by ≡ first_of (codes "by") rows
  pub first : option_map (λ w. w.now) words.first ≡ first_of (codes "first") rows
  pub json : words.json ≡ is_flagged (codes "json") rows
  pub csv : words.csv ≡ is_flagged (codes "csv") rows

-- the words of the command that the parser found, if that is `usage`
abbrev pub IsUsageRead : Option (Text × List Row) → Option UsageWords → Type 0
IsUsageRead found None = (rows : List Row) → found ≡ Some (codes "usage", rows) → ⊥
IsUsageRead found (Some words) =
    (rows : List Row) × (found ≡ Some (codes "usage", rows)) × AreUsageWords rows words
