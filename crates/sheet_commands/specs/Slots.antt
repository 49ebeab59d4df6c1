-- The code's slots, in terms of the lines that were read.
use Rattle.std.specs.Prelude.{◌≡◌, ℕ, ◌<◌, List, length, slice_index_or, Option}
use Rattle.std.specs.Option.{option_map}
use Rattle.sheet_commands.specs.declared.grants.Given.{Given}
use Rattle.sheet_commands.specs.declared.grants.Slots.{Slots}
use Rattle.sheet_text.specs.Views.{SheetValue}
use Rattle.sheet_commands.specs.Grants.{named_node, line_of_leaf}
use Rattle.sheet_text.specs.Text.{GrantLine}

-- the grant of a line, with the number of the node that it names
abbrev pub given_by : SheetValue → GrantLine → Given
given_by sheet line = record { octets = line.octets; node = named_node sheet line.node }

pub record Filled {A : Type 0} (sheet : SheetValue) (slots : Slots A)
    (lines : List GrantLine) : Type 0 where
  pub lines_are : slots.lines ≡ length lines
  pub slots_length : length slots.slots.items ≡ length sheet.leaves
  pub slots_are : (leaf : ℕ) (d : Option Given) → leaf < length sheet.leaves
      → slice_index_or slots.slots.items leaf d
      ≡ option_map (given_by sheet) (line_of_leaf sheet lines leaf)
