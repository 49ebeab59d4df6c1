use Rattle.std.proofs.Common.{◌≡◌, ◌++◌, string_bytes, take}
use Rattle.std.specs.List.{flat_map}
use Rattle.sheet_commands.specs.Svg.{column_text}
use Rattle.sheet_commands.proofs.svg.push_columns.Given as goal

abbrev pub invariant-loop-place : goal.invariant-loop-place
invariant-loop-place g l = string_bytes l.text ≡ string_bytes l.initial.text ++ flat_map (column_text l.largest) (take l.place-index l.placed)
