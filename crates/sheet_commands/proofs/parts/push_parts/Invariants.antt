use Rattle.std.proofs.Common.{◌≡◌, ◌++◌, string_bytes, take}
use Rattle.std.specs.List.{flat_map}
use Rattle.sheet_commands.specs.Parts.{part_text}
use Rattle.sheet_commands.proofs.parts.push_parts.Given as goal

abbrev pub invariant-loop-part : goal.invariant-loop-part
invariant-loop-part g l = string_bytes l.text ≡ string_bytes l.initial.text ++ flat_map part_text (take l.part-index l.parts)
