use Rattle.std.proofs.Common.{◌≡◌, ◌++◌}
use Rattle.std.specs.List.{flat_map}
use Rattle.std.specs.String.{string_bytes}
use Rattle.sheet_commands.specs.Escapes.{escaped_character}
use Rattle.sheet_commands.proofs.escape.push_escaped.Given as goal

-- what is written is that of the characters so far
abbrev pub invariant-loop-character : goal.invariant-loop-character
invariant-loop-character g l =
    string_bytes l.text ≡ string_bytes l.initial.text ++ flat_map escaped_character l.yielded
