use Rattle.std.proofs.Common.{◌≡◌, ◌++◌}
use Rattle.std.specs.List.{flat_map}
use Rattle.std.specs.String.{string_bytes}
use Rattle.machine_parts.specs.LimitWords.{escaped_character}
use Rattle.machine_parts.proofs.limit_in_words.push_escaped.Given as goal

-- what is written is that of the characters so far
abbrev pub invariant-loop-character : goal.invariant-loop-character
invariant-loop-character l =
    string_bytes l.text ≡ string_bytes l.initial.text ++ flat_map escaped_character l.yielded
