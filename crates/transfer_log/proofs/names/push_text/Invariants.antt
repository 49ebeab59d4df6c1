use Rattle.std.proofs.Common.{◌≡◌, ◌++◌}
use Rattle.std.specs.List.{flat_map}
use Rattle.std.specs.Prelude.{encode_utf8}
use Rattle.std.specs.String.{string_bytes}
use Rattle.transfer_log.specs.Names.{plain}
use Rattle.transfer_log.proofs.names.push_text.Given as goal

-- what is written is that of the characters so far
abbrev pub invariant-loop-character : goal.invariant-loop-character
invariant-loop-character l =
    string_bytes l.line ≡ string_bytes l.initial.line ++ flat_map (λ c. encode_utf8 (plain c)) l.yielded
