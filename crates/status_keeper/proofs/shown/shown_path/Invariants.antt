use Rattle.std.proofs.Common.{◌≡◌}
use Rattle.std.specs.List.{flat_map}
use Rattle.std.specs.Prelude.{encode_utf8}
use Rattle.std.specs.String.{string_bytes}
use Rattle.status_keeper.specs.Shown.{shown}
use Rattle.status_keeper.proofs.shown.shown_path.Given as goal

-- what is written is that of the characters so far
abbrev pub invariant-loop-character : goal.invariant-loop-character
invariant-loop-character l =
    string_bytes l.text ≡ flat_map (λ c. encode_utf8 (shown c)) l.yielded
