use Rattle.std.proofs.Common.{◌≡◌, ◌++◌, codes}
use Rattle.std.specs.List.{flat_map}
use Rattle.std.specs.Str.Iter.{chars_rest}
use Rattle.std.specs.String.{string_bytes}
use Rattle.ftp_reply.specs.Quoting.{doubled}
use Rattle.ftp_reply.proofs.quoting.quoted_path.Given as goal

-- what is written, and what is left of the path
abbrev pub invariant-loop-character : goal.invariant-loop-character
invariant-loop-character g l =
    string_bytes l.text ++ flat_map doubled (chars_rest l.character-iterator) ≡ codes "\"" ++ flat_map doubled l.path
