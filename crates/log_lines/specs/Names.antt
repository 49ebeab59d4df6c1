-- Names within a line.
use Rattle.std.specs.Prelude.{ℕ, Bool, ◌&&◌, nat_eq, nat_le, List, length}
use Rattle.std.specs.List.{list_all}
use Rattle.std.specs.Str.{chars}
use Rattle.transfer_log.specs.Names.{plain}
use Rattle.log_lines.specs.Words.{Octets}

-- a character that the log does not replace
abbrev pub is_plain : ℕ → Bool
is_plain character = nat_eq (plain character) character

-- plain characters, at least one
abbrev pub is_name : Octets → Bool
is_name word = nat_le 1 (length word) && list_all is_plain (chars word)
