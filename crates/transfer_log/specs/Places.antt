-- A log that may be moved away.
use Rattle.std.specs.Prelude.{Bool, true, not, ◌&&◌, nat_eq, Option, Some, None}
use Rattle.transfer_log.specs.declared.place.FileNumbers.{FileNumbers}

abbrev pub is_same_file : FileNumbers → FileNumbers → Bool
is_same_file one other = nat_eq one.device other.device && nat_eq one.inode other.inode

-- The file is opened anew unless the open file is the one at the path.
abbrev pub must_open : Option FileNumbers → Option FileNumbers → Bool
must_open None there = true
must_open (Some held) None = true
must_open (Some held) (Some there) = not (is_same_file held there)
