-- The meaning of the machine's answers on a path.
use Rattle.std.specs.Prelude.{ℕ, ◌*◌, ◌/◌, ◌%◌, ◌^◌, ◌+◌, Bool, ◌||◌, true, false, cond, nat_eq, Option, None, Some}
use Rattle.std.specs.IoError.{error_kind}
use Rattle.std.specs.declared.io.Error.{Error}
use Rattle.std.specs.declared.io.ErrorKind.{ErrorKind}
use Rattle.std.specs.declared.io.ErrorKind.TheVariants.{NotFound}
use Rattle.folder_store.specs.declared.looked.LookedKind.{LookedKind}
use Rattle.folder_store.specs.declared.looked.LookedKind.TheVariants as looked
use Rattle.machine_parts.specs.declared.answers.FileKind.{FileKind}
use Rattle.machine_parts.specs.declared.answers.FileKind.TheVariants.{File, Device, Other}
use Rattle.machine_parts.specs.declared.sign_file.SignLook.{SignLook}
use Rattle.machine_parts.specs.declared.sign_file.SignLook.TheVariants.{There, Nothing, Unseen}

-- there is nothing at a path
abbrev pub is_absent : ErrorKind → Bool
is_absent NotFound = true
is_absent _ = false

-- the kind that is in a mode (inode(7)): 8 is a regular file, and 2 a character device
abbrev pub kind_of : ℕ → FileKind
kind_of mode =
    cond (nat_eq ((mode / 2 ^ 12) % 16) 8) File
    (cond (nat_eq ((mode / 2 ^ 12) % 16) 2) Device Other)

-- a log is a regular file, or a character device
abbrev pub is_log_mode : ℕ → Bool
is_log_mode mode =
    nat_eq ((mode / 2 ^ 12) % 16) 8 || nat_eq ((mode / 2 ^ 12) % 16) 2

-- a text may replace nothing, and a regular file
abbrev pub may_be_replaced : Option LookedKind → Bool
may_be_replaced None = true
may_be_replaced (Some looked.File) = true
may_be_replaced (Some looked.Directory) = false
may_be_replaced (Some looked.Other) = false

-- a look at the path of a sign, by the machine's reason for which nothing is found, if there is one
abbrev pub look_of : Option Error → SignLook
look_of None = There
look_of (Some reason) = cond (is_absent (error_kind reason)) Nothing (Unseen reason)

-- a sign is given exactly if its file is there
abbrev pub is_given : SignLook → Bool
is_given There = true
is_given Nothing = false
is_given (Unseen reason) = false

-- a look that the machine has refused
abbrev pub refusal_of : SignLook → Option Error
refusal_of There = None
refusal_of Nothing = None
refusal_of (Unseen reason) = Some reason

-- the reason that is noted: that of the first look after one that was not refused
abbrev pub noted_of : Bool → SignLook → Option Error
noted_of true look = None
noted_of false look = refusal_of look

-- the permissions of a file of which nobody but its owner has anything
abbrev pub owner_mode : ℕ
owner_mode = 6 * 8 ^ 2

-- those of a file that its owner writes, and that its group reads
abbrev pub group_mode : ℕ
group_mode = 6 * 8 ^ 2 + 4 * 8
