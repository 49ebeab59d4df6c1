-- The answer of statx(2).
use Rattle.std.specs.Prelude.{ℕ, ◌+◌, ◌*◌, ◌/◌, ◌%◌, ◌^◌, bit_and}
use Rattle.std.specs.declared.fs.attrs.FileType.{FileType}

-- the type of a file in its mode: the bits under `S_IFMT`
abbrev pub type_of_mode : ℕ → FileType
type_of_mode mode = record { bits = bit_and mode 0o170000 }

-- the number of a device, as makedev(3) makes it
abbrev pub device_number : ℕ → ℕ → ℕ
device_number major minor =
    (major / 4096) * 2 ^ 44 + (minor / 256) * 2 ^ 20 + (major % 4096) * 2 ^ 8 + minor % 256
