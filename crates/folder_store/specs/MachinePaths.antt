-- Paths of the machine for open files and directories.
use Rattle.std.specs.Prelude.{◌≡◌, ◌⊎◌, ◌++◌, ℤ, List, ℕ, codes}
use Rattle.std.specs.Fmt.{signed_decimal}

-- the machine's path of a file or directory that this process has open, by its descriptor
abbrev pub open_text : ℤ → List ℕ
open_text number = codes "/proc/self/fd/" ++ signed_decimal number

abbrev pub IsOpenText : List ℕ → Type 0
IsOpenText text = (number : ℤ) × (text ≡ open_text number)

-- a path into the directory at a path: that of the open directory, or the same path
abbrev pub IsEntered : List ℕ → List ℕ → Type 0
IsEntered path entered = IsOpenText entered ⊎ (entered ≡ path)
