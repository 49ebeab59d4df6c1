-- A number with its noun.
use Rattle.std.specs.Prelude.{ℕ, if◌then◌else◌, nat_eq, List, ◌++◌, codes}
use Rattle.std.specs.Fmt.{decimal}

abbrev pub counted : ℕ → List ℕ → List ℕ → List ℕ
counted number one more =
    decimal number ++ (codes " " ++ (if nat_eq number 1 then one else more))
