-- Each user has overrides.
use Rattle.std.proofs.Common.{◌≡◌, suc, List, [], ◌∷◌, length, Vec, Global, refl, ap}
use Rattle.config_file.specs.Tables.{AreOverrides}
use Rattle.config_file.specs.declared.stated.UserTable.{UserTable}
use Rattle.config_file.specs.declared.stated.OverrideTable.{OverrideTable}

pub same_length : (users : List UserTable) (overrides : List (Vec OverrideTable Global)) → AreOverrides users overrides → length overrides ≡ length users
same_length [] [] are = refl
same_length [] (r ∷ overrides) are = absurd are
same_length (u ∷ users) [] are = absurd are
same_length (u ∷ users) (r ∷ overrides) are = ap suc (same_length users overrides are.1)
