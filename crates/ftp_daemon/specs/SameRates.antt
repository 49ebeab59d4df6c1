-- The rates that a server may hold rounds under.
use Rattle.std.specs.Prelude.{◌≡◌, ℕ, Bool, true, false, ◌&&◌, ◌||◌, nat_eq, List, [], ◌∷◌, Option, Some, None}
use Rattle.std.specs.FinMap as finite
use Rattle.line_rates.specs.declared.row.GroupRate.{GroupRate}
use Rattle.line_rates.specs.declared.row.UserRate.{UserRate}
use Rattle.line_rates.specs.declared.share_by.ShareBy.{ShareBy}
use Rattle.line_rates.specs.declared.share_by.ShareBy.TheVariants.{Sessions, Users}
use Rattle.line_rates.specs.Rates.{Rates}

abbrev pub same_number : Option ℕ → Option ℕ → Bool
same_number None None = true
same_number None (Some m) = false
same_number (Some n) None = false
same_number (Some n) (Some m) = nat_eq n m

abbrev pub same_group : GroupRate → GroupRate → Bool
same_group a b = nat_eq a.group b.group && nat_eq a.down b.down && nat_eq a.up b.up

abbrev pub same_user : UserRate → UserRate → Bool
same_user a b =
    nat_eq a.user b.user && same_number a.group b.group && nat_eq a.down b.down
    && nat_eq a.up b.up && nat_eq a.session_down b.session_down
    && nat_eq a.session_up b.session_up && nat_eq a.session_down_floor b.session_down_floor
    && nat_eq a.session_up_floor b.session_up_floor

-- rows under the same numbers, one by one
abbrev pub same_rows : {X : Type 0} → (X → X → Bool) → List (ℕ × X) → List (ℕ × X) → Bool
same_rows same [] [] = true
same_rows same [] (y ∷ ys) = false
same_rows same (x ∷ xs) [] = false
same_rows same (x ∷ xs) (y ∷ ys) = nat_eq x.0 y.0 && same x.1 y.1 && same_rows same xs ys

-- a line is shared among the same
abbrev pub same_sharing : ShareBy → ShareBy → Bool
same_sharing Sessions Sessions = true
same_sharing Sessions Users = false
same_sharing Users Sessions = false
same_sharing Users Users = true

-- the same rates, of the line, of each group and of each user, of a line that is shared among the
-- same
abbrev pub same_rates : Rates → Rates → Bool
same_rates a b =
    nat_eq a.server b.server && nat_eq a.down b.down && nat_eq a.up b.up
    && same_rows same_group (finite.entries a.groups) (finite.entries b.groups)
    && same_rows same_user (finite.entries a.users) (finite.entries b.users)
    && same_sharing a.share_by b.share_by

-- those of the start, and those that its owner may put in force
abbrev pub may_hold : Rates → (Rates → Bool) → Rates → Bool
may_hold limits allows rates = same_rates limits rates || allows rates

-- rates that pass the first test pass the second
abbrev pub Permits : (Rates → Bool) → (Rates → Bool) → Type 0
Permits allows test = (rates : Rates) → allows rates ≡ true → test rates ≡ true
