-- The sessions of users.
use Rattle.std.specs.Prelude.{ℕ, ◌+◌, if◌then◌else◌, Bool, true, false, ◌||◌, nat_eq, nat_lt, List, [], ◌∷◌, Option, Some, None}

abbrev pub is_of : ℕ → Option ℕ → Bool
is_of user None = false
is_of user (Some inside) = nat_eq inside user

-- number of the sessions in which a user is logged in
abbrev pub sessions_of : ℕ → List (Option ℕ) → ℕ
sessions_of user [] = 0
sessions_of user (session ∷ sessions) =
    (if is_of user session then 1 else 0) + sessions_of user sessions

-- one more session than these is within the limit; 0 is no limit
abbrev pub has_place : ℕ → ℕ → Bool
has_place most count = nat_eq most 0 || nat_lt count most
