-- Admission as it is stated without groups, and without guarantees.
use Rattle.std.specs.Prelude.{◌≡◌, ◌<◌, ◌+◌, ℕ, Bool, true, ◌&&◌, Option, Some, None}
use Rattle.std.specs.List.{All}
use Rattle.rate_floors.specs.declared.find.UserSessions.{UserSessions}
use Rattle.rate_floors.specs.declared.fits.TheConstants.{MAX_PROMISED}
use Rattle.rate_floors.specs.Promises.{Promises, admits, counted, user_of, is_small, session_fits, user_fits, line_fits}

-- the guarantees of all counted sessions are within the rates of each session, of the user and of
-- the line
abbrev pub fits_plainly : Promises → Option UserSessions → Bool
fits_plainly after None = true
fits_plainly after (Some entry) =
    is_small after entry.sessions
    && (session_fits entry.row && user_fits entry.row (entry.sessions + 1) && line_fits after)

abbrev pub admits_plainly : Promises → ℕ → Bool
admits_plainly p user = fits_plainly (counted p user) (user_of p user)

-- no user is in a group
abbrev pub HasNoGroups : Promises → Type 0
HasNoGroups p = All (λ (entry : UserSessions). entry.row.group ≡ None) p.users

abbrev pub NoGroupsIsPlain : Type 0
NoGroupsIsPlain = (p : Promises) (user : ℕ) → HasNoGroups p → admits p user ≡ admits_plainly p user

-- no session of the user has a guarantee
abbrev pub IsWithoutFloors : UserSessions → Type 0
IsWithoutFloors entry = (entry.row.session_down_floor ≡ 0) × (entry.row.session_up_floor ≡ 0)

abbrev pub HasNoFloors : Promises → Type 0
HasNoFloors p = All IsWithoutFloors p.users

-- the number of each user's counted sessions can increase
abbrev pub CanGrow : Promises → Type 0
CanGrow p = All (λ (entry : UserSessions). entry.sessions < MAX_PROMISED) p.users

abbrev pub NoFloorsAdmitsAll : Type 0
NoFloorsAdmitsAll = (p : Promises) (user : ℕ) → HasNoFloors p → CanGrow p → admits p user ≡ true
