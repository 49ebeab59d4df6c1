-- Quiet rows: no refill in the same second changes them, and the limits have them. Each has a mark.
use Rattle.std.specs.Prelude.{◌≡◌, ℕ, ◌<◌, Bool, true, false, ◌&&◌, ◌||◌, nat_eq, List, length, slice_index_or, Some}
use Rattle.std.specs.FinMap as finite
use Rattle.line_rates.specs.Rates.{Rates}
use Rattle.round_pace.specs.declared.credit.Credit.{Credit}
use Rattle.round_pace.specs.declared.paced.GroupPace.{GroupPace}
use Rattle.round_pace.specs.declared.paced.UserPace.{UserPace}
use Rattle.round_pace.specs.Earned.{most_kept, begun_in}
use Rattle.round_pace.specs.Offered.{offer_group, offer_user}
use Rattle.round_pace.specs.Paced.{group_key, pace_number}

-- all that is kept is left, or there is no rate
abbrev pub is_full : Credit → Bool
is_full c = nat_eq c.rate 0 || nat_eq c.left (most_kept c.rate)

abbrev pub is_full_group : GroupPace → Bool
is_full_group g = is_full g.down && is_full g.up

-- a user's credits are full, and no session of theirs has a guarantee
abbrev pub is_full_user : UserPace → Bool
is_full_user u =
    (is_full u.down && is_full u.up) && (is_full u.session_down && is_full u.session_up)
    && (nat_eq u.row.session_down_floor 0 && nat_eq u.row.session_up_floor 0)

-- the mark at a place; none is false
abbrev pub mark_at : List Bool → ℕ → Bool
mark_at marks place = slice_index_or marks place false

-- each row with a mark at its place
abbrev pub AllMarked : {X : Type 0} → (X → Type 0) → List Bool → List X → Type 0
AllMarked {X} P marks rows =
    (place : ℕ) (d : X) → place < length rows → mark_at marks place ≡ true
    → P (slice_index_or rows place d)

abbrev pub IsQuietGroup : Rates → GroupPace → Type 0
IsQuietGroup offered g =
    (is_full_group g ≡ true) × (finite.get offered.groups (group_key g) ≡ Some (offer_group g))

abbrev pub IsQuietUser : Rates → UserPace → Type 0
IsQuietUser offered u =
    (is_full_user u ≡ true)
    × ((down up : ℕ)
    → finite.get offered.users (pace_number u) ≡ Some (offer_user down up u))

-- Rows were changed: each with a mark had it before, and is the same.
abbrev pub KeepMarked : {X : Type 0} → List Bool → List X → List Bool → List X → Type 0
KeepMarked {X} old rows new changed =
    (place : ℕ) (d : X) → place < length changed → mark_at new place ≡ true
    → (place < length rows) × (mark_at old place ≡ true)
    × (slice_index_or changed place d ≡ slice_index_or rows place d)

-- a mark is kept only if a tick of the second of `tick` had begun
abbrev pub AreOfSecond : ℕ → ℕ → List Bool → List Bool → Type 0
AreOfSecond begun tick old new =
    (place : ℕ) → mark_at new place ≡ true
    → (mark_at old place ≡ true) × (0 < begun_in begun tick)
