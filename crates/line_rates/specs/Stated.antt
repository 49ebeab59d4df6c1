-- Rates as stated in rows, and the first fault of rates that cannot be kept.
use Rattle.std.specs.Prelude.{ℕ, ◌+◌, ◌<◌, ◌≤◌, Bool, false, ◌||◌, not, nat_eq, nat_lt, if◌then◌else◌, List, map, count_by, length, slice_index_or, Option, Some, None}
use Rattle.std.specs.Bool.{MatchBool}
use Rattle.std.specs.FinMap as finite
use Rattle.std.specs.List.{list_any, All, AllAdjacentBelow}
use Rattle.std.specs.Ordering.{nat_cmp}
use Rattle.line_rates.specs.Rates.{Rates}
use Rattle.line_rates.specs.declared.fault.LimitsFault.{LimitsFault}
use Rattle.line_rates.specs.declared.fault.LimitsFault.TheVariants.{RateTooLarge, Twice, NoSuchGroup}
use Rattle.line_rates.specs.declared.rate.TheConstants.{MAX_RATE}
use Rattle.line_rates.specs.declared.row.GroupRate.{GroupRate}
use Rattle.line_rates.specs.declared.row.UserRate.{UserRate}
use Rattle.line_rates.specs.declared.share_by.ShareBy.TheVariants as share

abbrev pub group_number : GroupRate → ℕ
group_number row = row.group

abbrev pub user_number : UserRate → ℕ
user_number row = row.user

-- rows by number
abbrev pub by_number : {X : Type 0} → (X → ℕ) → List X → finite.FinMap nat_cmp X
by_number number rows = finite.from_entries (map (λ row. (number row, row)) rows)

-- the rates that are stated, of a line that is shared among its sessions
abbrev pub stated : ℕ → ℕ → ℕ → List GroupRate → List UserRate → Rates
stated server down up groups users =
    record {
      server = server;
      down = down;
      up = up;
      groups = by_number group_number groups;
      users = by_number user_number users;
      share_by = share.Sessions;
    }

abbrev pub is_too_large : ℕ → Bool
is_too_large rate = nat_lt MAX_RATE rate

abbrev pub is_large_group : GroupRate → Bool
is_large_group row = is_too_large row.down || is_too_large row.up

abbrev pub has_large_group : List GroupRate → Bool
has_large_group groups = list_any is_large_group groups

abbrev pub is_large_user : UserRate → Bool
is_large_user row =
    is_too_large row.down || is_too_large row.up || is_too_large row.session_down
    || is_too_large row.session_up || is_too_large row.session_down_floor
    || is_too_large row.session_up_floor

abbrev pub has_large_user : List UserRate → Bool
has_large_user users = list_any is_large_user users

abbrev pub has_large_rate : ℕ → ℕ → ℕ → List GroupRate → List UserRate → Bool
has_large_rate server down up groups users =
    is_too_large server || is_too_large down || is_too_large up || has_large_group groups
    || has_large_user users

-- some number occurs more than once
abbrev pub has_twice : List ℕ → Bool
has_twice numbers = list_any (λ n. nat_lt 1 (count_by (nat_eq n) numbers)) numbers

-- the user has a group, and the group has no row
abbrev pub has_no_row : List GroupRate → Option ℕ → Bool
has_no_row groups None = false
has_no_row groups (Some group) = not (finite.contains_key (by_number group_number groups) group)

-- some user is in a group that has no row
abbrev pub has_stray_user : List GroupRate → List UserRate → Bool
has_stray_user groups users = list_any (λ row. has_no_row groups row.group) users

-- the first fault of stated rates
abbrev pub limits_fault : ℕ → ℕ → ℕ → List GroupRate → List UserRate → Option LimitsFault
limits_fault server down up groups users =
    if has_large_rate server down up groups users then Some RateTooLarge
    else if has_twice (map group_number groups) || has_twice (map user_number users) then Some Twice
    else if has_stray_user groups users then Some NoSuchGroup
    else None

-- each row's number is below that of the next
abbrev pub IsRising : {X : Type 0} → (X → ℕ) → List X → Type 0
IsRising number rows = AllAdjacentBelow (λ x y. number x < number y) rows (length rows)

-- some row's number is not below that of the next
abbrev pub HasTie : {X : Type 0} → (X → ℕ) → List X → Type 0
HasTie {X} number rows =
    (k : ℕ) × (k + 1 < length rows)
    × ((d : X) → number (slice_index_or rows (k + 1) d) ≤ number (slice_index_or rows k d))

-- the result says whether each row's number is below that of the next
abbrev pub ReportsRising : {X : Type 0} → (X → ℕ) → List X → Bool → Type 0
ReportsRising number rows rises = MatchBool rises (IsRising number rows) (HasTie number rows)

pub record FitsGroup (row : GroupRate) : Type 0 where
  pub down : row.down ≤ MAX_RATE
  pub up : row.up ≤ MAX_RATE

pub record FitsUser (row : UserRate) : Type 0 where
  pub down : row.down ≤ MAX_RATE
  pub up : row.up ≤ MAX_RATE
  pub session_down : row.session_down ≤ MAX_RATE
  pub session_up : row.session_up ≤ MAX_RATE
  pub session_down_floor : row.session_down_floor ≤ MAX_RATE
  pub session_up_floor : row.session_up_floor ≤ MAX_RATE

-- rates and rows as limits store them
pub record IsKept (server down up : ℕ) (groups : List GroupRate)
    (users : List UserRate) : Type 0 where
  pub server_fits : server ≤ MAX_RATE
  pub down_fits : down ≤ MAX_RATE
  pub up_fits : up ≤ MAX_RATE
  pub groups_fit : All FitsGroup groups
  pub users_fit : All FitsUser users
  pub groups_rise : IsRising group_number groups
  pub users_rise : IsRising user_number users
