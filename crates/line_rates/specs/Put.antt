-- Replacing the rates of limits.
use Rattle.std.specs.Prelude.{◌≡◌, ℕ, ◌<◌, List, length, slice_index_or, Option, Some, None, MatchOption}
use Rattle.std.specs.FinMap as finite
use Rattle.std.specs.Ordering.{nat_cmp}
use Rattle.line_rates.specs.declared.row.GroupRate.{GroupRate}
use Rattle.line_rates.specs.declared.row.UserRate.{UserRate}
use Rattle.line_rates.specs.Rates.{Rates}
use Rattle.line_rates.specs.Stated.{by_number}

-- the row with number q is at index i
abbrev pub IsAt : {X : Type 0} → (X → ℕ) → List X → ℕ → ℕ → Type 0
IsAt {X} number rows q i =
    (i < length rows)
    × ((d : X) → finite.get (by_number number rows) q ≡ Some (slice_index_or rows i d))
    × ((d : X) → number (slice_index_or rows i d) ≡ q)

-- the index of the row with number q, if there is one
abbrev pub FindsPlace : {X : Type 0} → (X → ℕ) → List X → ℕ → Option ℕ → Type 0
FindsPlace number rows q place =
    MatchOption place (finite.get (by_number number rows) q ≡ None) (IsAt number rows q)

abbrev pub put_over : {X : Type 0} → Option X → finite.FinMap nat_cmp X → ℕ → X
    → finite.FinMap nat_cmp X
put_over None rows q row = rows
put_over (Some old) rows q row = finite.insert rows q row

-- replaces the row of the same number, if there is one
abbrev pub put : {X : Type 0} → finite.FinMap nat_cmp X → ℕ → X → finite.FinMap nat_cmp X
put rows q row = put_over (finite.get rows q) rows q row

-- replaces the rates of a user, of a group, and of the server and its ways
abbrev pub with_user : Rates → UserRate → Rates
with_user rates row =
    record {
      server = rates.server;
      down = rates.down;
      up = rates.up;
      groups = rates.groups;
      users = put rates.users row.user row;
      share_by = rates.share_by;
    }

abbrev pub with_group : Rates → GroupRate → Rates
with_group rates row =
    record {
      server = rates.server;
      down = rates.down;
      up = rates.up;
      groups = put rates.groups row.group row;
      users = rates.users;
      share_by = rates.share_by;
    }

abbrev pub with_line : Rates → ℕ → ℕ → ℕ → Rates
with_line rates server down up =
    record {
      server = server;
      down = down;
      up = up;
      groups = rates.groups;
      users = rates.users;
      share_by = rates.share_by;
    }
