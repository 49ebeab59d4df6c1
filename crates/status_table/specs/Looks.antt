-- The table of two looks at the status of a server.
use Rattle.std.specs.Prelude.{ℕ, Bool, List, Option, Some, None, true, false, ◌&&◌, nat_eq, nat_lt}
use Rattle.std.specs.Borrow.{Bor}
use Rattle.server_status.specs.declared.status.Status.{Status}
use Rattle.status_table.specs.Tables.{IsTable}

-- the second status is of a later moment of the same server
abbrev pub is_later : Status → Status → Bool
is_later first second = nat_eq first.started second.started && nat_lt first.micros second.micros

-- the table of a status with the rates since the first if that is earlier, otherwise since the
-- begin of each transfer
abbrev pub IsTableSince : Bool → Bor Status → Status → ℕ → List ℕ → Type 0
IsTableSince true first now rows text = IsTable (Some first) (Some first) now rows text
IsTableSince false first now rows text = IsTable None None now rows text

-- the table of the second status, or of the first if there is no second
abbrev pub IsLooksTable : Bor Status → Option (Bor Status) → ℕ → List ℕ → Type 0
IsLooksTable first None rows text = IsTable None None first.now rows text
IsLooksTable first (Some second) rows text =
    IsTableSince (is_later first.now second.now) first second.now rows text
