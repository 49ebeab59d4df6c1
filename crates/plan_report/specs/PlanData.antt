-- The plan of transfers as JSON: a value, whose members docs/plan.md describes.
use Rattle.std.specs.Prelude.{◌≡◌, ◌+◌, ◌++◌, ◌&&◌, ℕ, Bool, List, Option, Some, None, codes, if◌then◌else◌, length, min, nat_eq, slice_get, take}
use Rattle.std.specs.List.{sum_by}
use Rattle.std.specs.Option.{option_map_or}
use Rattle.serde_json.specs.Data.{Data, array, member, no_members, null, number, object, string, unsigned}
use Rattle.serde_json.specs.View.{items_of}
use Rattle.config_file.specs.declared.stated.GroupTable.{GroupTable}
use Rattle.config_file.specs.declared.stated.ServerTable.{ServerTable}
use Rattle.config_file.specs.declared.stated.UserTable.{UserTable}
use Rattle.config_file.specs.declared.tables.Tables.{Tables}
use Rattle.line_rates.specs.Names.{same_way}
use Rattle.line_rates.specs.declared.ask.Ask.{Ask}
use Rattle.line_rates.specs.declared.ask.Name.{Name}
use Rattle.line_rates.specs.declared.ask.Name.TheVariants.{Server, Direction, Group, User, Session}
use Rattle.line_rates.specs.declared.ask.Way.{Way}
use Rattle.line_rates.specs.declared.ask.Way.TheVariants.{Down, Up}
use Rattle.rate_plan.specs.declared.shares.TransferShare.{TransferShare}

abbrev pub way_text : Way → List ℕ
way_text Down = codes "down"
way_text Up = codes "up"

-- the name of the user of that number
abbrev pub user_text : List UserTable → ℕ → List ℕ
user_text users user = option_map_or (λ table. table.name.now) (slice_get users user) (codes "?")

-- the name of the group of that number
abbrev pub group_text : List GroupTable → ℕ → List ℕ
group_text groups group =
    option_map_or (λ table. table.name.now) (slice_get groups group) (codes "?")

-- the limit that holds a transfer back, as in the lines of a plan
abbrev pub held_text : List GroupTable → List UserTable → Option Name → List ℕ
held_text groups users None = codes "want"
held_text groups users (Some Server) = codes "server"
held_text groups users (Some (Direction way)) = codes "server " ++ way_text way
held_text groups users (Some (Group way group)) =
    codes "group " ++ group_text groups group ++ codes " " ++ way_text way
held_text groups users (Some (User way user)) =
    codes "user " ++ user_text users user ++ codes " " ++ way_text way
held_text groups users (Some (Session way user session)) = codes "session " ++ way_text way

-- a rate; 0 is none
abbrev pub rate_data : ℕ → Data
rate_data rate = if nat_eq rate 0 then null else number (unsigned rate)

-- 1 for a share of the same user and direction
abbrev pub alike : Ask → TransferShare → ℕ
alike a s = if nat_eq a.user s.ask.user && same_way a.way s.ask.way then 1 else 0

-- the number of a transfer among those of its user and direction, from 1, given the shares before
-- it
abbrev pub number_after : List TransferShare → Ask → ℕ
number_after before a = sum_by (alike a) before + 1

-- a transfer: its user and direction, its number, its share of a second, its guarantee, and the
-- limit that holds it back
abbrev pub share_data : List GroupTable → List UserTable → List TransferShare → TransferShare
    → Data
share_data groups users before s =
    object
    (member (codes "direction") (string (way_text s.ask.way))
    (member (codes "guaranteed") (rate_data s.floor)
    (member (codes "held_by") (string (held_text groups users s.held))
    (member (codes "number") (number (unsigned (number_after before s.ask)))
    (member (codes "octets") (number (unsigned s.grant))
    (member (codes "user") (string (user_text users s.ask.user)) no_members))))))

-- the octets that shares of one direction get together, at most 2^64 - 1
abbrev pub granted : Way → TransferShare → ℕ
granted way s = if same_way s.ask.way way then s.grant else 0

abbrev pub total : Way → List TransferShare → ℕ
total way shares = min (sum_by (granted way) shares) 18446744073709551615

abbrev pub total_both : List TransferShare → ℕ
total_both shares = min (total Down shares + total Up shares) 18446744073709551615

-- a number for each direction, and one for both together
abbrev pub by_way : Data → Data → Data → Data
by_way both down up =
    object
    (member (codes "both") both
    (member (codes "down") down
    (member (codes "up") up no_members)))

-- the plan: the rates of the server, the totals, the transfers, the unit, and the version of this
-- form
abbrev pub plan_data : ServerTable → List TransferShare → Data → Data
plan_data server shares transfers =
    object
    (member (codes "limits")
    (by_way (rate_data server.rate) (rate_data server.down_rate) (rate_data server.up_rate))
    (member (codes "totals")
    (by_way (number (unsigned (total_both shares))) (number (unsigned (total Down shares)))
    (number (unsigned (total Up shares))))
    (member (codes "transfers") transfers
    (member (codes "unit") (string (codes "octets a second"))
    (member (codes "version") (number (unsigned 1)) no_members)))))

-- the row at a place is that of the share there
abbrev pub IsRowOf : List GroupTable → List UserTable → List TransferShare → ℕ → Data → Type 0
IsRowOf groups users shares i row =
    (s : TransferShare) × (slice_get shares i ≡ Some s)
    × (row ≡ share_data groups users (take i shares) s)

-- a row for each share, in their order
pub record AreRows (groups : List GroupTable) (users : List UserTable) (shares : List TransferShare)
    (rows : List Data) : Type 0 where
  pub count : length rows ≡ length shares
  pub each : (i : ℕ) (row : Data) → slice_get rows i ≡ Some row → IsRowOf groups users shares i row

-- the plan of these shares by the tables of a configuration
abbrev pub IsPlanData : Tables → List TransferShare → Data → Type 0
IsPlanData tables shares value =
    (rows : List Data) × AreRows tables.groups.items tables.users.items shares rows
    × (value ≡ plan_data tables.server shares (array (items_of rows)))
