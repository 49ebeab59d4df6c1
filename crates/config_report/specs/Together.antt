-- Warnings of what all users have together, and of names.
use Rattle.std.specs.Prelude.{ℕ, ◌+◌, ◌-◌, ◌^◌, Bool, not, ◌||◌, ◌&&◌, if◌then◌else◌, nat_eq, nat_le, nat_lt, List, [], ◌∷◌, ◌++◌, length, min, slice_index, sum_by}
use Rattle.std.specs.List.{list_any}
use Rattle.config_file.specs.declared.stated.ServerTable.{ServerTable}
use Rattle.config_file.specs.declared.stated.UserTable.{UserTable}
use Rattle.config_report.specs.Floors.{fits, has_floor}
use Rattle.config_report.specs.declared.seen.SeenUser.{SeenUser}
use Rattle.config_report.specs.declared.together.TheConstants.{MOST_LANES}
use Rattle.config_report.specs.declared.warning.Warning.{Warning}
use Rattle.config_report.specs.declared.warning.Warning.TheVariants.{FewLanes, GuaranteesWait, PromisedDown, PromisedUp, PromisedBoth, NoUser, NoName, BlankName}

-- ---- of lanes

-- a transfer may have to wait for a lane
abbrev pub may_wait : ServerTable → Bool
may_wait server = nat_lt server.lanes server.max_cons

-- the same, and more lanes can be stated
abbrev pub has_few_lanes : ServerTable → Bool
has_few_lanes server = may_wait server && nat_lt server.lanes MOST_LANES

abbrev pub has_guarantee : SeenUser → Bool
has_guarantee row = has_floor row.user.now

abbrev pub lane_warnings : ServerTable → List SeenUser → List Warning
lane_warnings server rows =
    (if has_few_lanes server then FewLanes server.lanes server.max_cons ∷ [] else [])
    ++ (if may_wait server && list_any has_guarantee rows
    then GuaranteesWait server.lanes ∷ [] else [])

-- ---- of guarantees

abbrev pub most_promised : ℕ
most_promised = 2 ^ 64 - 1

-- the guarantees of a session of each user
abbrev pub promised_down : List SeenUser → ℕ
promised_down rows =
    min (sum_by (λ (row : SeenUser). row.user.now.session_down_floor) rows) most_promised

abbrev pub promised_up : List SeenUser → ℕ
promised_up rows =
    min (sum_by (λ (row : SeenUser). row.user.now.session_up_floor) rows) most_promised

abbrev pub promised_both : List SeenUser → ℕ
promised_both rows = min (promised_down rows + promised_up rows) most_promised

-- a session of each user cannot have its guarantees at once, within the rates of the server
abbrev pub way_warnings : ServerTable → ℕ → ℕ → List Warning
way_warnings server down up =
    (if fits down server.down_rate then [] else PromisedDown down server.down_rate ∷ [])
    ++ (if fits up server.up_rate then [] else PromisedUp up server.up_rate ∷ [])

abbrev pub both_warnings : ServerTable → ℕ → List Warning
both_warnings server both =
    if fits both server.rate then [] else PromisedBoth both server.rate ∷ []

abbrev pub promise_warnings : ServerTable → List SeenUser → List Warning
promise_warnings server rows =
    way_warnings server (promised_down rows) (promised_up rows)
    ++ both_warnings server (promised_both rows)

-- ---- of users

abbrev pub nobody_warnings : List SeenUser → List Warning
nobody_warnings rows = if nat_eq (length rows) 0 then NoUser ∷ [] else []

-- the name begins or ends with a blank
abbrev pub is_blank_at_an_end : List ℕ → Bool
is_blank_at_an_end name =
    not (nat_eq (length name) 0)
    && (nat_eq (slice_index name 0) 32 || nat_eq (slice_index name (length name - 1)) 32)

abbrev pub name_warnings : UserTable → List Warning
name_warnings user =
    (if nat_eq (length user.name.now) 0 then NoName ∷ [] else [])
    ++ (if is_blank_at_an_end user.name.now then BlankName user.name ∷ [] else [])

-- ---- all

unfoldable pub all_warnings : ServerTable → List SeenUser → List Warning
all_warnings server rows =
    lane_warnings server rows ++ promise_warnings server rows ++ nobody_warnings rows

-- the port of control connections is among the passive ports
abbrev pub is_among_passive : ServerTable → Bool
is_among_passive server =
    nat_le server.passive_first server.port && nat_le server.port server.passive_last
