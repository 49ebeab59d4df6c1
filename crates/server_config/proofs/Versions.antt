-- A document with version 2 states the rates that it stated before.
use Rattle.std.proofs.Common.{◌≡◌, ℕ, pos, Bool, true, false, cond, List, Option, Some, option_map, Ok, BTreeMap, String, Global, string_bytes, refl, sym, ap, subst, ◌∙◌}
use Rattle.std.specs.BTreeMap as tree
use Rattle.std.specs.Cmp.Lexicographic.{slice_cmp}
use Rattle.std.specs.Ordering.{nat_cmp}
use Rattle.std.specs.Prelude.{bytes_eq, codes}
use Rattle.std.specs.String.{string_cmp}
use Rattle.std.proofs.lemmas.Map.Text.{btree_map_updates_text}
use Rattle.line_rates.specs.Stated.{stated}
use Rattle.line_rates.specs.TickTree.{IsTickTree}
use Rattle.toml.proofs.Views.{view-lookup}
use Rattle.toml.specs.Data.{Data, integer, Items, Members, get_member}
use Rattle.toml.specs.View.{view, table_view, items_view}
use Rattle.toml.specs.declared.value.Value.{Value}
use Rattle.config_file.specs.Keys.{AllHeld, JudgesFound, KeyRow, needed}
use Rattle.config_file.specs.declared.kind.KeyKind.TheVariants as kind
use Rattle.server_config.specs.RateRows.{rates_of, group_rows, user_rows}
use Rattle.config_file.specs.TableKeys.{group_rows as group_keys, group_values, list_row, rate_row, server_rows, server_values, user_rows as user_keys, user_values}
use Rattle.config_file.specs.Values.{Held, inner, items}
use Rattle.config_file.specs.declared.stated.ServerTable.{ServerTable}
use Rattle.config_file.specs.Lists.{AreRows}
use Rattle.config_file.specs.Tables.{IsTables, is_grouped}
use Rattle.config_file.specs.declared.stated.GroupTable.{GroupTable}
use Rattle.config_file.specs.declared.stated.UserTable.{UserTable}
use Rattle.config_file.specs.declared.tables.Tables.{Tables}
use Rattle.server_config.specs.Migrated.{IsVersioned, SameBranches}
use Rattle.server_config.proofs.Alike.{AreAlike, found_once, numbers_once, rows_alike, GroupsAlike, groups_alike, group_rows_same, UsersAlike, users_alike, user_rows_same}

-- ---- what an insertion leaves

found_at : (m : BTreeMap (String Global) Value) (key : List ℕ) → get_member key (table_view m) ≡ option_map view (tree.get_by_text m key)
found_at m key = sym (view-lookup key m.entries)

seen_by : (b : Bool) (value : Value) (rest : Option Value) → option_map view (cond b (Some value) rest) ≡ cond b (Some (view value)) (option_map view rest)
seen_by true value rest = refl
seen_by false value rest = refl

pub versioned : (old new : BTreeMap (String Global) Value) (key : String Global) (value : Value) → string_bytes key ≡ codes "version" → view value ≡ integer (pos 2)
    → tree.UpdatesBy string_cmp (λ k. slice_cmp nat_cmp (string_bytes key) (string_bytes k)) old new (Some value) → IsVersioned (table_view old) (table_view new)
versioned old new key value is seen updates = λ name.
    found_at new name
    ∙ ap (option_map view) (btree_map_updates_text (string_bytes key) old new (Some value) updates name)
    ∙ seen_by (bytes_eq (string_bytes key) name) value (tree.get_by_text old name)
    ∙ ap (λ s. cond (bytes_eq s name) (Some (view value)) (option_map view (tree.get_by_text old name))) is
    ∙ ap (λ d. cond (bytes_eq (codes "version") name) (Some d) (option_map view (tree.get_by_text old name))) seen
    ∙ ap (cond (bytes_eq (codes "version") name) (Some (integer (pos 2)))) (sym (found_at old name))

-- ---- the rates

servers_same : (members : Members) (x y : ServerTable) (groups hs : List GroupTable) (users vs : List UserTable)
    → AllHeld server_rows members (server_values x) → AllHeld server_rows members (server_values y)
    → group_rows groups ≡ group_rows hs → user_rows groups users ≡ user_rows hs vs → rates_of x groups users ≡ rates_of y hs vs
servers_same members x y groups hs users vs a b same_groups same_users =
    let rate = numbers_once (rate_row (codes "rate")) (get_member (codes "rate") members) x.rate y.rate tt a.1.1.1.1.1.1.1.1.1.1.1.1.1.1.1.0 b.1.1.1.1.1.1.1.1.1.1.1.1.1.1.1.0 in
    let down = numbers_once (rate_row (codes "down_rate")) (get_member (codes "down_rate") members) x.down_rate y.down_rate tt a.1.1.1.1.1.1.1.1.1.1.1.1.1.1.1.1.0 b.1.1.1.1.1.1.1.1.1.1.1.1.1.1.1.1.0 in
    let up = numbers_once (rate_row (codes "up_rate")) (get_member (codes "up_rate") members) x.up_rate y.up_rate tt a.1.1.1.1.1.1.1.1.1.1.1.1.1.1.1.1.1.0 b.1.1.1.1.1.1.1.1.1.1.1.1.1.1.1.1.1.0 in
    ap (λ (n : ℕ). stated n x.down_rate x.up_rate (group_rows groups) (user_rows groups users)) rate
    ∙ ap (λ (n : ℕ). stated y.rate n x.up_rate (group_rows groups) (user_rows groups users)) down
    ∙ ap (λ (n : ℕ). stated y.rate y.down_rate n (group_rows groups) (user_rows groups users)) up
    ∙ ap (λ gs. stated y.rate y.down_rate y.up_rate gs (user_rows groups users)) same_groups
    ∙ ap (λ us. stated y.rate y.down_rate y.up_rate (group_rows hs) us) same_users

-- what stands at a key is the same
inner_of : {x y : Members} → inner x ≡ inner y → x ≡ y
inner_of e = cc

items_of : {x y : Items} → items x ≡ items y → x ≡ y
items_of e = cc

kept_at : (row : KeyRow) (old new : Option Data) (held : Held) → new ≡ old → JudgesFound row new (Ok held) → JudgesFound row old (Ok held)
kept_at row old new held same is = subst (λ found. JudgesFound row found (Ok held)) same is

abbrev server_row : KeyRow
server_row = needed (codes "server") kind.Table

rates_same : (old new : Members) (first second : Tables) → IsVersioned old new → IsTables old first → IsTables new second
    → rates_of first.server first.groups.items first.users.items ≡ rates_of second.server second.groups.items second.users.items
rates_same old new first second versioned a b =
    let server : table_view b.top.server.now ≡ table_view a.top.server.now =
    inner_of (found_once server_row (get_member (codes "server") old) _ _ tt (kept_at server_row _ _ _ (versioned (codes "server")) b.stated.1.1.0) a.stated.1.1.0) in
    let groups : items_view b.top.groups.now ≡ items_view a.top.groups.now =
    items_of (found_once (list_row (codes "group")) (get_member (codes "group") old) _ _ tt (kept_at (list_row (codes "group")) _ _ _ (versioned (codes "group")) b.stated.1.1.1.0) a.stated.1.1.1.0) in
    let users : items_view b.top.users.now ≡ items_view a.top.users.now =
    items_of (found_once (list_row (codes "user")) (get_member (codes "user") old) _ _ tt (kept_at (list_row (codes "user")) _ _ _ (versioned (codes "user")) b.stated.1.1.1.1.0) a.stated.1.1.1.1.0) in
    let same_groups : AreAlike GroupsAlike first.groups.items second.groups.items =
    rows_alike group_keys group_values GroupsAlike groups_alike true true (items_view a.top.groups.now) first.groups.items second.groups.items
    a.groups (subst (λ (rows : Items). AreRows true group_keys group_values rows second.groups.items) groups b.groups) in
    let same_users : AreAlike UsersAlike first.users.items second.users.items =
    rows_alike user_keys user_values UsersAlike users_alike (is_grouped old) (is_grouped new) (items_view a.top.users.now) first.users.items second.users.items
    a.users (subst (λ (rows : Items). AreRows (is_grouped new) user_keys user_values rows second.users.items) users b.users) in
    servers_same (table_view a.top.server.now) first.server second.server first.groups.items second.groups.items first.users.items second.users.items
    a.server.1 (subst (λ (members : Members). AllHeld server_rows members (server_values second.server)) server b.server.1)
    (group_rows_same 0 first.groups.items second.groups.items same_groups)
    (user_rows_same 0 first.groups.items second.groups.items first.users.items second.users.items same_groups same_users)

pub branches_same : SameBranches
branches_same old new first second versioned a b tick asks tree =
    let same : first ≡ second = a.2 ∙ rates_same old new a.0 b.0 versioned a.1 b.1 ∙ sym b.2 in
    (subst (λ rates. IsTickTree rates tick asks tree) same, subst (λ rates. IsTickTree rates tick asks tree) (sym same))
