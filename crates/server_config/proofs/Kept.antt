-- The same configuration is that of a document and of the same with version 2.
use Rattle.std.proofs.Common.{◌≡◌, ◌≤◌, ℕ, pos, Bool, true, false, not, ◌||◌, cond, List, [], ◌∷◌, Option, Some, None, Result, Ok, Err, IfErr, IfOk, String, Global, string_bytes, length, if◌then◌else◌, inr, refl, sym, ap, subst, ◌∙◌}
use Rattle.std.specs.Option.{is_some}
use Rattle.std.proofs.lemmas.Map.Text.{is_eq-slice_cmp}
use Rattle.std.proofs.lemmas.Slice.Eq.{bytes_eq-Decides}
use Rattle.std.specs.Cmp.Lexicographic.{slice_cmp}
use Rattle.std.specs.List.{list_any}
use Rattle.std.specs.Ordering.{is_eq, match_ordering, nat_cmp}
use Rattle.std.specs.declared.cmp.Ordering.{Ordering}
use Rattle.std.specs.declared.cmp.Ordering.TheVariants.{Less, Equal, Greater}
use Rattle.std.specs.Prelude.{bytes_eq, codes}
use Rattle.toml.specs.Data.{Data, integer, Items, no_items, item, Members, no_members, member, get_member}
use Rattle.toml.specs.View.{items_view}
use Rattle.toml.specs.Parse.{parse_document}
use Rattle.toml.specs.Text.{IsDocumentText}
use Rattle.config_file.specs.Keys.{JudgesFound, KeyRow, first_stray, is_among, is_known, keys_in, keys_of, stray}
use Rattle.config_file.specs.Lists.{AreRows}
use Rattle.config_file.specs.TableKeys.{list_row, user_rows, user_values}
use Rattle.config_file.specs.Tables.{IsTables, is_grouped, top_rows}
use Rattle.config_file.specs.Keys.{needed}
use Rattle.config_file.specs.Values.{Held, number}
use Rattle.config_file.specs.declared.keys.TheConstants.{LATEST_VERSION}
use Rattle.config_file.specs.declared.kind.KeyKind.TheVariants.{Number, Table}
use Rattle.config_file.specs.declared.stated.UserTable.{UserTable}
use Rattle.config_file.specs.declared.tables.Tables.{Tables}
use Rattle.server_config.specs.Configs.{IsMadeOf, IsConfig, IsConfigText}
use Rattle.server_config.specs.Migrated.{IsMigrated, IsUnmigrated, IsUnprinted, IsVersioned}
use Rattle.server_config.specs.declared.config.Config.{Config}
use Rattle.server_config.specs.declared.fault.ConfigFault.{ConfigFault}
use Rattle.server_config.specs.declared.migration.TheConstants.{LONGEST_TEXT}

-- ---- keys that stand among the members

abbrev in_keys : List ℕ → List (List ℕ) → Bool
in_keys k keys = list_any (λ l. bytes_eq k l) keys

-- a key that stands there has a value
has_value : (k : List ℕ) (ms : Members) → in_keys k (keys_in ms) ≡ true → is_some (get_member k ms) ≡ true
has_value k no_members is = cc
has_value k (member l d ms) is = go (slice_cmp nat_cmp k l) (is_eq-slice_cmp k l) is (has_value k ms)
  where
    go : (o : Ordering) → is_eq o ≡ bytes_eq k l → (bytes_eq k l || in_keys k (keys_in ms)) ≡ true
        → (in_keys k (keys_in ms) ≡ true → is_some (get_member k ms) ≡ true)
        → is_some (match_ordering o (get_member k ms) (Some d) (get_member k ms)) ≡ true
    go Less same any rec = rec (rw (← same) at any)
    go Equal same any rec = refl
    go Greater same any rec = rec (rw (← same) at any)

-- and one that has a value stands there
stands : (k : List ℕ) (ms : Members) → is_some (get_member k ms) ≡ true → in_keys k (keys_in ms) ≡ true
stands k no_members is = cc
stands k (member l d ms) is = go (slice_cmp nat_cmp k l) (is_eq-slice_cmp k l) is (stands k ms)
  where
    go : (o : Ordering) → is_eq o ≡ bytes_eq k l → is_some (match_ordering o (get_member k ms) (Some d) (get_member k ms)) ≡ true
        → (is_some (get_member k ms) ≡ true → in_keys k (keys_in ms) ≡ true)
        → (bytes_eq k l || in_keys k (keys_in ms)) ≡ true
    go Less same found rec = rw (← same) (rec found)
    go Equal same found rec = rw (← same) refl
    go Greater same found rec = rw (← same) (rec found)

-- where no key is a stranger, each that stands there is known,
known_of : (known keys : List (List ℕ)) (k : List ℕ) → first_stray known keys ≡ None → in_keys k keys ≡ true → is_among known k ≡ true
known_of known [] k none is = cc
known_of known (key ∷ keys) k none is = go (is_among known key) refl (bytes_eq k key) refl none is (known_of known keys k)
  where
    go : (b : Bool) → is_among known key ≡ b → (c : Bool) → bytes_eq k key ≡ c → (if b then first_stray known keys else Some key) ≡ None
        → (c || in_keys k keys) ≡ true → (first_stray known keys ≡ None → in_keys k keys ≡ true → is_among known k ≡ true) → is_among known k ≡ true
    go true among true same first any rec =
        let one : k ≡ key = (bytes_eq-Decides k key).0 same in
        subst (λ (x : List ℕ). is_among known x ≡ true) (sym one) among
    go true among false other first any rec = rec first any
    go false among c same first any rec = absurd (cc)

-- and the other way round
none_strays : (known keys : List (List ℕ)) → ((k : List ℕ) → in_keys k keys ≡ true → is_among known k ≡ true) → first_stray known keys ≡ None
none_strays known [] all = refl
none_strays known (key ∷ keys) all =
    let itself : bytes_eq key key ≡ true = (bytes_eq-Decides key key).1 refl in
    let first : is_among known key ≡ true = all key (rw itself refl) in
    rw first (none_strays known keys (λ k is. all k (later (bytes_eq k key) (in_keys k keys) is)))
  where
    later : (a b : Bool) → b ≡ true → (a || b) ≡ true
    later true b is = refl
    later false b is = is

-- ---- with the key group, as version 2 has it

or_later : (a b : Bool) → b ≡ true → (a || b) ≡ true
or_later true b is = refl
or_later false b is = is

or_true : (a : Bool) → (a || true) ≡ true
or_true true = refl
or_true false = refl

-- what a file without groups knows, one with groups does
more_known : (grouped : Bool) (rows : List KeyRow) (k : List ℕ) → is_among (keys_of grouped rows) k ≡ true → is_among (keys_of true rows) k ≡ true
more_known grouped [] k is = cc
more_known grouped (row ∷ rows) k is = go (is_known grouped row.key) is (more_known grouped rows k)
  where
    go : (known : Bool) → is_among (if known then row.key ∷ keys_of grouped rows else keys_of grouped rows) k ≡ true
        → (is_among (keys_of grouped rows) k ≡ true → is_among (keys_of true rows) k ≡ true) → is_among (keys_of true (row ∷ rows)) k ≡ true
    go true any rec = rw (or_true (not (bytes_eq row.key (codes "group")))) (first (bytes_eq row.key k) any rec)
      where
        first : (same : Bool) → (same || is_among (keys_of grouped rows) k) ≡ true → (is_among (keys_of grouped rows) k ≡ true → is_among (keys_of true rows) k ≡ true)
            → (same || is_among (keys_of true rows) k) ≡ true
        first true any rec = refl
        first false any rec = rec any
    go false any rec = rw (or_true (not (bytes_eq row.key (codes "group")))) (or_later (bytes_eq row.key k) (is_among (keys_of true rows) k) (rec any))

-- the keys at the top
version_known : (k : List ℕ) → bytes_eq (codes "version") k ≡ true → is_among (keys_of true top_rows) k ≡ true
version_known k is =
    let one : codes "version" ≡ k = (bytes_eq-Decides (codes "version") k).0 is in
    subst (λ (x : List ℕ). is_among (keys_of true top_rows) x ≡ true) one refl

top_known : (old new : Members) (grouped : Bool) → IsVersioned old new → stray (keys_of grouped top_rows) old ≡ None → stray (keys_of true top_rows) new ≡ None
top_known old new grouped versioned none = none_strays (keys_of true top_rows) (keys_in new) (λ k is. known k (has_value k new is))
  where
    known : (k : List ℕ) → is_some (get_member k new) ≡ true → is_among (keys_of true top_rows) k ≡ true
    known k found = go (bytes_eq (codes "version") k) refl (ap is_some (versioned k))
      where
        go : (b : Bool) → bytes_eq (codes "version") k ≡ b
            → is_some (get_member k new) ≡ is_some (cond b (Some (integer (pos 2))) (get_member k old)) → is_among (keys_of true top_rows) k ≡ true
        go true is same = version_known k is
        go false is same = more_known grouped top_rows k (known_of (keys_of grouped top_rows) (keys_in old) k none (stands k old (sym same ∙ found)))

-- the rows of users
users_known : (grouped : Bool) (rows : Items) (users : List UserTable) → AreRows grouped user_rows user_values rows users → AreRows true user_rows user_values rows users
users_known grouped no_items [] are = tt
users_known grouped no_items (user ∷ users) are = absurd are
users_known grouped (item d rows) [] are = absurd are
users_known grouped (item d rows) (user ∷ users) are = (
  (are.0.0, are.0.1, (none_strays (keys_of true user_rows) (keys_in are.0.0) (λ k is. more_known grouped user_rows k (known_of (keys_of grouped user_rows) (keys_in are.0.0) k are.0.2.0 is)), are.0.2.1)),
  users_known grouped rows users are.1,
)

-- ---- the tables

version_of : (old new : Members) → IsVersioned old new → get_member (codes "version") new ≡ Some (integer (pos 2))
version_of old new versioned = versioned (codes "version")

has_groups : (old new : Members) → IsVersioned old new → is_grouped new ≡ true
has_groups old new versioned = rw (version_of old new versioned) refl

-- what stands at another key stays
kept_at : (row : KeyRow) (old new : Option Data) (held : Held) → new ≡ old → JudgesFound row old (Ok held) → JudgesFound row new (Ok held)
kept_at row old new held same is = subst (λ found. JudgesFound row found (Ok held)) (sym same) is

abbrev version_row : KeyRow
version_row = needed (codes "version") (Number 1 LATEST_VERSION)

second_version : (found : Option Data) → found ≡ Some (integer (pos 2)) → JudgesFound version_row found (Ok (number 2))
second_version found is = rw is refl

pub tables_kept : (old new : Members) (tables : Tables) → IsVersioned old new → IsTables old tables → IsTables new (record tables { version = 2 })
tables_kept old new tables versioned is =
    let grouped : is_grouped new ≡ true = has_groups old new versioned in
    record {
      top = record is.top { version = 2 };
      stated = (
        subst (λ (b : Bool). stray (keys_of b top_rows) new ≡ None) (sym grouped) (top_known old new (is_grouped old) versioned is.stated.0),
        (
          second_version (get_member (codes "version") new) (version_of old new versioned),
          (
            kept_at (needed (codes "server") Table) _ _ _ (versioned (codes "server")) is.stated.1.1.0,
            (
              kept_at (list_row (codes "group")) _ _ _ (versioned (codes "group")) is.stated.1.1.1.0,
              (
                kept_at (list_row (codes "user")) _ _ _ (versioned (codes "user")) is.stated.1.1.1.1.0,
                (
                  kept_at (list_row (codes "dir")) _ _ _ (versioned (codes "dir")) is.stated.1.1.1.1.1.0,
                  (
                    kept_at (list_row (codes "file")) _ _ _ (versioned (codes "file")) is.stated.1.1.1.1.1.1.0,
                    tt,
                  ),
                ),
              ),
            ),
          ),
        ),
      );
      version = refl;
      server = is.server;
      groups = is.groups;
      users = subst (λ (b : Bool). AreRows b user_rows user_values (items_view is.top.users.now) tables.users.items) (sym grouped)
          (users_known (is_grouped old) (items_view is.top.users.now) tables.users.items is.users);
      overrides = is.overrides;
      dirs = is.dirs;
      files = is.files;
    }

made_kept : (tables : Tables) (config : Config) → IsMadeOf tables config → IsMadeOf (record tables { version = 2 }) config
made_kept tables config made = record {
  settings = made.settings;
  numbers = made.numbers;
  ports = made.ports;
  groups_apart = made.groups_apart;
  users_grouped = made.users_grouped;
  users = made.users;
  store = made.store;
  limits = made.limits;
  group_names = made.group_names;
}

-- the configuration of a document is that of the text that prints the document with version 2
pub config_kept : (text : List ℕ) (old new : Members) (config : Config) → IsVersioned old new → IsConfig old config → parse_document text ≡ Some new → IsConfigText text config
config_kept text old new config versioned is parsed =
    (new, parsed, (record is.0 { version = 2 }, tables_kept old new is.0 versioned is.1, made_kept is.0 config is.2))

-- ---- what was printed, or why nothing was

pub migrated : (octets : List ℕ) (old new : Members) (config : Config) (answer : Result (String Global) ConfigFault) → parse_document octets ≡ Some old → IsVersioned old new
    → IsConfig old config → IfOk answer (λ text. IsDocumentText false new (string_bytes text)) → IfOk answer (λ text. parse_document (string_bytes text) ≡ Some new)
    → IfOk answer (λ text. length (string_bytes text) ≤ LONGEST_TEXT) → IfOk answer (λ text. IsMigrated octets (string_bytes text))
migrated octets old new config (Ok text) parsed versioned is printed back short = record {
  old = old;
  new = new;
  document = parsed;
  versioned = versioned;
  printed = printed;
  reads_back = back;
  short = short;
  config = config;
  was = (old, parsed, is);
  stays = config_kept (string_bytes text) old new config versioned is back;
}
migrated octets old new config (Err fault) parsed versioned is printed back short = tt

pub unmigrated : (octets : List ℕ) (old new : Members) (answer : Result (String Global) ConfigFault) → parse_document octets ≡ Some old → IsVersioned old new
    → IfErr answer (IsUnprinted new) → IfErr answer (IsUnmigrated octets)
unmigrated octets old new (Ok text) parsed versioned is = tt
unmigrated octets old new (Err fault) parsed versioned is = inr (old, new, parsed, versioned, is)
