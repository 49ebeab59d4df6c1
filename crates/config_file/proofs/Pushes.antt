-- Rows that are read one after another.
use Rattle.std.proofs.Common.{◌≡◌, ℕ, suc, ◌+◌, ◌<◌, Bool, true, Some, slice_get, List, [], ◌∷◌, ◌++◌, length, take, drop, get_or, subst, sym, ap, Vec, Global, arith, refl, ◌∙◌}
use Rattle.std.proofs.lemmas.List.{take_more, drop_more}
use Rattle.std.proofs.lemmas.Option.{slice_get-get_or}
use Rattle.std.specs.Prelude.{codes}
use Rattle.toml.specs.Data.{Data, Items, no_items, item, push_item}
use Rattle.toml.specs.View.{view, items_view}
use Rattle.toml.specs.declared.value.Value.{Value}
use Rattle.toml.proofs.Views.{items_view-push}
use Rattle.config_file.specs.declared.fault.Problem.{Problem}
use Rattle.config_file.specs.Keys.{KeyRow}
use Rattle.config_file.specs.declared.fault.Fault.{Fault}
use Rattle.config_file.specs.declared.fault.KeyFault.{KeyFault}
use Rattle.config_file.specs.declared.fault.Fault.TheVariants as fault
use Rattle.config_file.specs.declared.fault.TableName.TheVariants.{Override}
use Rattle.config_file.specs.Lists.{IsRow, AreRows, RowIsFine, RowIsRefused, IsFirstRefused, IsListFault}
use Rattle.config_file.specs.Refused.{IsOverrideFault, Reports}
use Rattle.config_file.specs.Tables.{AreOverrides}
use Rattle.config_file.specs.TableKeys.{override_rows, override_values}
use Rattle.config_file.specs.Values.{Held}
use Rattle.config_file.specs.declared.stated.UserTable.{UserTable}
use Rattle.config_file.specs.declared.stated.OverrideTable.{OverrideTable}

-- one row more
pub are_rows_pushed : {R : Type 0} (grouped : Bool) (keys : List KeyRow) (Values : R → List Held) (rows : Items) (read : List R) (row : Data) (last : R)
    → AreRows grouped keys Values rows read → IsRow grouped keys Values row last → AreRows grouped keys Values (push_item rows row) (read ++ last ∷ [])
are_rows_pushed grouped keys Values no_items [] row last before is = (is, tt)
are_rows_pushed grouped keys Values no_items (r ∷ read) row last before is = absurd before
are_rows_pushed grouped keys Values (item d rows) [] row last before is = absurd before
are_rows_pushed grouped keys Values (item d rows) (r ∷ read) row last before is = (before.0, are_rows_pushed grouped keys Values rows read row last before.1 is)

-- the rows that were read of a list of values, and one more
pub are_rows-more : {R : Type 0} (grouped : Bool) (keys : List KeyRow) (Values : R → List Held) (values : List Value) (i : ℕ) (value : Value) (read more : List R) (last : R)
    → i < length values → value ≡ get_or values i value → AreRows grouped keys Values (items_view (take i values)) read → IsRow grouped keys Values (view value) last
    → more ≡ read ++ last ∷ [] → AreRows grouped keys Values (items_view (take (i + 1) values)) more
are_rows-more grouped keys Values values i value read more last within at before is grown =
    rw (grown, take_more values i value within, items_view-push (take i values) (get_or values i value))
    (are_rows_pushed grouped keys Values (items_view (take i values)) read (view (get_or values i value)) last before
    (subst (λ (v : Value). IsRow grouped keys Values (view v) last) at is))

-- ---- refusals

-- what is left of a list, from an index on
rest_from : (values : List Value) (i : ℕ) (value : Value) → i < length values → value ≡ get_or values i value
    → items_view (drop i values) ≡ item (view value) (items_view (drop (i + 1) values))
rest_from values i value within at =
    ap items_view (drop_more values i value within) ∙ ap (λ (v : Value). item (view v) (items_view (drop (i + 1) values))) (sym at)

-- a row is fine, so the first that is refused comes later
pub later : (grouped : Bool) (keys : List KeyRow) (list : List ℕ) (values : List Value) (i : ℕ) (value : Value)
    → i < length values → value ≡ get_or values i value → RowIsFine grouped keys (view value)
    → ((k : ℕ) (row : Data) (key : List ℕ) (problem : Problem) → IsFirstRefused grouped keys list (items_view (drop i values)) k row key problem
    → IsFirstRefused grouped keys list (items_view values) (i + k) row key problem)
    → (k : ℕ) (row : Data) (key : List ℕ) (problem : Problem) → IsFirstRefused grouped keys list (items_view (drop (i + 1) values)) k row key problem
    → IsFirstRefused grouped keys list (items_view values) (i + 1 + k) row key problem
later grouped keys list values i value within at fine before k row key problem is =
    let rest = rest_from values i value within at in
    let found = before (suc k) row key problem (subst (λ items. IsFirstRefused grouped keys list items (suc k) row key problem) (sym rest) (fine, is)) in
    let same : i + suc k ≡ i + 1 + k = omega arith in
    subst (λ (n : ℕ). IsFirstRefused grouped keys list (items_view values) n row key problem) same found

-- the row at an index is the first that is refused
pub first_here : (grouped : Bool) (keys : List KeyRow) (list : List ℕ) (values : List Value) (i : ℕ) (value : Value) (key : List ℕ) (problem : Problem)
    → i < length values → value ≡ get_or values i value → RowIsRefused grouped keys list (view value) key problem
    → ((k : ℕ) (row : Data) (key : List ℕ) (problem : Problem) → IsFirstRefused grouped keys list (items_view (drop i values)) k row key problem
    → IsFirstRefused grouped keys list (items_view values) (i + k) row key problem)
    → IsFirstRefused grouped keys list (items_view values) i (view value) key problem
first_here grouped keys list values i value key problem within at refused before =
    let rest = rest_from values i value within at in
    let found = before 0 (view value) key problem (subst (λ items. IsFirstRefused grouped keys list items 0 (view value) key problem) (sym rest) (refl, refused)) in
    let same : i + 0 ≡ i = omega arith in
    subst (λ (n : ℕ). IsFirstRefused grouped keys list (items_view values) n (view value) key problem) same found

-- ---- overrides

-- the overrides of some users, and of one more
pub are_overrides_pushed : (users : List UserTable) (read : List (Vec OverrideTable Global)) (user : UserTable) (rules : Vec OverrideTable Global)
    → AreOverrides users read → AreRows true override_rows override_values (items_view user.overrides.now) rules.items → AreOverrides (users ++ user ∷ []) (read ++ rules ∷ [])
are_overrides_pushed [] [] user rules before is = (is, tt)
are_overrides_pushed [] (r ∷ read) user rules before is = absurd before
are_overrides_pushed (u ∷ users) [] user rules before is = absurd before
are_overrides_pushed (u ∷ users) (r ∷ read) user rules before is = (before.0, are_overrides_pushed users read user rules before.1 is)

pub are_overrides-more : (users : List UserTable) (i : ℕ) (user : UserTable) (read more : List (Vec OverrideTable Global)) (rules : Vec OverrideTable Global)
    → i < length users → user ≡ get_or users i user → AreOverrides (take i users) read → AreRows true override_rows override_values (items_view user.overrides.now) rules.items
    → more ≡ read ++ rules ∷ [] → AreOverrides (take (i + 1) users) more
are_overrides-more users i user read more rules within at before is grown =
    rw (grown, take_more users i user within) (are_overrides_pushed (take i users) read (get_or users i user) rules before
    (subst (λ (u : UserTable). AreRows true override_rows override_values (items_view u.overrides.now) rules.items) at is))

-- ---- refusals of overrides

stands_at : {X : Type 0} (xs : List X) (i : ℕ) (x : X) → i < length xs → x ≡ get_or xs i x → slice_get xs i ≡ Some x
stands_at xs i x within at = slice_get-get_or xs i x within ∙ ap (λ y. Some y) (sym at)

-- the overrides of a user are refused
pub override_refused : (users : List UserTable) (i : ℕ) (user : UserTable) (read : List (Vec OverrideTable Global)) (reported : Fault KeyFault) → i < length users
    → user ≡ get_or users i user → AreOverrides (take i users) read
    → Reports (IsListFault true override_rows (Override (i + 1)) (Some user.name.now) (codes "override") (items_view user.overrides.now)) reported → Reports (IsOverrideFault users) reported
override_refused users i user read (fault.At header reported) within at before refused = (i, user, read, stands_at users i user within at, before, refused)
override_refused users i user read fault.Memory within at before refused = tt
