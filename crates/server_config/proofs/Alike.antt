-- Tables that the same document states have the same rates.
use Rattle.std.proofs.Common.{◌≡◌, ℕ, ◌+◌, Bool, cond, List, [], ◌∷◌, Option, Some, None, option_map, Result, Ok, refl, sym, ap, subst, ◌∙◌}
use Rattle.std.specs.Borrow.{Bor}
use Rattle.std.specs.Prelude.{bytes_eq, codes}
use Rattle.toml.specs.Data.{Data, table, Items, no_items, item, Members, get_member}
use Rattle.config_file.specs.declared.kind.KeyKind.{KeyKind}
use Rattle.config_file.specs.declared.kind.KeyKind.TheVariants as kind
use Rattle.server_config.specs.Groups.{number_named, group_in}
use Rattle.server_config.specs.RateRows.{numbered, group_row, user_row}
use Rattle.config_file.specs.Keys.{AllHeld, JudgesFound, KeyRow, needed, optional}
use Rattle.config_file.specs.Lists.{AreRows}
use Rattle.config_file.specs.TableKeys.{group_rows, group_values, rate_row, text_of, user_rows, user_values}
use Rattle.config_file.specs.Values.{Held, nothing, number, text, text_if, Reads}
use Rattle.config_file.specs.declared.stated.GroupTable.{GroupTable}
use Rattle.config_file.specs.declared.stated.UserTable.{UserTable}
use Rattle.line_rates.specs.declared.row.GroupRate.{GroupRate}
use Rattle.line_rates.specs.declared.row.UserRate.{UserRate}

-- ---- what is judged has one value

-- keys that are read by a function of what is found
abbrev IsPlain : KeyKind → Type 0
IsPlain kind.Address = ⊥
IsPlain kind.Password = ⊥
IsPlain _ = Unit {0}

ok_same : {A B : Type 0} {judged : Result A B} {x y : A} → Ok x ≡ judged → Ok y ≡ judged → x ≡ y
ok_same p q = cc

reads_once : (of : KeyKind) (found : Data) (x y : Held) → IsPlain of → Reads of found (Ok x) → Reads of found (Ok y) → x ≡ y
reads_once kind.Text found x y is a b = ok_same a b
reads_once kind.Line found x y is a b = ok_same a b
reads_once kind.Password found x y is a b = absurd is
reads_once kind.Flag found x y is a b = ok_same a b
reads_once (kind.Number low high) found x y is a b = ok_same a b
reads_once kind.Address found x y is a b = absurd is
reads_once kind.Table found x y is a b = ok_same a b
reads_once kind.Rows found x y is a b = ok_same a b

pub found_once : (row : KeyRow) (found : Option Data) (x y : Held) → IsPlain row.kind → JudgesFound row found (Ok x) → JudgesFound row found (Ok y) → x ≡ y
found_once row (Some found) x y is a b = reads_once row.kind found x y is a b
found_once row None x y is a b = ok_same a b

abbrev pub number_of : Held → ℕ
number_of (number n) = n
number_of _ = 0

-- the number at a key
pub numbers_once : (row : KeyRow) (found : Option Data) (m n : ℕ) → IsPlain row.kind → JudgesFound row found (Ok (number m)) → JudgesFound row found (Ok (number n)) → m ≡ n
numbers_once row found m n is a b = ap number_of (found_once row found (number m) (number n) is a b)

abbrev text_held : Held → List ℕ
text_held (text s) = s
text_held _ = []

texts_once : (row : KeyRow) (found : Option Data) (s t : List ℕ) → IsPlain row.kind → JudgesFound row found (Ok (text s)) → JudgesFound row found (Ok (text t)) → s ≡ t
texts_once row found s t is a b = ap text_held (found_once row found (text s) (text t) is a b)

abbrev optional_held : Held → Option (List ℕ)
optional_held (text s) = Some s
optional_held _ = None

held_if : (s : Option (List ℕ)) → optional_held (text_if s) ≡ s
held_if None = refl
held_if (Some s) = refl

ifs_once : (row : KeyRow) (found : Option Data) (s t : Option (List ℕ)) → IsPlain row.kind → JudgesFound row found (Ok (text_if s)) → JudgesFound row found (Ok (text_if t)) → s ≡ t
ifs_once row found s t is a b = sym (held_if s) ∙ ap optional_held (found_once row found (text_if s) (text_if t) is a b) ∙ held_if t

-- rows of the same data, of which each two that the same members state are alike
abbrev pub AreAlike : {R : Type 0} → (R → R → Type 0) → List R → List R → Type 0
AreAlike Alike [] [] = Unit {0}
AreAlike Alike (x ∷ xs) (y ∷ ys) = Alike x y × AreAlike Alike xs ys
AreAlike Alike _ _ = ⊥

members_of : {x y : Members} → table x ≡ table y → x ≡ y
members_of e = cc

pub rows_alike : {R : Type 0} (keys : List KeyRow) (Values : R → List Held) (Alike : R → R → Type 0)
    → ((members : Members) (x y : R) → AllHeld keys members (Values x) → AllHeld keys members (Values y) → Alike x y)
    → (first second : Bool) (rows : Items) (xs ys : List R) → AreRows first keys Values rows xs → AreRows second keys Values rows ys → AreAlike Alike xs ys
rows_alike keys Values Alike each first second no_items [] [] a b = tt
rows_alike keys Values Alike each first second no_items [] (y ∷ ys) a b = absurd b
rows_alike keys Values Alike each first second no_items (x ∷ xs) ys a b = absurd a
rows_alike keys Values Alike each first second (item d rows) [] ys a b = absurd a
rows_alike keys Values Alike each first second (item d rows) (x ∷ xs) [] a b = absurd b
rows_alike keys Values Alike each first second (item d rows) (x ∷ xs) (y ∷ ys) a b =
    let same : b.0.0 ≡ a.0.0 = members_of (sym b.0.1 ∙ a.0.1) in
    (each a.0.0 x y a.0.2.1 (subst (λ (members : Members). AllHeld keys members (Values y)) same b.0.2.1), rows_alike keys Values Alike each first second rows xs ys a.1 b.1)

-- ---- groups

pub record GroupsAlike (x y : GroupTable) : Type 0 where
  name : x.name.now ≡ y.name.now
  down : x.down_rate ≡ y.down_rate
  up : x.up_rate ≡ y.up_rate

pub groups_alike : (members : Members) (x y : GroupTable) → AllHeld group_rows members (group_values x) → AllHeld group_rows members (group_values y) → GroupsAlike x y
groups_alike members x y a b = record {
  name = texts_once (needed (codes "name") kind.Line) (get_member (codes "name") members) x.name.now y.name.now tt a.0 b.0;
  down = numbers_once (rate_row (codes "down_rate")) (get_member (codes "down_rate") members) x.down_rate y.down_rate tt a.1.0 b.1.0;
  up = numbers_once (rate_row (codes "up_rate")) (get_member (codes "up_rate") members) x.up_rate y.up_rate tt a.1.1.0 b.1.1.0;
}

row_same : (k : ℕ) (x y : GroupTable) → GroupsAlike x y → group_row k x ≡ group_row k y
row_same k x y a =
    ap (λ (d : ℕ). let r : GroupRate = record { group = k; down = d; up = x.up_rate } in r) a.down
    ∙ ap (λ (u : ℕ). let r : GroupRate = record { group = k; down = y.down_rate; up = u } in r) a.up

pub group_rows_same : (k : ℕ) (xs ys : List GroupTable) → AreAlike GroupsAlike xs ys → numbered group_row k xs ≡ numbered group_row k ys
group_rows_same k [] [] are = refl
group_rows_same k [] (y ∷ ys) are = absurd are
group_rows_same k (x ∷ xs) [] are = absurd are
group_rows_same k (x ∷ xs) (y ∷ ys) are =
    ap (λ (r : GroupRate). r ∷ numbered group_row (k + 1) xs) (row_same k x y are.0) ∙ ap (λ (rs : List GroupRate). group_row k y ∷ rs) (group_rows_same (k + 1) xs ys are.1)

pub numbers_same : (name : List ℕ) (xs ys : List GroupTable) → AreAlike GroupsAlike xs ys → number_named xs name ≡ number_named ys name
numbers_same name [] [] are = refl
numbers_same name [] (y ∷ ys) are = absurd are
numbers_same name (x ∷ xs) [] are = absurd are
numbers_same name (x ∷ xs) (y ∷ ys) are =
    ap (λ s. cond (bytes_eq s name) (Some 0) (option_map (λ k. k + 1) (number_named xs name))) are.0.name
    ∙ ap (λ o. cond (bytes_eq y.name.now name) (Some 0) (option_map (λ k. k + 1) o)) (numbers_same name xs ys are.1)

-- ---- users

pub record UsersAlike (x y : UserTable) : Type 0 where
  group : text_of x.group ≡ text_of y.group
  down : x.down_rate ≡ y.down_rate
  up : x.up_rate ≡ y.up_rate
  session_down : x.session_down_rate ≡ y.session_down_rate
  session_up : x.session_up_rate ≡ y.session_up_rate
  session_down_floor : x.session_down_floor ≡ y.session_down_floor
  session_up_floor : x.session_up_floor ≡ y.session_up_floor

pub users_alike : (members : Members) (x y : UserTable) → AllHeld user_rows members (user_values x) → AllHeld user_rows members (user_values y) → UsersAlike x y
users_alike members x y a b = record {
  group = ifs_once (optional (codes "group") kind.Line nothing) (get_member (codes "group") members) (text_of x.group) (text_of y.group) tt a.1.1.1.1.1.1.1.1.1.1.1.1.0 b.1.1.1.1.1.1.1.1.1.1.1.1.0;
  down = numbers_once (rate_row (codes "down_rate")) (get_member (codes "down_rate") members) x.down_rate y.down_rate tt a.1.1.1.1.0 b.1.1.1.1.0;
  up = numbers_once (rate_row (codes "up_rate")) (get_member (codes "up_rate") members) x.up_rate y.up_rate tt a.1.1.1.1.1.0 b.1.1.1.1.1.0;
  session_down = numbers_once (rate_row (codes "session_down_rate")) (get_member (codes "session_down_rate") members) x.session_down_rate y.session_down_rate tt a.1.1.1.1.1.1.0 b.1.1.1.1.1.1.0;
  session_up = numbers_once (rate_row (codes "session_up_rate")) (get_member (codes "session_up_rate") members) x.session_up_rate y.session_up_rate tt a.1.1.1.1.1.1.1.0 b.1.1.1.1.1.1.1.0;
  session_down_floor = numbers_once (rate_row (codes "session_down_floor")) (get_member (codes "session_down_floor") members) x.session_down_floor y.session_down_floor tt a.1.1.1.1.1.1.1.1.0 b.1.1.1.1.1.1.1.1.0;
  session_up_floor = numbers_once (rate_row (codes "session_up_floor")) (get_member (codes "session_up_floor") members) x.session_up_floor y.session_up_floor tt a.1.1.1.1.1.1.1.1.1.0 b.1.1.1.1.1.1.1.1.1.0;
}

abbrev named_in : List GroupTable → Option (List ℕ) → Option ℕ
named_in groups None = None
named_in groups (Some name) = number_named groups name

in_named : (groups : List GroupTable) (group : Option (Bor (List ℕ))) → group_in groups group ≡ named_in groups (text_of group)
in_named groups None = refl
in_named groups (Some name) = refl

named_same : (xs ys : List GroupTable) (name : Option (List ℕ)) → AreAlike GroupsAlike xs ys → named_in xs name ≡ named_in ys name
named_same xs ys None more = refl
named_same xs ys (Some name) more = numbers_same name xs ys more

groups_in_same : (xs ys : List GroupTable) (x y : UserTable) → AreAlike GroupsAlike xs ys → UsersAlike x y → group_in xs x.group ≡ group_in ys y.group
groups_in_same xs ys x y groups a =
    in_named xs x.group ∙ ap (named_in xs) a.group ∙ named_same xs ys (text_of y.group) groups ∙ sym (in_named ys y.group)

abbrev made : ℕ → Option ℕ → ℕ → ℕ → ℕ → ℕ → ℕ → ℕ → UserRate
made k group down up session_down session_up down_floor up_floor = record { user = k; group = group; down = down; up = up; session_down = session_down; session_up = session_up; session_down_floor = down_floor; session_up_floor = up_floor }

user_row_same : (k : ℕ) (xs ys : List GroupTable) (x y : UserTable) → AreAlike GroupsAlike xs ys → UsersAlike x y → user_row xs k x ≡ user_row ys k y
user_row_same k xs ys x y groups a =
    ap (λ (g : Option ℕ). made k g x.down_rate x.up_rate x.session_down_rate x.session_up_rate x.session_down_floor x.session_up_floor) (groups_in_same xs ys x y groups a)
    ∙ ap (λ (n : ℕ). made k (group_in ys y.group) n x.up_rate x.session_down_rate x.session_up_rate x.session_down_floor x.session_up_floor) a.down
    ∙ ap (λ (n : ℕ). made k (group_in ys y.group) y.down_rate n x.session_down_rate x.session_up_rate x.session_down_floor x.session_up_floor) a.up
    ∙ ap (λ (n : ℕ). made k (group_in ys y.group) y.down_rate y.up_rate n x.session_up_rate x.session_down_floor x.session_up_floor) a.session_down
    ∙ ap (λ (n : ℕ). made k (group_in ys y.group) y.down_rate y.up_rate y.session_down_rate n x.session_down_floor x.session_up_floor) a.session_up
    ∙ ap (λ (n : ℕ). made k (group_in ys y.group) y.down_rate y.up_rate y.session_down_rate y.session_up_rate n x.session_up_floor) a.session_down_floor
    ∙ ap (λ (n : ℕ). made k (group_in ys y.group) y.down_rate y.up_rate y.session_down_rate y.session_up_rate y.session_down_floor n) a.session_up_floor

pub user_rows_same : (k : ℕ) (gs hs : List GroupTable) (xs ys : List UserTable) → AreAlike GroupsAlike gs hs → AreAlike UsersAlike xs ys → numbered (user_row gs) k xs ≡ numbered (user_row hs) k ys
user_rows_same k gs hs [] [] groups are = refl
user_rows_same k gs hs [] (y ∷ ys) groups are = absurd are
user_rows_same k gs hs (x ∷ xs) [] groups are = absurd are
user_rows_same k gs hs (x ∷ xs) (y ∷ ys) groups are =
    ap (λ (r : UserRate). r ∷ numbered (user_row gs) (k + 1) xs) (user_row_same k gs hs x y groups are.0)
    ∙ ap (λ (rs : List UserRate). user_row hs k y ∷ rs) (user_rows_same (k + 1) gs hs xs ys groups are.1)
