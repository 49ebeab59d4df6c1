-- A table of keys: a row for each key, with its kind and its default, and how the rows judge a TOML
-- table.
use Rattle.std.specs.Prelude.{◌≡◌, ◌⊎◌, ℕ, Bool, true, false, not, ◌||◌, if◌then◌else◌, List, [], ◌∷◌, codes, bytes_eq, Option, Some, None, Ok, Err}
use Rattle.std.specs.List.{list_any}
use Rattle.toml.specs.Data.{Data, string, Members, no_members, member, get_member}
use Rattle.config_file.specs.declared.fault.Problem.{Problem}
use Rattle.config_file.specs.declared.fault.Problem.TheVariants.{Unknown, Missing}
use Rattle.config_file.specs.declared.kind.KeyKind.{KeyKind}
use Rattle.config_file.specs.declared.kind.KeyKind.TheVariants.{Password}
use Rattle.config_file.specs.Values.{Held, text, Judged, Reads}

-- the row of a key; one without a default must be stated
pub record KeyRow : Type 0 where
  pub key : List ℕ
  pub kind : KeyKind
  pub default : Option Held

abbrev pub needed : List ℕ → KeyKind → KeyRow
needed key kind = record { key = key; kind = kind; default = None }

abbrev pub optional : List ℕ → KeyKind → Held → KeyRow
optional key kind default = record { key = key; kind = kind; default = Some default }

-- ---- one key

-- the password of the user `anonymous` is not read
abbrev pub is_anonymous : Option Data → Bool
is_anonymous (Some (string name)) = bytes_eq name (codes "anonymous")
is_anonymous _ = false

abbrev pub is_unread : KeyKind → Members → Bool
is_unread Password given = is_anonymous (get_member (codes "name") given)
is_unread _ given = false

-- the default of a key that is not stated
abbrev pub when_absent : KeyKind → Option Held → Judged
when_absent kind None = Err (Missing kind)
when_absent kind (Some default) = Ok default

abbrev pub JudgesFound : KeyRow → Option Data → Judged → Type 0
JudgesFound row (Some found) judged = Reads row.kind found judged
JudgesFound row None judged = judged ≡ when_absent row.kind row.default

abbrev pub JudgesUnless : Bool → KeyRow → Members → Judged → Type 0
JudgesUnless true row given judged = judged ≡ Ok (text [])
JudgesUnless false row given judged = JudgesFound row (get_member row.key given) judged

-- the value of the row's key in a table, or its problem
abbrev pub Judges : KeyRow → Members → Judged → Type 0
Judges row given judged = JudgesUnless (is_unread row.kind given) row given judged

-- the row's key has a value
abbrev pub Fits : KeyRow → Members → Type 0
Fits row given = (held : Held) × Judges row given (Ok held)

-- ---- the keys that a table may have

abbrev pub is_among : List (List ℕ) → List ℕ → Bool
is_among known key = list_any (λ it. bytes_eq it key) known

-- the keys of the members, which ascend
abbrev pub keys_in : Members → List (List ℕ)
keys_in no_members = []
keys_in (member key found given) = key ∷ keys_in given

-- the first of these keys that is not in the list
abbrev pub first_stray : List (List ℕ) → List (List ℕ) → Option (List ℕ)
first_stray known [] = None
first_stray known (key ∷ keys) = if is_among known key then first_stray known keys else Some key

-- the least key of the table that is not in the list
abbrev pub stray : List (List ℕ) → Members → Option (List ℕ)
stray known given = first_stray known (keys_in given)

-- a file without groups knows no key `group`
abbrev pub is_known : Bool → List ℕ → Bool
is_known grouped key = not (bytes_eq key (codes "group")) || grouped

-- the keys of rows
abbrev pub keys_of : Bool → List KeyRow → List (List ℕ)
keys_of grouped [] = []
keys_of grouped (row ∷ rows) =
    if is_known grouped row.key then row.key ∷ keys_of grouped rows else keys_of grouped rows

-- ---- all keys

-- the table has these values, one for each row
abbrev pub AllHeld : List KeyRow → Members → List Held → Type 0
AllHeld [] given [] = Unit {0}
AllHeld (row ∷ rows) given (held ∷ more) = Judges row given (Ok held) × AllHeld rows given more
AllHeld _ given _ = ⊥

-- the table has these values, and no other keys
abbrev pub States : Bool → List KeyRow → Members → List Held → Type 0
States grouped rows given held =
    (stray (keys_of grouped rows) given ≡ None) × AllHeld rows given held

-- each key has a value
abbrev pub AllFit : List KeyRow → Members → Type 0
AllFit [] given = Unit {0}
AllFit (row ∷ rows) given = Fits row given × AllFit rows given

-- the table has no problem
abbrev pub IsFine : Bool → List KeyRow → Members → Type 0
IsFine grouped rows given = (stray (keys_of grouped rows) given ≡ None) × AllFit rows given

-- the first of the rows whose key is refused, with its problem
abbrev pub IsFirstProblem : List KeyRow → Members → List ℕ → Problem → Type 0
IsFirstProblem [] given key problem = ⊥
IsFirstProblem (row ∷ rows) given key problem =
    ((key ≡ row.key) × Judges row given (Err problem))
    ⊎ (Fits row given × IsFirstProblem rows given key problem)

-- The first problem of a table: its least key that is unknown; or, if there is none, that of the
-- first row whose key is refused.
abbrev pub IsRefused : Bool → List KeyRow → Members → List ℕ → Problem → Type 0
IsRefused grouped rows given key problem =
    ((stray (keys_of grouped rows) given ≡ Some key) × (problem ≡ Unknown))
    ⊎ ((stray (keys_of grouped rows) given ≡ None) × IsFirstProblem rows given key problem)
