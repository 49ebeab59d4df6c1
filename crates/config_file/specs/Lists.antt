-- Lists of tables, and the values that their rows state.
use Rattle.std.specs.Prelude.{◌≡◌, ◌⊎◌, ℕ, zero, suc, ◌+◌, Bool, List, [], ◌∷◌, codes, Option, Some, None, option_map}
use Rattle.toml.specs.Data.{Data, string, table, Items, no_items, item, Members, get}
use Rattle.config_file.specs.declared.fault.Fault.{Fault}
use Rattle.config_file.specs.declared.fault.Fault.TheVariants.{At, Memory}
use Rattle.config_file.specs.declared.fault.Header.{Header}
use Rattle.config_file.specs.declared.fault.Problem.{Problem}
use Rattle.config_file.specs.declared.fault.Problem.TheVariants.{WrongKind}
use Rattle.config_file.specs.declared.fault.TableName.{TableName}
use Rattle.config_file.specs.declared.kind.KeyKind.TheVariants.{Rows}
use Rattle.config_file.specs.Keys.{KeyRow, States, IsFine, IsRefused}
use Rattle.config_file.specs.Values.{Held}

-- the row is a table, and its values are those read
abbrev pub IsRow : {R : Type 0} → Bool → List KeyRow → (R → List Held) → Data → R → Type 0
IsRow grouped rows Values row read =
    (members : Members) × (row ≡ table members) × States grouped rows members (Values read)

-- row by row
abbrev pub AreRows : {R : Type 0} → Bool → List KeyRow → (R → List Held) → Items → List R → Type 0
AreRows grouped rows Values no_items [] = Unit {0}
AreRows grouped rows Values (item row more) (read ∷ rest) =
    IsRow grouped rows Values row read × AreRows grouped rows Values more rest
AreRows grouped rows Values _ _ = ⊥

-- ---- refusals

-- a table of a file: its name, the number of its row in its list from 1 (0 for a table that is no
-- row), and the name that it states
pub record Place : Type 0 where
  pub table : TableName
  pub row : ℕ
  pub name : Option (List ℕ)

abbrev pub place_of : Header → Place
place_of header =
    record { table = header.table; row = header.row; name = option_map (λ s. s.now) header.name }

-- a table that is no row
abbrev pub whole : TableName → Place
whole name = record { table = name; row = 0; name = None }

-- the row at an index of a list, from 0, with the name that is shown of it
abbrev pub row_at : TableName → ℕ → Option (List ℕ) → Place
row_at kind index name = record { table = kind; row = index + 1; name = name }

-- a fault that this is true of, unless memory ran out
abbrev pub FaultIs : {P : Type 0} → (Place → P → Type 0) → Fault P → Type 0
FaultIs Is (At header problem) = Is (place_of header) problem
FaultIs Is Memory = Unit {0}

abbrev pub text_in : Option Data → Option (List ℕ)
text_in (Some (string name)) = Some name
text_in _ = None

-- the name of the row's owner, or the name that the row states
abbrev pub name_for : Option (List ℕ) → Data → Option (List ℕ)
name_for (Some owner) row = Some owner
name_for None row = text_in (get (codes "name") row)

abbrev pub IsNoTable : Data → Type 0
IsNoTable (table _) = ⊥
IsNoTable _ = Unit {0}

-- the row has no problem
abbrev pub RowIsFine : Bool → List KeyRow → Data → Type 0
RowIsFine grouped rows row =
    (members : Members) × (row ≡ table members) × IsFine grouped rows members

-- the row is no table; or its first problem is that of this key
abbrev pub RowIsRefused : Bool → List KeyRow → List ℕ → Data → List ℕ → Problem → Type 0
RowIsRefused grouped rows list row key problem =
    (IsNoTable row × (key ≡ list) × (problem ≡ WrongKind Rows))
    ⊎ ((members : Members) × (row ≡ table members) × IsRefused grouped rows members key problem)

-- the rows before this one are fine, and this one is refused
abbrev pub IsFirstRefused : Bool → List KeyRow → List ℕ → Items → ℕ → Data → List ℕ → Problem
    → Type 0
IsFirstRefused grouped rows list no_items index row key problem = ⊥
IsFirstRefused grouped rows list (item first more) zero row key problem =
    (row ≡ first) × RowIsRefused grouped rows list first key problem
IsFirstRefused grouped rows list (item first more) (suc index) row key problem =
    RowIsFine grouped rows first × IsFirstRefused grouped rows list more index row key problem

-- the place is that of the first refused row of the list
abbrev pub IsListFault : Bool → List KeyRow → TableName → Option (List ℕ) → List ℕ → Items → Place
    → List ℕ → Problem → Type 0
IsListFault grouped rows name owner list items place key problem =
    (index : ℕ) × (row : Data) × IsFirstRefused grouped rows list items index row key problem
    × (place ≡ row_at name index (name_for owner row))
