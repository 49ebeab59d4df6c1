-- The numbers of groups: a group's number is the number of groups before it in the file.
use Rattle.std.specs.Prelude.{◌≡◌, ◌≢◌, ◌≤◌, ◌<◌, ◌^◌, ◌⊎◌, ℕ, ◌+◌, List, [], ◌∷◌, cond, length, take, slice_get, bytes_eq, get_or, Option, Some, None, option_map, String}
use Rattle.std.specs.Borrow.{Bor}
use Rattle.std.specs.List.{AllByRecursion}
use Rattle.std.specs.BTreeMap.{BTreeMap, get_by_text}
use Rattle.std.specs.declared.alloc.Global.{Global}
use Rattle.config_file.specs.declared.stated.GroupTable.{GroupTable}
use Rattle.config_file.specs.declared.stated.UserTable.{UserTable}
use Rattle.server_config.specs.declared.group_problem.GroupProblem.{GroupProblem}
use Rattle.server_config.specs.declared.group_problem.GroupProblem.TheVariants.{Twice, NoSuchGroup, NoNumber}
use Rattle.config_file.specs.declared.fault.Fault.{Fault}
use Rattle.config_file.specs.declared.fault.Fault.TheVariants.{At, Memory}
use Rattle.config_file.specs.declared.fault.Header.{Header}
use Rattle.config_file.specs.declared.fault.TableName.{TableName}
use Rattle.config_file.specs.declared.fault.TableName.TheVariants as TableName
use Rattle.config_file.specs.Lists.{FaultIs, Place, place_of, row_at}

-- the number of the first group of a name
abbrev pub number_named : List GroupTable → List ℕ → Option ℕ
number_named [] name = None
number_named (group ∷ groups) name =
    cond (bytes_eq group.name.now name) (Some 0)
    (option_map (λ k. k + 1) (number_named groups name))

-- each group is the first of its name, so no two have one
abbrev pub AreApart : List GroupTable → Type 0
AreApart groups =
    (k : ℕ) (other : GroupTable) → k < length groups
    → number_named groups (get_or groups k other).name.now ≡ Some k

-- the number of a user's group
abbrev pub group_in : List GroupTable → Option (Bor (List ℕ)) → Option ℕ
group_in groups None = None
group_in groups (Some name) = number_named groups name.now

-- the group that a user is in, if in one, has a number
abbrev pub HasGroup : List GroupTable → Option (Bor (List ℕ)) → Type 0
HasGroup groups None = Unit {0}
HasGroup groups (Some name) = (k : ℕ) × (number_named groups name.now ≡ Some k)

-- numbers kept by names
abbrev pub number_by : BTreeMap (String Global) ℕ → List ℕ → Option ℕ
number_by numbers name = get_by_text numbers name

abbrev pub AreNumbers : List GroupTable → BTreeMap (String Global) ℕ → Type 0
AreNumbers groups numbers = (name : List ℕ) → number_by numbers name ≡ number_named groups name

-- ---- refusals

abbrev pub AreGrouped : List GroupTable → List UserTable → Type 0
AreGrouped groups users = AllByRecursion (λ user. HasGroup groups user.group) users

-- the row at an index is at fault, or memory ran out
pub record IsRowFault (table : TableName) (index : ℕ) (name : List ℕ) (problem : GroupProblem)
    (fault : Fault GroupProblem) : Type 0 where
  pub header : Header
  pub is : fault ≡ At header problem
  pub place : place_of header ≡ row_at table index (Some name)

-- the place is that of the first group with the name of one before it
pub record IsTwice (groups : List GroupTable) (at : Place) : Type 0 where
  pub index : ℕ
  pub group : GroupTable
  pub is : slice_get groups index ≡ Some group
  pub before : AreApart (take index groups)
  pub named : number_named (take index groups) group.name.now ≢ None
  pub place : at ≡ row_at TableName.Group index (Some group.name.now)

-- no two groups have one name, and the place is that of the first user whose group is none of them
pub record IsStray (groups : List GroupTable) (users : List UserTable) (at : Place) : Type 0 where
  pub apart : AreApart groups
  pub index : ℕ
  pub user : UserTable
  pub is : slice_get users index ≡ Some user
  pub before : AreGrouped groups (take index users)
  pub group : HasGroup groups user.group → ⊥
  pub place : at ≡ row_at TableName.User index (Some user.name.now)

-- the place is that of a row which has no number
pub record IsNumberless {R : Type 0} (table : TableName) (name : R → List ℕ) (rows : List R)
    (at : Place) : Type 0 where
  pub index : ℕ
  pub row : R
  pub is : slice_get rows index ≡ Some row
  pub many : 2 ^ 32 ≤ index
  pub place : at ≡ row_at table index (Some (name row))

-- the place and the problem: two groups have one name, a user's group is none of them, or a group
-- or a user has no number
abbrev pub IsProblem : List GroupTable → List UserTable → Place → GroupProblem → Type 0
IsProblem groups users place Twice = IsTwice groups place
IsProblem groups users place NoSuchGroup = IsStray groups users place
IsProblem groups users place NoNumber =
    IsNumberless TableName.Group (λ group. group.name.now) groups place
    ⊎ IsNumberless TableName.User (λ user. user.name.now) users place

abbrev pub IsFault : List GroupTable → List UserTable → Fault GroupProblem → Type 0
IsFault groups users fault = FaultIs (IsProblem groups users) fault

-- the same of the group at an index, by the numbers of those before it
abbrev pub IsFaultOfNext : BTreeMap (String Global) ℕ → ℕ → List ℕ → Fault GroupProblem → Type 0
IsFaultOfNext numbers index name (At header Twice) =
    (number_by numbers name ≢ None) × (place_of header ≡ row_at TableName.Group index (Some name))
IsFaultOfNext numbers index name (At header NoNumber) =
    (2 ^ 32 ≤ index) × (place_of header ≡ row_at TableName.Group index (Some name))
IsFaultOfNext numbers index name (At header NoSuchGroup) = ⊥
IsFaultOfNext numbers index name Memory = Unit {0}

-- the same of the user at an index
abbrev pub IsFaultOfUser : List GroupTable → ℕ → UserTable → Fault GroupProblem → Type 0
IsFaultOfUser groups index user (At header NoSuchGroup) =
    (HasGroup groups user.group → ⊥)
    × (place_of header ≡ row_at TableName.User index (Some user.name.now))
IsFaultOfUser groups index user (At header NoNumber) =
    (2 ^ 32 ≤ index) × (place_of header ≡ row_at TableName.User index (Some user.name.now))
IsFaultOfUser groups index user (At header Twice) = ⊥
IsFaultOfUser groups index user Memory = Unit {0}

-- no number is left at an index
abbrev pub IsNoNumber : TableName → ℕ → List ℕ → Fault GroupProblem → Type 0
IsNoNumber table index name (At header NoNumber) =
    (2 ^ 32 ≤ index) × (place_of header ≡ row_at table index (Some name))
IsNoNumber table index name _ = ⊥
