-- Trees while they are grown: some of the names, over some of the asks.
use Rattle.std.specs.Prelude.{◌≡◌, ℕ, ◌+◌, Bool, true, false, ◌&&◌, nat_eq, nat_le, if◌then◌else◌, List, [], ◌∷◌, length, map, slice_get, count_by, IsPermutation, Option, Some, None}
use Rattle.std.specs.List.{filter_map, AllByRecursion, list_any}
use Rattle.limit_tree.specs.Outline.{is_leaf_kind, leaf_want, leaf_floor, leaf_range, places, beside, deeper, branch_over}
use Rattle.limit_tree.specs.declared.node.Node.{Node}
use Rattle.limit_tree.specs.declared.place.NodeKind.TheVariants.{Branch}
use Rattle.limit_tree.specs.declared.place.Place.{Place}
use Rattle.line_rates.specs.declared.ask.Way.{Way}
use Rattle.line_rates.specs.declared.ask.Ask.{Ask}
use Rattle.line_rates.specs.declared.ask.Name.{Name}
use Rattle.line_rates.specs.declared.ask.Name.TheVariants.{Server, Direction, Group, User, Session}
use Rattle.line_rates.specs.Names.{same_way, bears, want_of, floor_of}
use Rattle.line_rates.specs.Rates.{Rates, group_of, rate_of}
use Rattle.line_rates.specs.Ticks.{rate_limit}
use Rattle.line_rates.specs.TickTree.{bears_at, Asker, ask_in}

abbrev pub same_name : Name → Name → Bool
same_name Server Server = true
same_name (Direction w) (Direction v) = same_way w v
same_name (Group w g) (Group v h) = same_way w v && nat_eq g h
same_name (User w g) (User v h) = same_way w v && nat_eq g h
same_name (Session w g s) (Session v h t) = same_way w v && (nat_eq g h && nat_eq s t)
same_name n m = false

abbrev pub at_group : Way → Option ℕ → List Name → List Name
at_group w None rest = rest
at_group w (Some g) rest = Group w g ∷ rest

-- the names that an ask counts under, from the server's down
abbrev pub path_by : Way → Option ℕ → ℕ → ℕ → List Name
path_by w group u s = Server ∷ Direction w ∷ at_group w group (User w u ∷ Session w u s ∷ [])

abbrev pub path : Rates → Ask → List Name
path r a = path_by a.way (group_of r a.user) a.user a.session

-- the name of an ask at a level, if it has one
abbrev pub key : Rates → ℕ → Ask → Option Name
key r level a = slice_get (path r a) level

abbrev pub is_some : Option ℕ → ℕ
is_some None = 0
is_some (Some g) = 1

-- the level of a name for an ask of a user in that group
abbrev pub level_of : Option ℕ → Name → ℕ
level_of group Server = 0
level_of group (Direction w) = 1
level_of group (Group w g) = 2
level_of group (User w u) = 2 + is_some group
level_of group (Session w u s) = 3 + is_some group

-- the ask counts under the name, which is at the level or below
abbrev pub bears_from : Rates → ℕ → Name → Ask → Bool
bears_from r level n a = bears r n a && nat_le level (level_of (group_of r a.user) n)

-- a node with the name of its branch
pub record Mark : Type 0 where
  pub place : Place
  pub name : Option Name

abbrev pub place_in : Mark → Place
place_in m = m.place

abbrev pub is_option : Name → Option Name → Bool
is_option n None = false
is_option n (Some m) = same_name n m

abbrev pub is_marked : Name → Mark → Bool
is_marked n m = is_option n m.name

-- the node is the branch of name n
pub record IsBranchOf (r : Rates) (tick : ℕ) (named : Name → Bool) (asks : List Ask) (n : Name)
    (p : Place) : Type 0 where
  pub kind : p.kind ≡ Branch (rate_limit (rate_of r n) tick)
  pub holds : (i : ℕ) → leaf_range p.first p.leaves i ≡ bears_at r n asks i
  pub among : named n ≡ true

abbrev pub IsMarkBy : Rates → ℕ → (Name → Bool) → List Ask → Option Name → Place → Type 0
IsMarkBy r tick named asks None p = is_leaf_kind p.kind ≡ true
IsMarkBy r tick named asks (Some n) p = IsBranchOf r tick named asks n p

abbrev pub IsMark : Rates → ℕ → (Name → Bool) → List Ask → Mark → Type 0
IsMark r tick named asks m = IsMarkBy r tick named asks m.name m.place

-- One leaf for each ask, and one branch for each name in `named`, over the leaves that count under
-- it.
pub record IsGrown (r : Rates) (tick : ℕ) (named : Name → Bool) (asks : List Ask)
    (ps : List Place) : Type 0 where
  pub marks : List Mark
  pub are : ps ≡ map place_in marks
  pub wants : filter_map (λ p. leaf_want p.kind) ps ≡ map want_of asks
  pub floors : filter_map (λ p. leaf_floor p.kind) ps ≡ map (floor_of r) asks
  pub right : AllByRecursion (IsMark r tick named asks) marks
  pub once : (n : Name) → count_by (is_marked n) marks ≡ (if named n then 1 else 0)

-- some ask counts under the name, which is at the level or below
abbrev pub named_from : Rates → ℕ → List Ask → Name → Bool
named_from r level asks n = list_any (bears_from r level n) asks

-- n is the name of the ask at the level
abbrev pub has_key : Rates → ℕ → Name → Ask → Bool
has_key r level n a = is_option n (key r level a)

-- no name at the level is shared by an ask of each list
abbrev pub IsApart : Rates → ℕ → List Ask → List Ask → Type 0
IsApart r level xs ys =
    (n : Name) → list_any (has_key r level n) xs ≡ true → list_any (has_key r level n) ys ≡ false

-- the nodes of a branch over trees
abbrev pub branch_places : {A : Type 0} → Option ℕ → List (Node A) → List Place
branch_places limit kids =
    let below = beside (map places kids) in branch_over limit (length kids) below ∷ map deeper below

-- the trees of some rows, whose asks are the leaves in this order
pub record IsGrownFrom (r : Rates) (tick level : ℕ) (rows order : List Asker)
    (ps : List Place) : Type 0 where
  pub all : IsPermutation rows order
  pub grown : IsGrown r tick (named_from r level (map ask_in rows)) (map ask_in order) ps

abbrev pub AreGrown : {A : Type 0} → Rates → ℕ → ℕ → List Asker → List Asker → List (Node A)
    → Type 0
AreGrown r tick level rows order kids =
    IsGrownFrom r tick level rows order (beside (map places kids))
