-- The columns of a sheet, and their order.
use Rattle.std.specs.Prelude.{◌≡◌, ℕ, nat_eq, Bool, true, not, if◌then◌else◌, List, [], Option, Some, None, length, min, slice_index, slice_index_or, IsPermutation, ◌<◌, ◌+◌, ◌*◌}
use Rattle.std.specs.List.{fold}
use Rattle.std.specs.List.Sorted.{IsNonDecreasingBy, IsStableByKey}
use Rattle.std.specs.Ordering.{nat_cmp}
use Rattle.std.specs.Option.{option_map}
use Rattle.limit_tree.specs.Outline.{limits}
use Rattle.limit_tree.specs.declared.place.NodeKind.{NodeKind}
use Rattle.limit_tree.specs.declared.place.NodeKind.TheVariants.{Branch, Leaf}
use Rattle.limit_tree.specs.declared.place.Place.{Place}
use Rattle.sheet_text.specs.Paths.{text_of, written}
use Rattle.sheet_text.specs.Views.{SheetValue}
use Rattle.sheet_commands.specs.declared.column.Column.{Column}
use Rattle.sheet_commands.specs.declared.column.Holder.{Holder}
use Rattle.sheet_commands.specs.declared.column.TheConstants.{NOBODY, RANKS}

-- the lower of two limits, each if there is one
abbrev pub tighter : Option ℕ → Option ℕ → Option ℕ
tighter None other = other
tighter (Some most) None = Some most
tighter (Some most) (Some other) = Some (min most other)

-- the limit of a branch
abbrev pub limit_of : NodeKind → Option ℕ
limit_of (Branch limit) = limit
limit_of (Leaf want floor) = None

-- the limit of a branch that holds one leaf alone
abbrev pub limit_alone : Place → Option ℕ
limit_alone p = if nat_eq p.leaves 1 then limit_of p.kind else None

-- the limit of a branch that holds this leaf alone
abbrev pub own_limit : Place → ℕ → Option ℕ
own_limit p leaf = if nat_eq p.first leaf then limit_alone p else None

-- the least limit of the branches that hold the leaf alone, if one has a limit
abbrev pub lid_of : List Place → ℕ → Option ℕ
lid_of outline leaf = fold (λ least p. tighter least (own_limit p leaf)) None outline

-- the list has the lid of each leaf
abbrev pub HasLids : List Place → List (Option ℕ) → Type 0
HasLids outline lids =
    (leaf : ℕ) → leaf < length lids → slice_index_or lids leaf None ≡ lid_of outline leaf

-- a node with its path
pub record HolderValue : Type 0 where
  pub node : ℕ
  pub path : List ℕ

-- A column: the path of a want, its grant, its want and its floor, a limit of its own, and the node
-- that holds it back, and its user.
pub record ColumnValue : Type 0 where
  pub path : List ℕ
  pub grant : ℕ
  pub want : ℕ
  pub floor : ℕ
  pub lid : Option ℕ
  pub holder : Option HolderValue
  pub user : ℕ

abbrev pub seen_holder : Holder → HolderValue
seen_holder h = record { node = h.node; path = h.path.now }

abbrev pub seen : Column → ColumnValue
seen c = record {
  path = c.path.now;
  grant = c.grant;
  want = c.want;
  floor = c.floor;
  lid = c.lid;
  holder = option_map seen_holder c.holder;
  user = c.user;
}

abbrev pub holder_at : SheetValue → ℕ → HolderValue
holder_at sheet node = record {
  node = node;
  path = written (slice_index_or sheet.paths node []);
}

-- the column of a leaf of a sheet, by the users, the grants and the entries of its leaves
abbrev pub column_at : SheetValue → List ℕ → List ℕ → List (Option ℕ) → ℕ → ColumnValue
column_at sheet owners grants entries leaf = record {
  path = text_of (slice_index_or sheet.leaves leaf []);
  grant = slice_index grants leaf;
  want = slice_index (limits sheet.outline).wants leaf;
  floor = slice_index (limits sheet.outline).floors leaf;
  lid = lid_of sheet.outline leaf;
  holder = option_map (holder_at sheet) (slice_index_or entries leaf None);
  user = slice_index owners leaf;
}

-- the number of the node that holds a want back; if none does, a number above all of them
abbrev pub rank_within : Option Holder → ℕ
rank_within None = NOBODY
rank_within (Some holder) = holder.node

-- columns are ranked by their users, and those of one user by what holds them back
abbrev pub rank : Column → ℕ
rank c = c.user * RANKS + rank_within c.holder

-- the rank is not that of the column before, or there is none before
abbrev pub is_first : Option ℕ → ℕ → Bool
is_first None rank = true
is_first (Some last) rank = not (nat_eq last rank)

-- the columns sorted by their users, and by what holds them back; those of one rank are in the
-- order that they had
pub record IsOrdered (columns sorted : List Column) : Type 0 where
  pub same : IsPermutation columns sorted
  pub ascending : IsNonDecreasingBy (λ c. rank c) sorted
  pub stable : IsStableByKey (λ c. rank c) nat_cmp columns sorted
