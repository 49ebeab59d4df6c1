-- Levels of branches, and the grants of one pass over the nodes.
use Rattle.std.specs.Prelude.{◌≡◌, ℕ, ◌+◌, ◌-◌, ◌<◌, ◌≤◌, ◌⊎◌, List, length, min, max, Option, Some, None, not, slice_index, slice_get, count_by}
use Rattle.limit_tree.specs.Sharing.{IsNotTooGreat, sum_below}
use Rattle.limit_tree.specs.Outline.{limits, is_leaf_kind}
use Rattle.limit_tree.specs.Flat.{taken_in, taken_below}
use Rattle.limit_tree.specs.declared.place.Place.{Place}
use Rattle.limit_tree.specs.declared.place.NodeKind.TheVariants.{Branch}
use Rattle.grant_certificate.specs.Equals.{AreBeside}
use Rattle.round_allocator.specs.declared.level.LevelShare.{LevelShare}
use Rattle.round_allocator.specs.declared.level.Split.{Split}
use Rattle.round_allocator.specs.declared.level.Window.{Window}

-- number of branches among the nodes
abbrev pub branch_count : List Place → ℕ
branch_count outline = count_by (λ p. not (is_leaf_kind p.kind)) outline

-- the node with this number is a branch with that limit, if it has one
abbrev pub IsBranchAt : List Place → ℕ → Option ℕ → Type 0
IsBranchAt outline node limit =
    (p : Place) × (slice_get outline node ≡ Some p) × (p.kind ≡ Branch limit)

-- the greatest level at which the kids of a node absorb no more than its limit, and what is left of
-- the limit at that level
pub record IsLevel (outline : List Place) (node most : ℕ) (share : LevelShare) : Type 0 where
  pub fits : taken_below share.level outline node + share.spare ≡ most
  pub greatest : most < taken_below (share.level + 1) outline node

-- one window lies inside another and is at most half as wide, rounded up
pub record IsNarrower (outline : List Place) (node most : ℕ) (window next : Window) : Type 0 where
  pub order : next.low < next.high
  pub top : next.high ≤ window.high
  pub below : next.taken ≡ taken_below next.low outline node
  pub fits : next.taken ≤ most
  pub above : most < taken_below next.high outline node
  pub width : next.high + next.high ≤ next.low + next.low + (window.high + 1 - window.low)

-- the branch has no limit: its kids get all spare octets
pub record IsOpen (limit : Option ℕ) (share : LevelShare) (plan : Split) : Type 0 where
  pub none : limit ≡ None
  pub level : plan.share.level ≡ share.level
  pub spare : plan.share.spare ≡ share.spare
  pub kept : plan.kept ≡ 0

-- the kids absorb at most the limit: they get spare octets up to what is left of it
pub record IsRoomy (outline : List Place) (node : ℕ) (limit : Option ℕ) (share : LevelShare)
    (plan : Split) : Type 0 where
  pub most : ℕ
  pub some : limit ≡ Some most
  pub level : plan.share.level ≡ share.level
  pub fits : taken_below share.level outline node + plan.share.spare ≤ most
  pub spare : plan.kept + plan.share.spare ≡ share.spare
  pub least : (plan.kept ≡ 0) ⊎ (taken_below share.level outline node + plan.share.spare ≡ most)

-- the kids absorb more than the limit: they get a lower level, and what is left of the limit at
-- that level
pub record IsCut (outline : List Place) (node : ℕ) (limit : Option ℕ) (share : LevelShare)
    (plan : Split) : Type 0 where
  pub most : ℕ
  pub some : limit ≡ Some most
  pub lower : plan.share.level < share.level
  pub found : IsLevel outline node most plan.share
  pub above : most < taken_below share.level outline node
  pub kept : plan.kept ≡ share.spare

-- the division of a branch's spare octets above a level among its kids
abbrev pub IsPlan : List Place → ℕ → Option ℕ → LevelShare → Split → Type 0
IsPlan outline node limit share plan =
    IsOpen limit share plan
    ⊎ (IsRoomy outline node limit share plan ⊎ IsCut outline node limit share plan)

-- the grant of a leaf up to a level, with one octet more if there are spare octets and the leaf has
-- room
pub record IsLeafGrant (want floor : ℕ) (share : LevelShare) (grant rest : ℕ) : Type 0 where
  pub floored : floor ≤ grant
  pub wanted : grant ≤ want
  pub even : (grant < share.level + 2) ⊎ (grant ≡ floor)
  pub unmet : grant < want → share.level ≤ grant
  pub total : grant + rest ≡ min want (max floor share.level) + share.spare
  pub left : rest ≤ share.spare
  pub all : (rest ≡ 0) ⊎ (min want (max floor (share.level + 1)) ≤ grant)

-- the sum of the grants of the leaves before leaf n
abbrev pub upto : List ℕ → ℕ → ℕ
upto g n = sum_below n (λ i. slice_index g i)

-- a full branch that holds leaf i and in which no grant is too great compared with that of i
pub record IsNeck (outline : List Place) (g : List ℕ) (i m most : ℕ) (q : Place) : Type 0 where
  pub got : slice_get outline m ≡ Some q
  pub kind : q.kind ≡ Branch (Some most)
  pub full : upto g (q.first + q.leaves) ≡ upto g q.first + most
  pub low : q.first ≤ i
  pub high : i < q.first + q.leaves
  pub greatest : (j : ℕ) → q.first ≤ j → j < q.first + q.leaves
      → IsNotTooGreat (limits outline) g i j

-- such a branch that ends before a leaf
abbrev pub HasNeck : List Place → List ℕ → ℕ → ℕ → Type 0
HasNeck outline g past i =
    (m : ℕ) × (most : ℕ) × (q : Place) × (q.first + q.leaves ≤ past) × IsNeck outline g i m most q

-- branch m, if it has a limit, ends before a leaf and keeps its limit
abbrev pub KeepsLimit : List Place → List ℕ → ℕ → ℕ → Type 0
KeepsLimit outline g past m =
    (q : Place) (most : ℕ) → slice_get outline m ≡ Some q → q.kind ≡ Branch (Some most)
    → (q.first + q.leaves ≤ past) × (upto g (q.first + q.leaves) ≤ upto g q.first + most)

-- The grants of the leaves from a first one on, below the nodes from one on, up to a level: within
-- the wants, floors and limits; none exceeds the level by two; each unmet leaf is at the level or
-- below a full branch that limits it.
pub record IsFilled (outline : List Place) (g : List ℕ)
    (at last first past level : ℕ) : Type 0 where
  pub wanted : (i : ℕ) → first ≤ i → i < past
      → slice_index g i ≤ slice_index (limits outline).wants i
  pub floored : (i : ℕ) → first ≤ i → i < past
      → slice_index (limits outline).floors i ≤ slice_index g i
  pub even : (i : ℕ) → first ≤ i → i < past
      → (slice_index g i < level + 2) ⊎ (slice_index g i ≡ slice_index (limits outline).floors i)
  pub limited : (m : ℕ) → at ≤ m → m < last → KeepsLimit outline g past m
  pub settled : (i : ℕ) → first ≤ i → i < past
      → slice_index g i < slice_index (limits outline).wants i
      → (level ≤ slice_index g i) ⊎ HasNeck outline g past i

-- The grants of trees side by side during a pass, with the trees and the spare octets that remain:
-- each leaf has what it absorbs up to the level, and one octet more if it has room and spare octets
-- remained.
pub record IsPouring (outline : List Place) (at trees first : ℕ) (share : LevelShare) (old : List ℕ)
    (node more now left : ℕ) (g : List ℕ) : Type 0 where
  pub size : length g ≡ length old
  pub order : first ≤ now
  pub before : (i : ℕ) → i < first → slice_index g i ≡ slice_index old i
  pub filled : IsFilled outline g at node first now share.level
  pub total : upto g now + left + taken_in share.level outline node more
      ≡ upto old first + taken_in share.level outline at trees + share.spare
  pub rest : left ≤ share.spare
  pub all : (left ≡ 0)
      ⊎ (taken_in (share.level + 1) outline at trees + upto old first
      ≤ upto g now + taken_in (share.level + 1) outline node more)

-- of two leaves the one with the higher number has no more than the other, or has its floor, or a
-- full branch that ends before it holds the other
abbrev pub IsAhead : List Place → List ℕ → ℕ → ℕ → Type 0
IsAhead outline g i j = (slice_index g j ≤ slice_index g i)
    ⊎ ((slice_index g j ≤ slice_index (limits outline).floors j) ⊎ HasNeck outline g j i)

-- each unmet leaf from a first one on is ahead of the later leaves beside it
abbrev pub AreAhead : List Place → List ℕ → ℕ → ℕ → Type 0
AreAhead outline g first past = (i j : ℕ) → first ≤ i → i < j → j < past
    → AreBeside (limits outline) i j
    → slice_index g i < slice_index (limits outline).wants i → IsAhead outline g i j
