-- Leaves with a bottleneck within their user or among users, by the nodes of a tree.
use Rattle.std.specs.Prelude.{◌≡◌, ℕ, ◌+◌, ◌<◌, ◌≤◌, ◌⊎◌, ◌↔◌, List, Bool, Option, Some, length, slice_get}
use Rattle.limit_tree.specs.Outline.{IsFullPlace}
use Rattle.limit_tree.specs.declared.place.Place.{Place}
use Rattle.grant_certificate.specs.Ranges.{IsMarked}
use Rattle.grant_certificate.specs.UserRanges.{IsInnerRange, IsOuterRange}

-- The entry of leaf i is `number`, and the range holds the leaf back.
pub record IsNeckWithin (number first leaves : ℕ) (owners g floors : List ℕ)
    (c : List (Option ℕ)) (i : ℕ) : Type 0 where
  pub inside : i < length owners
  pub named : slice_get c i ≡ Some (Some number)
  pub back : IsInnerRange owners g floors first leaves i
      ⊎ IsOuterRange owners g floors first leaves i

-- The entry of leaf i is the number of a full branch among the nodes, which holds the leaf back.
pub record IsNeckIn (outline : List Place) (owners g floors : List ℕ) (c : List (Option ℕ))
    (i : ℕ) : Type 0 where
  pub node : ℕ
  pub place : Place
  pub found : slice_get outline node ≡ Some place
  pub bounded : place.first + place.leaves ≤ length g
  pub full : IsFullPlace place g
  pub neck : IsNeckWithin node place.first place.leaves owners g floors c i

-- these leaves are marked, and no others
abbrev pub AreNecks : List Place → List ℕ → List ℕ → List ℕ → List (Option ℕ) → List Bool
    → Type 0
AreNecks outline owners g floors c marks =
    (i : ℕ) → IsMarked marks i ↔ IsNeckIn outline owners g floors c i
