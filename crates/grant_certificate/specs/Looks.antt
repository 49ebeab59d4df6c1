-- Results of a visitor of a tree's nodes.
use Rattle.std.specs.Prelude.{◌≡◌, ℕ, ◌↔◌, Bool, IsTrue, List, [], ◌∷◌, ◌++◌, length}
use Rattle.limit_tree.specs.Outline.{limits, IsFullPlace}
use Rattle.limit_tree.specs.declared.place.Place.{Place}
use Rattle.grant_certificate.specs.Flaws.{IsFirstOver}
use Rattle.grant_certificate.specs.Ranges.{AreHeld, IsOverPlace}
use Rattle.grant_certificate.specs.declared.over.FindOverLimit.{FindOverLimit}
use Rattle.grant_certificate.specs.declared.backing.BackingLook.{BackingLook}
use Rattle.grant_certificate.specs.declared.branches.BranchLook.{BranchLook}

-- the first branch above its limit, among the nodes seen
pub record SoughtOver (start : FindOverLimit) (seen : List Place)
    (now : FindOverLimit) : Type 0 where
  pub grants : now.grants.now ≡ start.grants.now
  pub found : IsFirstOver (limits seen) start.grants.now now.found

-- a search after one more node, with the information whether the node's leaves have more than its
-- limit
abbrev pub SeesOver : FindOverLimit → ℕ → Bool → FindOverLimit → Type 0
SeesOver was number over now =
    (start : FindOverLimit) (seen : List Place) (place : Place)
    → IsTrue over ↔ IsOverPlace place was.grants.now → length seen ≡ number
    → SoughtOver start seen was → SoughtOver start (seen ++ place ∷ []) now

-- the leaves whose entry is the number of a bottleneck among the nodes seen are marked, and no
-- others
pub record SoughtBacking (start : BackingLook) (seen : List Place)
    (now : BackingLook) : Type 0 where
  pub grants : now.grants.now ≡ start.grants.now
  pub floors : now.floors.now ≡ start.floors.now
  pub entries : now.entries.now ≡ start.entries.now
  pub marked : AreHeld (limits seen) start.grants.now start.floors.now start.entries.now now.marks

-- a search after one more node, with the information whether the node is a full branch
abbrev pub SeesBacking : BackingLook → ℕ → Place → Bool → BackingLook → Type 0
SeesBacking was number place full now =
    (start : BackingLook) (seen : List Place) → IsTrue full ↔ IsFullPlace place was.grants.now
    → length seen ≡ number
    → SoughtBacking start seen was → SoughtBacking start (seen ++ place ∷ []) now

-- both searches
pub record SoughtBranches (start : BranchLook) (seen : List Place) (now : BranchLook) : Type 0 where
  pub over : SoughtOver start.over seen now.over
  pub backing : SoughtBacking start.backing seen now.backing
