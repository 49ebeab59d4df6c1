-- Fair grants for the asks of a tick, as the line is shared: among its sessions or its users.
use Rattle.std.specs.Prelude.{◌≡◌, ◌⊎◌, ℕ, List, Option, Some, None}
use Rattle.limit_tree.specs.Sharing.{Branch, LimitTree, IsWithin, IsBackedBy, IsBest, IsBottleneck}
use Rattle.line_rates.specs.declared.ask.Ask.{Ask}
use Rattle.line_rates.specs.declared.share_by.ShareBy.{ShareBy}
use Rattle.line_rates.specs.declared.share_by.ShareBy.TheVariants as share
use Rattle.line_rates.specs.Rates.{Rates}
use Rattle.line_rates.specs.TickTree.{IsTickTree}
use Rattle.grant_certificate.specs.Sealing.{IsBackedFor, IsBestFor}
use Rattle.grant_certificate.specs.Users.{IsBackedByUsers, IsBestByUsers, IsInnerNeck, IsOuterNeck}
use Rattle.fair_terms.specs.Owners.{AreOwners}

-- Among sessions, the grants are best. Among users they are best by users: no other grants within
-- the limits give the users totals that, sorted upwards, are greater; and then no others that give
-- each user the same total are, sorted upwards, greater.
abbrev pub IsFair : ShareBy → List Ask → LimitTree → List ℕ → Type 0
IsFair share.Sessions asks t g = IsBest t g
IsFair share.Users asks t g =
    (users : ℕ) × (owners : List ℕ) × AreOwners asks users owners × IsBestByUsers t users owners g

-- fair grants are within the limits
abbrev pub fair_within : (by : ShareBy) (asks : List Ask) (t : LimitTree) (g : List ℕ)
    → IsFair by asks t g → IsWithin t g
fair_within share.Sessions asks t g best = best.within
fair_within share.Users asks t g best = best.3.within

-- a certificate of fair grants: an entry is the number of a bottleneck, among users within the
-- leaf's user or among them
abbrev pub IsBackedFair : ShareBy → List Ask → LimitTree → List ℕ → List (Option ℕ) → Type 0
IsBackedFair share.Sessions asks t g c = IsBackedBy t g c
IsBackedFair share.Users asks t g c =
    (users : ℕ) × (owners : List ℕ) × AreOwners asks users owners × IsBackedByUsers t owners g c

-- the branch holds the leaf back
abbrev pub IsFairNeck : ShareBy → List Ask → LimitTree → Branch → List ℕ → ℕ → Type 0
IsFairNeck share.Sessions asks t b g i = IsBottleneck t b g i
IsFairNeck share.Users asks t b g i =
    (users : ℕ) × (owners : List ℕ) × AreOwners asks users owners
    × (IsInnerNeck t owners b g i ⊎ IsOuterNeck t owners b g i)

-- the users with which the grants of these asks are sealed; none among sessions
abbrev pub AreSealedOwners : ShareBy → List Ask → Option (List ℕ) → Type 0
AreSealedOwners share.Sessions asks owners = owners ≡ None
AreSealedOwners share.Users asks None = ⊥
AreSealedOwners share.Users asks (Some owners) = (users : ℕ) × AreOwners asks users owners

-- Sealed grants with these users are fair, and backed by their certificate.
abbrev pub SealedIsFair : Type 0
SealedIsFair =
    (rates : Rates) (tick : ℕ) (by : ShareBy) (asks : List Ask) (t : LimitTree)
    (owners : Option (List ℕ)) (g : List ℕ) → IsTickTree rates tick asks t
    → AreSealedOwners by asks owners → IsBestFor owners t g → IsFair by asks t g
    × ((c : List (Option ℕ)) → IsBackedFor owners t g c → IsBackedFair by asks t g c)
