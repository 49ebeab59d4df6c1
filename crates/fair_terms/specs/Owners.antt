-- The users of the leaves of the tree of a tick.
use Rattle.std.specs.Prelude.{◌≡◌, ℕ, ◌<◌, ◌↔◌, List, length, slice_get, slice_index, Some, IsTrue}
use Rattle.limit_tree.specs.Sharing.{LimitTree}
use Rattle.line_rates.specs.declared.ask.Ask.{Ask}
use Rattle.line_rates.specs.Rates.{Rates}
use Rattle.line_rates.specs.TickTree.{IsTickTree}
use Rattle.grant_certificate.specs.Users.{leaves_of, HasUsers}

-- The number of a user for each ask. A user has a share in each way: two asks have the same number
-- exactly if they have the same way and user; and each number below `users` is that of an ask.
pub record AreOwners (asks : List Ask) (users : ℕ) (owners : List ℕ) : Type 0 where
  pub each : length owners ≡ length asks
  pub few : (i : ℕ) → i < length owners → slice_index owners i < users
  pub some : (user : ℕ) → user < users → (i : ℕ) × IsTrue (leaves_of owners user i)
  pub same : (i j : ℕ) (a b : Ask) → slice_get asks i ≡ Some a → slice_get asks j ≡ Some b
      → (slice_index owners i ≡ slice_index owners j) ↔ ((a.way ≡ b.way) × (a.user ≡ b.user))

-- In the tree of a tick, each branch lies within the leaves of a user in a way, around them, or
-- apart from them.
abbrev pub TickTreeHasUsers : Type 0
TickTreeHasUsers =
    (rates : Rates) (tick : ℕ) (asks : List Ask) (t : LimitTree) (users : ℕ) (owners : List ℕ)
    → IsTickTree rates tick asks t → AreOwners asks users owners → HasUsers t users owners
