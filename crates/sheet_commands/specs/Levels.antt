-- The height of columns of one colour.
use Rattle.std.specs.Prelude.{◌≡◌, ℕ, ◌<◌, List, Option, Some, length, slice_get, slice_index}
use Rattle.limit_tree.specs.Sharing.{LimitTree, IsBackedBy, IsNotTooGreat}
use Rattle.grant_certificate.specs.Users.{IsBackedByUsers}
use Rattle.round_allocator.specs.Rounds.{IsNamed}

-- Of two wants that one limit holds back, none gets two octets more than the other, unless it gets
-- just its floor.
abbrev pub OneLimitIsLevel : Type 0
OneLimitIsLevel =
    (t : LimitTree) (g : List ℕ) (c : List (Option ℕ)) → IsNamed t g c → IsBackedBy t g c
    → (i j k : ℕ) → i < length g → j < length g → slice_get c i ≡ Some (Some k)
    → slice_get c j ≡ Some (Some k) → IsNotTooGreat t g i j

-- Among users, of two wants of one user that one limit holds back, none gets two octets more than
-- the other, unless it gets just its floor.
abbrev pub OneLimitIsLevelForAUser : Type 0
OneLimitIsLevelForAUser =
    (t : LimitTree) (owners g : List ℕ) (c : List (Option ℕ)) → IsNamed t g c
    → IsBackedByUsers t owners g c → (i j k : ℕ) → i < length g → j < length g
    → j < length owners → slice_index owners j ≡ slice_index owners i
    → slice_get c i ≡ Some (Some k) → slice_get c j ≡ Some (Some k) → IsNotTooGreat t g i j
