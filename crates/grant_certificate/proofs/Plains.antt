-- The laws of backed grants, where there are no floors.
use Rattle.std.proofs.Common.{ℕ, ◌≤◌, List, Option, sum_by, min}
use Rattle.limit_tree.specs.Sharing.{LimitTree, HasNestedBranches}
use Rattle.limit_tree.specs.Plain.{HasNoFloors, IsPlainWithin, IsPlainBackedBy, IsPlainBest}
use Rattle.limit_tree.proofs.Plains.{within-plain, best-plain, backed-plain}
use Rattle.grant_certificate.proofs.Levels.{backed-largest}
use Rattle.grant_certificate.proofs.Order.{backed-best}

pub plain_backed-largest : (t : LimitTree) (g : List ℕ) (c : List (Option ℕ)) → HasNoFloors t → HasNestedBranches t → IsPlainWithin t g → IsPlainBackedBy t g c → (h : List ℕ) (level : ℕ) → IsPlainWithin t h → sum_by (λ x. min x level) h ≤ sum_by (λ x. min x level) g
plain_backed-largest t g c none tree within backed h level within_h =
    backed-largest t g c tree ((within-plain t g none).1 within) ((backed-plain t g c none).1 backed) h level ((within-plain t h none).1 within_h)

pub plain_backed-best : (t : LimitTree) (g : List ℕ) (c : List (Option ℕ)) → HasNoFloors t → HasNestedBranches t → IsPlainWithin t g → IsPlainBackedBy t g c → IsPlainBest t g
plain_backed-best t g c none tree within backed =
    (best-plain t g none).0 (backed-best t g c tree ((within-plain t g none).1 within) ((backed-plain t g c none).1 backed))
