-- If each user is limited to its total, backed grants are backed among users in the tree itself.
use Rattle.std.proofs.Common.{◌≡◌, ◌∙◌, ℕ, ◌<◌, ◌≤◌, List, length, ap, subst, Option}
use Rattle.std.specs.Prelude.{slice_index}
use Rattle.limit_tree.specs.Sharing.{LimitTree, HasNestedBranches, IsWanted}
use Rattle.limit_tree.specs.Laws.{LaterIsInside}
use Rattle.grant_certificate.specs.Users.{HasUsers}
use Rattle.grant_certificate.specs.TwoStages.{AreDeepestEntries}
use Rattle.grant_certificate.proofs.UserInside.{by-users-best}
use Rattle.grant_certificate.proofs.TwoStage.{two-stages}
use Rattle.grant_certificate.proofs.Deepest.{deepest-backed}
use Rattle.user_shares.specs.Stages.{AreOuterTotals, AreTightGrants, HaveHeads, IsShared}

pub tight-shared : (t : LimitTree) (users : ℕ) (owners totals g : List ℕ) (c : List (Option ℕ)) → HasNestedBranches t → LaterIsInside t → HasUsers t users owners → HaveHeads users owners → AreOuterTotals t users owners totals → AreTightGrants t users owners totals g → length c ≡ length t.wants → AreDeepestEntries t g c → IsShared t users owners g c
tight-shared t users owners totals g c tree later has heads outer tight leaves deepest =
    let found = two-stages t users owners totals g tree has (λ u less. let h = heads u less in (h.0, h.1)) (record {
      outer = outer.outer;
      tight = tight.tight;
      outer_entries = outer.entries;
      tight_entries = tight.entries;
      is_outer = outer.is_outer;
      is_tight = tight.is_tight;
      later = tight.later;
      outer_within = outer.within;
      outer_backed = outer.backed;
      tight_within = tight.within;
      tight_backed = tight.backed;
      deepest = tight.deepest;
    }) in
    let backed = deepest-backed t users owners g found.certificate c later has found.within.wanted.leaves found.backed leaves deepest in
    record { within = found.within; backed = backed; best = by-users-best t users owners g c tree has found.within backed }

-- the leaves want what they want in the tree itself
pub tight-wanted : (t : LimitTree) (users : ℕ) (owners totals g : List ℕ) → AreTightGrants t users owners totals g → IsWanted t g
tight-wanted t users owners totals g tight =
    let wanted = tight.within.wanted in
    let same = tight.is_tight.wants in
    record {
      leaves = wanted.leaves ∙ ap (λ (xs : List ℕ). length xs) same;
      wants = λ i l. subst (λ (ws : List ℕ). slice_index g i ≤ slice_index ws i) same (wanted.wants i l);
    }
