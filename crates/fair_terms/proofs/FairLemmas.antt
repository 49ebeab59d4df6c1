-- Sealed grants of the tree of a tick are fair.
use Rattle.std.proofs.Common.{ℕ, List, Option, Some, None, subst}
use Rattle.limit_tree.specs.Sharing.{LimitTree}
use Rattle.line_rates.specs.declared.ask.Ask.{Ask}
use Rattle.line_rates.specs.declared.share_by.ShareBy.{ShareBy}
use Rattle.line_rates.specs.declared.share_by.ShareBy.TheVariants as share
use Rattle.line_rates.specs.Rates.{Rates}
use Rattle.line_rates.specs.TickTree.{IsTickTree}
use Rattle.grant_certificate.specs.Sealing.{IsBackedFor, IsBestFor}
use Rattle.fair_terms.specs.Fair.{IsFair, IsBackedFair, AreSealedOwners}
use Rattle.fair_terms.proofs.OwnerLemmas.{has_users}

pub sealed_fair : (rates : Rates) (tick : ℕ) (by : ShareBy) (asks : List Ask) (t : LimitTree) (owners : Option (List ℕ)) (g : List ℕ) → IsTickTree rates tick asks t → AreSealedOwners by asks owners → IsBestFor owners t g → IsFair by asks t g × ((c : List (Option ℕ)) → IsBackedFor owners t g c → IsBackedFair by asks t g c)
sealed_fair rates tick share.Sessions asks t owners g tree own best = (
  subst (λ (os : Option (List ℕ)). IsBestFor os t g) own best,
  λ c backed. subst (λ (os : Option (List ℕ)). IsBackedFor os t g c) own backed,
)
sealed_fair rates tick share.Users asks t None g tree own best = absurd own
sealed_fair rates tick share.Users asks t (Some owners) g tree own best = (
  (own.0, owners, own.1, best.1 own.0 (has_users rates tick asks t own.0 owners tree own.1)),
  λ c backed. (own.0, owners, own.1, backed),
)
