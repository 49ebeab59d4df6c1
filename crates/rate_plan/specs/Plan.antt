-- The shares of transfers in a second.
use Rattle.std.specs.Prelude.{◌≡◌, ◌<◌, ◌≤◌, ℕ, List, length, map, slice_get, Some, IsPermutation}
use Rattle.std.specs.List.Sorted.{IsNonDecreasingBy}
use Rattle.limit_tree.specs.Sharing.{LimitTree}
use Rattle.fair_terms.specs.Fair.{IsFair}
use Rattle.line_rates.specs.declared.ask.Ask.{Ask}
use Rattle.line_rates.specs.TickTree.{Asker}
use Rattle.line_rates.specs.Rates.{Rates}
use Rattle.rate_plan.specs.Admission.{AreAdmitted}
use Rattle.rate_plan.specs.Asked.{AreAsked}
use Rattle.rate_plan.specs.Held.{IsHeld}
use Rattle.rate_plan.specs.Refused.{AreSmallForAll}
use Rattle.rate_plan.specs.Second.{IsSecondTree}
use Rattle.rate_plan.specs.declared.asks.Transfer.{Transfer}
use Rattle.rate_plan.specs.declared.plan.TheConstants.{MAX_EXACT}
use Rattle.rate_plan.specs.declared.shares.TransferShare.{TransferShare}

abbrev pub share_asker : TransferShare → Asker
share_asker s = (s.lane, s.ask)

abbrev pub share_ask : TransferShare → Ask
share_ask s = s.ask

abbrev pub share_floor : TransferShare → ℕ
share_floor s = s.floor

abbrev pub share_grant : TransferShare → ℕ
share_grant s = s.grant

abbrev pub share_lane : TransferShare → ℕ
share_lane s = s.lane

-- Shares in the order of the leaves of the tree of a second: fair grants, the floors of the leaves,
-- and for each leaf with less than it wants the name of a bottleneck.
pub record AreLeafShares (rates : Rates) (leaves : List TransferShare) : Type 0 where
  pub tree : LimitTree
  pub second : IsSecondTree rates (map share_ask leaves) tree
  pub floors : tree.floors ≡ map share_floor leaves
  pub best : IsFair rates.share_by (map share_ask leaves) tree (map share_grant leaves)
  pub held : (i : ℕ) (s : TransferShare) → slice_get leaves i ≡ Some s
      → IsHeld rates (map share_ask leaves) tree (map share_grant leaves) i s.held

-- The shares of transfers in a second, in the order of the transfers.
pub record AreShares (rates : Rates) (transfers : List Transfer)
    (shares : List TransferShare) : Type 0 where
  pub asks : List Asker
  pub leaves : List TransferShare
  pub asked : AreAsked rates.share_by transfers asks
  pub all : IsPermutation asks (map share_asker leaves)
  pub shared : AreLeafShares rates leaves
  pub same : IsPermutation leaves shares
  pub in_order : IsNonDecreasingBy share_lane shares

-- A plan of transfers: they are at most as many as sessions and lanes, their guarantees are
-- admitted, and no rate above `MAX_PLANNED` could limit them.
pub record IsPlanned (rates : Rates) (sessions lanes : ℕ) (ts : List Transfer)
    (rows : List TransferShare) : Type 0 where
  pub few_sessions : length ts ≤ sessions
  pub few_lanes : length ts ≤ lanes
  pub admitted : AreAdmitted rates ts
  pub exact : MAX_EXACT < length ts → AreSmallForAll rates ts
  pub shares : AreShares rates ts rows
