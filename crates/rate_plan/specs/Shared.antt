-- Shares of the leaves of the tree of a tick.
use Rattle.std.specs.Prelude.{◌≡◌, ℕ, List, length, map, slice_get, Some}
use Rattle.limit_tree.specs.Sharing.{LimitTree}
use Rattle.fair_terms.specs.Fair.{IsFair}
use Rattle.line_rates.specs.Names.{floor_of}
use Rattle.line_rates.specs.Rates.{Rates}
use Rattle.line_rates.specs.TickTree.{Asker, ask_in}
use Rattle.round_tally.specs.Held.{IsHeldBy}
use Rattle.rate_plan.specs.declared.shares.TransferShare.{TransferShare}

-- the share of a leaf
pub record IsShareOf (rates : Rates) (order : List Asker) (t : LimitTree) (g : List ℕ) (i : ℕ)
    (s : TransferShare) : Type 0 where
  pub asker : slice_get order i ≡ Some (s.lane, s.ask)
  pub floor : s.floor ≡ floor_of rates s.ask
  pub grant : slice_get g i ≡ Some s.grant
  pub held : IsHeldBy rates 0 (map ask_in order) t g i s.held

-- one share for each leaf, in their order
pub record AreTickShares (rates : Rates) (order : List Asker) (t : LimitTree) (g : List ℕ)
    (shares : List TransferShare) : Type 0 where
  pub count : length shares ≡ length order
  pub each : (i : ℕ) (s : TransferShare) → slice_get shares i ≡ Some s
      → IsShareOf rates order t g i s

-- shares of fair grants
pub record AreGrantedShares (rates : Rates) (order : List Asker) (t : LimitTree)
    (shares : List TransferShare) : Type 0 where
  pub grants : List ℕ
  pub count : length order ≡ length grants
  pub best : IsFair rates.share_by (map ask_in order) t grants
  pub are : AreTickShares rates order t grants shares
