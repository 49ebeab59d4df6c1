-- The shares of the leaves of the tree of a tick, and the places of asks.
use Rattle.std.specs.Prelude.{◌≡◌, ℕ, List, length, slice_get, Some}
use Rattle.limit_tree.specs.Sharing.{LimitTree}
use Rattle.fair_terms.specs.Fair.{IsFair}
use Rattle.line_rates.specs.declared.ask.Ask.{Ask}
use Rattle.line_rates.specs.Names.{floor_of}
use Rattle.line_rates.specs.Rates.{Rates}
use Rattle.line_rates.specs.TickTree.{Asker}
use Rattle.round_tally.specs.Held.{IsHeldBy}
use Rattle.ask_shares.specs.declared.share.AskShare.{AskShare}

abbrev pub share_place : AskShare → ℕ
share_place s = s.place

-- the ask of this place
abbrev pub IsAskAt : List Ask → ℕ → Asker → Type 0
IsAskAt asks i a = (a.0 ≡ i) × (slice_get asks i ≡ Some a.1)

-- each ask with its place
pub record AreNumbered (asks : List Ask) (numbered : List Asker) : Type 0 where
  pub count : length numbered ≡ length asks
  pub each : (i : ℕ) (a : Asker) → slice_get numbered i ≡ Some a → IsAskAt asks i a

-- the share of a leaf
pub record IsLeafShare (rates : Rates) (tick : ℕ) (asks : List Ask) (lanes : List ℕ)
    (t : LimitTree) (g : List ℕ) (i : ℕ) (s : AskShare) : Type 0 where
  pub place : slice_get lanes i ≡ Some s.place
  pub ask : slice_get asks i ≡ Some s.ask
  pub floor : s.floor ≡ floor_of rates s.ask
  pub grant : slice_get g i ≡ Some s.grant
  pub held : IsHeldBy rates tick asks t g i s.held

-- one share for each leaf, in their order
pub record AreLeafShares (rates : Rates) (tick : ℕ) (asks : List Ask) (lanes : List ℕ)
    (t : LimitTree) (g : List ℕ) (shares : List AskShare) : Type 0 where
  pub count : length shares ≡ length asks
  pub each : (i : ℕ) (s : AskShare) → slice_get shares i ≡ Some s
      → IsLeafShare rates tick asks lanes t g i s

-- shares of fair grants
pub record AreBestLeaves (rates : Rates) (tick : ℕ) (asks : List Ask) (lanes : List ℕ)
    (t : LimitTree) (shares : List AskShare) : Type 0 where
  pub grants : List ℕ
  pub count : length asks ≡ length grants
  pub best : IsFair rates.share_by asks t grants
  pub are : AreLeafShares rates tick asks lanes t grants shares
