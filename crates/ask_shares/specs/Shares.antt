-- The shares of asks in a tick.
use Rattle.std.specs.Prelude.{◌≡◌, ◌≤◌, ℕ, List, map, slice_get, Some, IsPermutation}
use Rattle.limit_tree.specs.Faults.{tree_fault}
use Rattle.limit_tree.specs.Outline.{limits, places}
use Rattle.limit_tree.specs.Sharing.{LimitTree}
use Rattle.fair_terms.specs.Fair.{IsFair}
use Rattle.limit_tree.specs.declared.fault.TreeFault.{TreeFault}
use Rattle.limit_tree.specs.declared.node.Node.{Node}
use Rattle.line_rates.specs.Granted.{Granted, granted_under}
use Rattle.line_rates.specs.Rates.{Rates, rate_of}
use Rattle.line_rates.specs.TickTree.{IsTickTree}
use Rattle.line_rates.specs.Ticks.{rate_limit}
use Rattle.line_rates.specs.declared.ask.Ask.{Ask}
use Rattle.line_rates.specs.declared.ask.Name.{Name}
use Rattle.round_tally.specs.Held.{IsHeldBy}
use Rattle.ask_shares.specs.declared.share.AskShare.{AskShare}

abbrev pub share_ask : AskShare → Ask
share_ask s = s.ask

abbrev pub share_floor : AskShare → ℕ
share_floor s = s.floor

abbrev pub share_grant : AskShare → ℕ
share_grant s = s.grant

-- Shares in the order of the leaves of the tree of the tick: fair grants, the floors of the leaves,
-- and for each leaf with less than it wants the name of a bottleneck.
pub record AreTreeShares (rates : Rates) (tick : ℕ) (leaves : List AskShare) : Type 0 where
  pub tree : LimitTree
  pub of_tick : IsTickTree rates tick (map share_ask leaves) tree
  pub floors : tree.floors ≡ map share_floor leaves
  pub best : IsFair rates.share_by (map share_ask leaves) tree (map share_grant leaves)
  pub held : (i : ℕ) (s : AskShare) → slice_get leaves i ≡ Some s
      → IsHeldBy rates tick (map share_ask leaves) tree (map share_grant leaves) i s.held

-- One share for each ask, in the order of the asks; in some order they are those of the leaves of
-- the tree of the tick.
pub record AreAskShares (rates : Rates) (tick : ℕ) (asks : List Ask)
    (shares : List AskShare) : Type 0 where
  pub asked : map share_ask shares ≡ asks
  pub places : (i : ℕ) (s : AskShare) → slice_get shares i ≡ Some s → s.place ≡ i
  pub leaves : List AskShare
  pub same : IsPermutation leaves shares
  pub shared : AreTreeShares rates tick leaves

abbrev pub share_granted : AskShare → Granted
share_granted s = record { ask = s.ask; octets = s.grant }

-- the sum of the grants under a name is at most its limit in the tick
abbrev pub KeepNames : Rates → ℕ → List AskShare → Type 0
KeepNames rates tick shares =
    (n : Name) (most : ℕ) → rate_limit (rate_of rates n) tick ≡ Some most
    → granted_under rates n (map share_granted shares) ≤ most

-- the tree of the tick over the asks, in some order, has the fault
pub record HasTreeFault (A : Type 0) (rates : Rates) (tick : ℕ) (asks : List Ask)
    (fault : TreeFault) : Type 0 where
  pub order : List Ask
  pub root : Node A
  pub all : IsPermutation asks order
  pub tree : IsTickTree rates tick order (limits (places root))
  pub is : tree_fault (places root) ≡ Some fault
