-- Faults of plans.
use Rattle.std.specs.Prelude.{◌≡◌, ℕ, List, map, Some, IsPermutation, ⊤}
use Rattle.limit_tree.specs.Outline.{limits, places}
use Rattle.limit_tree.specs.Faults.{tree_fault}
use Rattle.limit_tree.specs.declared.fault.TreeFault.{TreeFault}
use Rattle.limit_tree.specs.declared.fault.TreeFault.TheVariants.{FloorsOverLimit}
use Rattle.limit_tree.specs.declared.node.Node.{Node}
use Rattle.line_rates.specs.declared.fault.PlanFault.{PlanFault}
use Rattle.line_rates.specs.declared.fault.PlanFault.TheVariants.{Tree, Memory}
use Rattle.line_rates.specs.Rates.{Rates}
use Rattle.line_rates.specs.TickTree.{Asker, ask_in, IsTickTree}

-- the tree of the tick over the asks, in some order, has the fault
pub record HasFault (A : Type 0) (rates : Rates) (tick : ℕ) (asks : List Asker)
    (fault : TreeFault) : Type 0 where
  pub order : List Asker
  pub root : Node A
  pub all : IsPermutation asks order
  pub tree : IsTickTree rates tick (map ask_in order) (limits (places root))
  pub is : tree_fault (places root) ≡ Some fault

abbrev pub IsFaultOf : (A : Type 0) → Rates → ℕ → List Asker → PlanFault → Type 0
IsFaultOf A rates tick asks (Tree fault) = HasFault A rates tick asks fault
IsFaultOf A rates tick asks Memory = ⊤

-- the fault is not that of floors above a limit
abbrev pub IsNotOfFloors : PlanFault → Type 0
IsNotOfFloors (Tree (FloorsOverLimit branch)) = ⊥
IsNotOfFloors fault = ⊤
