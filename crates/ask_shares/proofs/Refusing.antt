-- The faults of trees over asks with their places are those over the asks.
use Rattle.std.proofs.Common.{◌≡◌, List, ℕ, map, subst}
use Rattle.std.specs.Prelude.{IsPermutation}
use Rattle.std.proofs.lemmas.List.Sorted.{IsPermutation-map}
use Rattle.line_rates.specs.FloorSums.{FloorsFit}
use Rattle.line_rates.specs.Rates.{Rates}
use Rattle.limit_tree.specs.declared.fault.TreeFault.{TreeFault}
use Rattle.limit_tree.specs.declared.fault.TreeFault.TheVariants.{TooDeep, TooManyLeaves, WantTooLarge, LimitTooLarge, FloorTooLarge, FloorsOverLimit}
use Rattle.line_rates.specs.Refused.{HasFault, IsNotOfFloors}
use Rattle.line_rates.specs.TickTree.{Asker, ask_in}
use Rattle.line_rates.specs.declared.ask.Ask.{Ask}
use Rattle.line_rates.specs.declared.fault.PlanFault.TheVariants.{Tree as Planned}
use Rattle.ask_shares.specs.Leaves.{AreNumbered}
use Rattle.fair_shares.specs.Faults.{IsFairFault}
use Rattle.fair_shares.specs.declared.fault.FairFault.{FairFault}
use Rattle.fair_shares.specs.declared.fault.FairFault.TheVariants as fair
use Rattle.fair_shares.proofs.LargeUsers.{large_moved}
use Rattle.fair_terms.specs.Wants.{HasLargeUser}
use Rattle.line_rates.specs.declared.share_by.ShareBy.{ShareBy}
use Rattle.ask_shares.specs.Faults.{IsNotOfGuarantees, IsUnshared, unshared_fault}
use Rattle.ask_shares.specs.Shares.{HasTreeFault}
use Rattle.ask_shares.specs.declared.fault.NotShared.{NotShared}
use Rattle.ask_shares.specs.declared.fault.NotShared.TheVariants.{Tree, Unshared, Memory}
use Rattle.ask_shares.proofs.Shared.{mapped_is}

pub numbered_asks : (asks : List Ask) (numbered : List Asker) → AreNumbered asks numbered → map ask_in numbered ≡ asks
numbered_asks asks numbered are = mapped_is ask_in numbered asks are.count (λ i x e. (are.each i x e).1)

pub fault_is : (A : Type 0) (rates : Rates) (tick : ℕ) (asks : List Ask) (numbered : List Asker) (fault : TreeFault) → AreNumbered asks numbered → HasFault A rates tick numbered fault → HasTreeFault A rates tick asks fault
fault_is A rates tick asks numbered fault are has = record {
  order = map ask_in has.order;
  root = has.root;
  all = subst (λ x. IsPermutation x (map ask_in has.order)) (numbered_asks asks numbered are) (IsPermutation-map ask_in numbered has.order has.all);
  tree = has.tree;
  is = has.is;
}

-- and a fault that is not of floors is not of guarantees
pub of_floors : (fault : TreeFault) → IsNotOfFloors (Planned fault) → IsNotOfGuarantees (Tree fault)
of_floors TooDeep is = tt
of_floors TooManyLeaves is = tt
of_floors WantTooLarge is = tt
of_floors LimitTooLarge is = tt
of_floors FloorTooLarge is = tt
of_floors (FloorsOverLimit branch) is = is

-- shares that are not found, by the fault of their grants
pub unshared_is : (by : ShareBy) (asks : List Ask) (e : FairFault) → IsFairFault by asks e → IsUnshared by asks (unshared_fault e)
unshared_is by asks fair.Memory h = tt
unshared_is by asks fair.Unshared h = h

-- the same for the asks in another order
pub unshared_moved : (by : ShareBy) (asks made : List Ask) (numbered order : List Asker) (e : NotShared) → AreNumbered asks numbered → IsPermutation numbered order → made ≡ map ask_in order → IsUnshared by made e → IsUnshared by asks e
unshared_moved by asks made numbered order (Tree fault) are p is h = h
unshared_moved by asks made numbered order Memory are p is h = tt
unshared_moved by asks made numbered order Unshared are p is h =
    subst (λ (xs : List Ask). HasLargeUser by xs) (numbered_asks asks numbered are)
    (large_moved by numbered order p (subst (λ (xs : List Ask). HasLargeUser by xs) is h))
