-- Calls of a store that are not refused.
use Rattle.std.proofs.Common.{◌≡◌, ℕ, Some, None, refl}
use Rattle.virtual_tree.specs.declared.fault.StoreFault.{StoreFault}
use Rattle.virtual_tree.specs.declared.fault.StoreFault.TheVariants.{Device, Full}
use Rattle.folder_store.specs.Honest.{IsHonest}

no_fault : (fault : StoreFault) → None ≡ Some fault → ⊥
no_fault fault e = cc

pub honest_ok : (count : ℕ) → IsHonest count count None
honest_ok count = record { device = λ e same. no_fault Device e; others = λ other. refl; never_full = λ e. no_fault Full e }
