-- The effect of a call on a store that fails once.
use Rattle.std.specs.Prelude.{ℕ, ◌≡◌, ◌⊎◌, ◌<◌, ◌+◌, ◌-◌, ◌%◌, ◌^◌, Option, Some, None}
use Rattle.virtual_tree.specs.declared.fault.StoreFault.TheVariants.{Device}
use Rattle.virtual_tree.specs.Calls.{Exchange, refusal}
use Rattle.test_fail_store.specs.declared.fail.FailStore.{FailStore}

-- one call fewer passes before one fails; once one has failed, none will
abbrev pub Passes : Option ℕ → Option ℕ → Type 0
Passes None after = after ≡ None
Passes (Some left) after = (0 < left) × (after ≡ Some (left - 1))

-- the call passes, and is a step of the store beneath; or it is the one that fails, and the store
-- beneath is not called
abbrev pub FailStep : {S R K : Type 0} → (S → Exchange R K → S → Type 0) → FailStore S
    → Exchange R K → FailStore S → Type 0
FailStep Step old exchange new = (Passes old.left new.left × Step old.store exchange new.store)
    ⊎ ((old.left ≡ Some 0) × (new.left ≡ None) × (new.store ≡ old.store)
    × (refusal exchange ≡ Some Device))

-- the faults of the store beneath, plus its own once it has failed
abbrev pub fail_count : ℕ → Option ℕ → ℕ
fail_count count None = (count + 1) % 2 ^ 64
fail_count count (Some left) = count
