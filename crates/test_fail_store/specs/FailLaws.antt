-- Proofs, not definitions to be believed: a store that fails once keeps the laws of the trait
-- `Store`. They are here since the toolchain wants the proof of a trait's law among the
-- definitions.
use Rattle.std.proofs.Common.{ℕ, ◌≡◌, ◌≢◌, ◌<◌, ◌+◌, ◌-◌, ◌%◌, ◌^◌, Option, Some, None, inl, inr, sym, ap, subst, ◌∙◌, arith}
use Rattle.virtual_tree.specs.declared.fault.StoreFault.{StoreFault}
use Rattle.virtual_tree.specs.declared.fault.StoreFault.TheVariants.{Device, Full}
use Rattle.virtual_tree.specs.Calls.{Exchange, refusal, PassesCapacity}
use Rattle.test_fail_store.specs.declared.fail.FailStore.{FailStore}
use Rattle.test_fail_store.specs.Failing.{Passes, FailStep, fail_count}

both_wrap : (a b : ℕ) → a < 2 ^ 64 → b < 2 ^ 64 → (a + 1) % 2 ^ 64 ≡ (b + 1) % 2 ^ 64 → a ≡ b
both_wrap a b small less same = omega arith

one_wraps : (a : ℕ) → a < 2 ^ 64 → (a + 1) % 2 ^ 64 ≡ a → ⊥
one_wraps a small same = omega arith

wrapped : (a : ℕ) → (a + 1) % 2 ^ 64 < 2 ^ 64
wrapped a = omega arith

passed_counts : (before after : ℕ) (left next : Option ℕ) → before < 2 ^ 64 → after < 2 ^ 64
    → Passes left next → after ≢ before → fail_count after next ≢ fail_count before left
passed_counts before after None None small less is other same =
    other (both_wrap after before less small same)
passed_counts before after None (Some next) small less is other same = nothing_some next is
  where
    nothing_some : (next : ℕ) → Some next ≡ None → ⊥
    nothing_some next e = cc
passed_counts before after (Some left) None small less is other same = nothing_some (left - 1) is.1
  where
    nothing_some : (next : ℕ) → None ≡ Some next → ⊥
    nothing_some next e = cc
passed_counts before after (Some left) (Some next) small less is other same = other same

failed_counts : (count : ℕ) (left next : Option ℕ) → count < 2 ^ 64 → left ≡ Some 0 → next ≡ None
    → fail_count count next ≢ fail_count count left
failed_counts count left next small is none same =
    one_wraps count small (ap (fail_count count) (sym none) ∙ same ∙ ap (fail_count count) is)

pub fails_honestly : {S R K : Type 0} (Step : S → Exchange R K → S → Type 0) (count : S → ℕ)
    → ((old new : S) (exchange : Exchange R K) → Step old exchange new
    → refusal exchange ≡ Some Device → count new ≢ count old)
    → ((store : S) → count store < 2 ^ 64)
    → (old new : FailStore S) (exchange : Exchange R K) → FailStep Step old exchange new
    → refusal exchange ≡ Some Device
    → fail_count (count new.store) new.left ≢ fail_count (count old.store) old.left
fails_honestly Step count honest small old new exchange (inl passed) is =
    passed_counts (count old.store) (count new.store) old.left new.left (small old.store)
    (small new.store) passed.0 (honest old.store new.store exchange passed.1 is)
fails_honestly Step count honest small old new exchange (inr failed) is =
    subst (λ after. fail_count after new.left ≢ fail_count (count old.store) old.left)
    (ap count (sym failed.2))
    (failed_counts (count old.store) old.left new.left (small old.store) failed.0 failed.1)

device_or_full : (found : Option StoreFault) → found ≡ Some Device → found ≡ Some Full → ⊥
device_or_full found one other = let both : Some Device ≡ Some Full = sym one ∙ other in cc

pub fails_within : {S R K : Type 0} (Step : S → Exchange R K → S → Type 0) (capacity : S → Option ℕ)
    (would_hold : S → K → ℕ → ℕ)
    → ((old new : S) (exchange : Exchange R K) → Step old exchange new
    → refusal exchange ≡ Some Full → PassesCapacity (capacity old) (would_hold old) exchange)
    → (old new : FailStore S) (exchange : Exchange R K) → FailStep Step old exchange new
    → refusal exchange ≡ Some Full
    → PassesCapacity (capacity old.store) (would_hold old.store) exchange
fails_within Step capacity would_hold fits old new exchange (inl passed) is =
    fits old.store new.store exchange passed.1 is
fails_within Step capacity would_hold fits old new exchange (inr failed) is =
    absurd (device_or_full (refusal exchange) failed.3 is)

count_by : (count : ℕ) (left : Option ℕ) → count < 2 ^ 64 → fail_count count left < 2 ^ 64
count_by count None small = wrapped count
count_by count (Some left) small = small

pub fails_count : {S : Type 0} (count : S → ℕ) → ((store : S) → count store < 2 ^ 64)
    → (fail : FailStore S) → fail_count (count fail.store) fail.left < 2 ^ 64
fails_count count small fail = count_by (count fail.store) fail.left (small fail.store)
