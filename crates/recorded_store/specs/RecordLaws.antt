-- Proofs, not definitions to be believed: a store that records keeps the laws of the trait `Store`.
-- They are here since the toolchain wants the proof of a trait's law among the definitions.
use Rattle.std.proofs.Common.{ℕ, ◌≡◌, ◌≢◌, ◌<◌, ◌^◌, Option, Some}
use Rattle.virtual_tree.specs.declared.fault.StoreFault.TheVariants.{Device, Full}
use Rattle.virtual_tree.specs.Calls.{Exchange, refusal, PassesCapacity}
use Rattle.recorded_store.specs.declared.recorded.RecordedStore.{RecordedStore}
use Rattle.recorded_store.specs.Records.{RecordedStep}

pub records_honestly : {A S R K : Type 0} (Step : S → Exchange R K → S → Type 0) (count : S → ℕ)
    → ((old new : S) (exchange : Exchange R K) → Step old exchange new
    → refusal exchange ≡ Some Device → count new ≢ count old)
    → (old new : RecordedStore S A) (exchange : Exchange R K) → RecordedStep Step old exchange new
    → refusal exchange ≡ Some Device → count new.store ≢ count old.store
records_honestly Step count honest old new exchange step is =
    honest old.store new.store exchange step.0 is

pub records_within : {A S R K : Type 0} (Step : S → Exchange R K → S → Type 0)
    (capacity : S → Option ℕ) (would_hold : S → K → ℕ → ℕ)
    → ((old new : S) (exchange : Exchange R K) → Step old exchange new
    → refusal exchange ≡ Some Full → PassesCapacity (capacity old) (would_hold old) exchange)
    → (old new : RecordedStore S A) (exchange : Exchange R K) → RecordedStep Step old exchange new
    → refusal exchange ≡ Some Full
    → PassesCapacity (capacity old.store) (would_hold old.store) exchange
records_within Step capacity would_hold fits old new exchange step is =
    fits old.store new.store exchange step.0 is

pub records_count : {A S : Type 0} (count : S → ℕ) → ((store : S) → count store < 2 ^ 64)
    → (recorded : RecordedStore S A) → count recorded.store < 2 ^ 64
records_count count small recorded = small recorded.store
