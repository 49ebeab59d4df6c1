-- The calls on a file.
use Rattle.std.specs.Prelude.{◌≡◌, ◌⊎◌, ◌+◌, ◌%◌, ◌^◌, ℕ, Result, MatchResult}
use Rattle.counted_file.specs.declared.counted.TheConstants.{MOST_TRIES}

-- number of calls on a file that passed, of those that were interrupted, and of those that failed,
-- each modulo 2^64
pub record FileCalls : Type 0 where
  pub passed : ℕ
  pub interrupted : ℕ
  pub failed : ℕ

abbrev pub no_calls : FileCalls
no_calls = record { passed = 0; interrupted = 0; failed = 0 }

unfoldable pub next : ℕ → ℕ
next count = (count + 1) % 2 ^ 64

-- one more call that passed, was interrupted, or failed
abbrev pub with_passed : FileCalls → FileCalls
with_passed calls = record calls { passed = next calls.passed }

abbrev pub with_interrupted : FileCalls → FileCalls
with_interrupted calls = record calls { interrupted = next calls.interrupted }

abbrev pub with_failed : FileCalls → FileCalls
with_failed calls = record calls { failed = next calls.failed }

-- one call passed, after any number that were interrupted
abbrev pub Passes : FileCalls → FileCalls → Type 0
Passes old new = (new.passed ≡ next old.passed) × (new.failed ≡ old.failed)

-- a count after this number of steps, modulo 2^64
abbrev pub IsRaised : ℕ → ℕ → ℕ → Type 0
IsRaised steps old new = ((steps ≡ 0) × (new ≡ old)) ⊎ (new ≡ (old + steps) % 2 ^ 64)

-- one call failed, after any number that were interrupted; or as many as are made were interrupted
abbrev pub Fails : FileCalls → FileCalls → Type 0
Fails old new = (new.passed ≡ old.passed)
    × ((new.failed ≡ next old.failed) ⊎ ((new.failed ≡ old.failed)
    × IsRaised MOST_TRIES old.interrupted new.interrupted))

abbrev pub IsCounted : {X E : Type 0} → Result X E → FileCalls → FileCalls → Type 0
IsCounted answer old new = MatchResult answer (λ _. Passes old new) (λ _. Fails old new)

-- all octets were written by calls that passed; or the last of the calls failed
abbrev pub ReportsWrite : {X E : Type 0} → Result X E → FileCalls → FileCalls → Type 0
ReportsWrite answer old new = MatchResult answer (λ _. new.failed ≡ old.failed)
    (λ _. (mid : FileCalls) × (mid.failed ≡ old.failed) × Fails mid new)

-- a file, with the calls on it
pub record FileWithCalls (F : Type 0) : Type 0 where
  pub file : F
  pub calls : FileCalls
