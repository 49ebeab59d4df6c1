-- Claims about calls that may lack memory. Each takes the fault that reports lack of memory.
use Rattle.std.specs.Prelude.{◌≡◌, ◌≢◌, Result, Ok, Err, MatchResult}

-- the claim holds for a fault, unless memory ran out
abbrev pub Unless : {E : Type 0} → E → (E → Type 0) → E → Type 0
Unless memory Claim = λ fault. fault ≢ memory → Claim fault

-- the result is as defined, unless memory ran out
abbrev pub AsDefined : {X E : Type 0} → E → Result X E → Result X E → Type 0
AsDefined memory answer defined =
    MatchResult answer (λ value. defined ≡ Ok value) (Unless memory (λ fault. defined ≡ Err fault))

-- The result of a call and the state after it are as defined, unless memory ran out; a refusal
-- leaves the state as it was.
abbrev pub LeavesDefined : {X V E : Type 0} → E → V → Result X E → V → Result V E → Type 0
LeavesDefined memory old answer new defined =
    MatchResult answer (λ _. defined ≡ Ok new)
    (λ fault. (new ≡ old) × Unless memory (λ why. defined ≡ Err why) fault)
