-- The octet that a silence puts at the front of a buffer.
use Rattle.std.proofs.Common.{◌≡◌, ◌<◌, ℕ, Bool, true, false, List, [], ◌∷◌, length, take, slice_set, refl, arith}
use Rattle.std.specs.Prelude.{if◌then◌else◌}

-- an octet that was written at the front is the front
pub front : (octets : List ℕ) (octet : ℕ) → 0 < length octets → take 1 (slice_set octets 0 octet) ≡ octet ∷ []
front [] octet h = absurd (omega arith)
front (first ∷ others) octet h = refl

-- the first of two texts, if the test is true
pub chosen : (cut : Bool) (octets : List ℕ) → cut ≡ true → octets ≡ (if cut then octets else [])
chosen true octets h = refl
chosen false octets h = absurd (cc)
