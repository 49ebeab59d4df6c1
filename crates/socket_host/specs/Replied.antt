-- The octets that a client was sent of a reply that could not be written whole.
use Rattle.std.specs.Prelude.{ℕ, ◌≡◌, ◌+◌, ◌-◌, ◌^◌, List, ◌++◌, Bool, cond, min, nat_lt, Option}
use Rattle.std.specs.Io.KnownBytes.{Appends}

-- known contents grow by a part of the octets, from their front
abbrev pub AppendsPart : Option (List ℕ) → Option (List ℕ) → List ℕ → Type 0
AppendsPart old new octets =
    (part rest : List ℕ) × (octets ≡ part ++ rest) × Appends old new part

-- the number of waits of a reply once the server ends, after one more wait
abbrev pub waits_after : ℕ → Bool → ℕ
waits_after late is_ending = cond is_ending (min (late + 1) (2 ^ 32 - 1)) late

-- no more of the two waits that a whole reply has then is left
abbrev pub has_no_wait : ℕ → Bool
has_no_wait late = nat_lt 1 late
