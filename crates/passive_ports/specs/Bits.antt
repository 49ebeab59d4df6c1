-- The bits of a list of words of 64 bits: bit k is bit k % 64 of word k / 64.
use Rattle.std.specs.Prelude.{◌≡◌, ◌≢◌, ℕ, ◌*◌, ◌/◌, ◌%◌, ◌<◌, Bool, true, false, List, length, slice_index, nat_eq}
use Rattle.std.specs.Int.{bit_at}

-- true if bit k is set
abbrev pub has_bit : List ℕ → ℕ → Bool
has_bit words k = nat_eq (bit_at (slice_index words (k / 64)) (k % 64)) 1

-- this bit has the value, and all others are unchanged
pub record PutsBit (old new : List ℕ) (k : ℕ) (value : Bool) : Type 0 where
  pub put : has_bit new k ≡ value
  pub others : (other : ℕ) → other ≢ k → has_bit new other ≡ has_bit old other

-- bit k is clear, and all below it are set
pub record IsLowestClear (words : List ℕ) (k : ℕ) : Type 0 where
  pub within : k < 64 * length words
  pub is_clear : has_bit words k ≡ false
  pub below : (other : ℕ) → other < k → has_bit words other ≡ true

-- each bit is set
abbrev pub AreAllSet : List ℕ → Type 0
AreAllSet words = (k : ℕ) → k < 64 * length words → has_bit words k ≡ true
