-- One bit of a list of words.
use Rattle.std.proofs.Common.{◌≡◌, ◌≢◌, ℕ, ◌+◌, ◌-◌, ◌*◌, ◌/◌, ◌%◌, ◌^◌, ◌<◌, Bool, true, false, List, length, get_or, slice_set, nat_eq, refl, sym, ap, ◌∙◌, ⊎_elim, arith}
use Rattle.std.specs.Int.{bit_at, w64, trailing_ones}
use Rattle.std.proofs.lemmas.Bool.{cases_eq, cases_lt}
use Rattle.std.proofs.lemmas.List.{get_or-set_same, get_or-set_other}
use Rattle.std.proofs.lemmas.Nat.Bits.{bit_at_ones, bit_at-trailing_ones}
use Rattle.passive_ports.specs.Bits.{has_bit, PutsBit, IsLowestClear}

pub is_set : (words : List ℕ) (k w i : ℕ) → k / 64 ≡ w → k % 64 ≡ i → bit_at (get_or words w 0) i ≡ 1 → has_bit words k ≡ true
is_set words k w i at_word at_bit one = ap (λ b. nat_eq b 1) ((λ j. bit_at (get_or words (at_word j) 0) (at_bit j)) ∙ one)

pub is_clear : (words : List ℕ) (k w i : ℕ) → k / 64 ≡ w → k % 64 ≡ i → bit_at (get_or words w 0) i ≡ 0 → has_bit words k ≡ false
is_clear words k w i at_word at_bit zero = ap (λ b. nat_eq b 1) ((λ j. bit_at (get_or words (at_word j) 0) (at_bit j)) ∙ zero)

-- a full word has each of its bits set
pub full_word : (words : List ℕ) (k : ℕ) → get_or words (k / 64) 0 ≡ 2 ^ 64 - 1 → has_bit words k ≡ true
full_word words k full =
    is_set words k (k / 64) (k % 64) refl refl (ap (λ n. bit_at n (k % 64)) full ∙ bit_at_ones 64 (k % 64) (omega arith))

-- a word with one bit put, and the others as they were
pub puts_bit : (words : List ℕ) (k word : ℕ) (value : Bool) → k / 64 < length words
    → nat_eq (bit_at word (k % 64)) 1 ≡ value
    → ((i : ℕ) → i < 64 → i ≢ k % 64 → bit_at word i ≡ bit_at (get_or words (k / 64) 0) i)
    → PutsBit words (slice_set words (k / 64) word) k value
puts_bit words k word value within put kept = record {
  put = ap (λ n. nat_eq (bit_at n (k % 64)) 1) (get_or-set_same words (k / 64) word 0 within) ∙ put;
  others = λ other apart. ⊎_elim
      (λ same. ap (λ n. nat_eq (bit_at n (other % 64)) 1) ((λ j. get_or (slice_set words (k / 64) word) (same j) 0) ∙ get_or-set_same words (k / 64) word 0 within)
      ∙ ap (λ b. nat_eq b 1) (kept (other % 64) (omega arith) (λ bit. apart (omega (arith, same, bit))))
      ∙ ap (λ w. nat_eq (bit_at (get_or words w 0) (other % 64)) 1) (sym same))
      (λ elsewhere. ap (λ n. nat_eq (bit_at n (other % 64)) 1) (get_or-set_other words (k / 64) (other / 64) word 0 elsewhere))
      (cases_eq (other / 64) (k / 64));
}

-- words that are full below one that is not: its lowest clear bit is theirs
pub lowest_in_word : (words : List ℕ) (w : ℕ) → w < length words → get_or words w 0 < 2 ^ 64 → get_or words w 0 ≢ 2 ^ 64 - 1
    → ((v : ℕ) → v < w → get_or words v 0 ≡ 2 ^ 64 - 1) → IsLowestClear words (64 * w + trailing_ones w64 (get_or words w 0))
lowest_in_word words w within fits not_full full =
    let t : ℕ = trailing_ones w64 (get_or words w 0) in
    let bits : (t < 64) × (bit_at (get_or words w 0) t ≡ 0) × ((i : ℕ) → i < t → bit_at (get_or words w 0) i ≡ 1) = bit_at-trailing_ones w64 (get_or words w 0) (omega arith) in
    let few : t < 64 = bits.0 in
    record {
      within = omega arith;
      is_clear = is_clear words (64 * w + t) w t (omega arith) (omega arith) bits.1;
      below = λ other less. ⊎_elim
          (λ earlier. full_word words other (full (other / 64) earlier))
          (λ here. let at_word : other / 64 ≡ w = omega arith in is_set words other w (other % 64) at_word refl (bits.2 (other % 64) (omega arith)))
          (cases_lt (other / 64) w);
    }
