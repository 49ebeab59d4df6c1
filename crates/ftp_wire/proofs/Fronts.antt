-- Words at the front of a text.
use Rattle.std.proofs.Common.{arith, refl, sym, ap, ◌∙◌, ◌≡◌, ◌<◌, ℕ, List, Bool, true, false, Some, None, length, take, drop, map}
use Rattle.std.specs.Char.{to_ascii_lowercase}
use Rattle.std.proofs.lemmas.List.{length-take, length-map}
use Rattle.std.proofs.lemmas.Slice.Eq.{bytes_eq-Decides}
use Rattle.ftp_wire.specs.Arguments.{after_word}
use Rattle.ftp_wire.specs.Words.{same_letters}

refuted : (b : Bool) → (b ≡ true → ⊥) → b ≡ false
refuted true never = absurd (never refl)
refuted false never = refl

pub same_length : (a b : List ℕ) → same_letters a b ≡ true → length a ≡ length b
same_length a b e =
    let same = (bytes_eq-Decides (map to_ascii_lowercase a) (map to_ascii_lowercase b)).0 e in
    sym (length-map a to_ascii_lowercase) ∙ ap length same ∙ length-map b to_ascii_lowercase

pub word_found : (word text : List ℕ) → same_letters (take (length word) text) word ≡ true → after_word word text ≡ Some (drop (length word) text)
unfolding after_word
word_found word text e = rw e refl

pub word_absent : (word text : List ℕ) → same_letters (take (length word) text) word ≡ false → after_word word text ≡ None
unfolding after_word
word_absent word text e = rw e refl

pub no_word : (word text : List ℕ) → length text < length word → after_word word text ≡ None
no_word word text less = word_absent word text (refuted (same_letters (take (length word) text) word)
    (λ e. omega (arith, same_length (take (length word) text) word e, length-take (length word) text)))
