-- A path's double quotes, character by character.
use Rattle.std.proofs.Common.{◌≡◌, ◌≢◌, ℕ, ◌<◌, ◌≤◌, zero, suc, List, [], ◌∷◌, length, get_or, refl, sym, inl, inr, arith, append-nil}
use Rattle.std.proofs.lemmas.Bool.{cases_lt, ne_eqb}
use Rattle.std.proofs.lemmas.Str.{inside_one}
use Rattle.std.proofs.lemmas.Str.Ascii.{encode_ascii}
use Rattle.std.specs.List.{flat_map}
use lib.Utf8.{encode}
use Rattle.ftp_reply.specs.Quoting.{doubled}

-- octets above ASCII stay
unquoted : (octets : List ℕ) → ((k : ℕ) → k < length octets → 128 ≤ get_or octets k 0) → flat_map doubled octets ≡ octets
unquoted [] high = refl
unquoted (octet ∷ octets) high =
    let here : 128 ≤ octet = high zero (omega arith) in
    let other : octet ≢ 34 = omega arith in
    let rest : flat_map doubled octets ≡ octets = unquoted octets (λ k h. high (suc k) (omega arith)) in
    rw (ne_eqb octet 34 other, rest) refl

pub doubled_other : (c : ℕ) → c ≢ 34 → flat_map doubled (encode c) ≡ encode c
doubled_other c other = elim (cases_lt c 128) [
  | inl low ↦ rw (encode_ascii c low, ne_eqb c 34 other) refl
  | inr high ↦ unquoted (encode c) (λ k inside. elim (cases_lt (get_or (encode c) k 0) 128) [
    | inl low ↦ absurd (omega (arith, inside_one c [] (encode c) k (sym (append-nil (encode c))) inside low))
    | inr far ↦ far
  ])
]
