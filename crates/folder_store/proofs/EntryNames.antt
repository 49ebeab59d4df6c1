-- Names as the C library reads them.
use Rattle.std.proofs.Common.{◌≡◌, ◌≢◌, ◌+◌, ◌<◌, ◌≤◌, ◌++◌, ℕ, zero, suc, Bool, true, false, List, [], ◌∷◌, length, take, drop, get_or, set, refl, sym, ap, ◌∙◌, arith}
use Rattle.std.specs.Prelude.{if◌then◌else◌, slice_index}
use Rattle.std.proofs.Math.Seq.{set-append_seam}
use Rattle.std.proofs.lemmas.Bool.{eq-eqb, ne_eqb}
use Rattle.ftp_terms.specs.Lines.{HasNoControl, is_control}
use Rattle.folder_store.specs.EntryNames.{c_text}
use Rattle.folder_store.proofs.Walking.{drop_at}

passed : (octet : ℕ) (rest : List ℕ) → octet ≢ 0 → c_text (octet ∷ rest) ≡ octet ∷ c_text rest
passed octet rest not = ap (λ (b : Bool). if b then [] else octet ∷ c_text rest) (ne_eqb octet 0 not)

no_nul : (octet : ℕ) → is_control octet ≡ false → octet ≢ 0
no_nul octet plain is = true_false (sym (ap is_control is) ∙ plain)
  where
    true_false : true ≡ false → ⊥
    true_false e = cc

before_nul : (name rest : List ℕ) → HasNoControl name → c_text (name ++ 0 ∷ rest) ≡ name
before_nul [] rest plain = refl
before_nul (octet ∷ name) rest plain = passed octet (name ++ 0 ∷ rest) (no_nul octet plain.0) ∙ ap (λ t. octet ∷ t) (before_nul name rest plain.1)

-- a name that is written over the front of these octets, and a NUL after it
pub set_name : (name octets : List ℕ) → HasNoControl name → length name < length octets → c_text (set (name ++ drop (length name) octets) (length name) 0) ≡ name
set_name name octets plain fits =
    ap (λ rest. c_text (set (name ++ rest) (length name) 0)) (drop_at octets (length name) 0 fits)
    ∙ ap c_text (set-append_seam name (get_or octets (length name) 0) (drop (length name + 1) octets) 0)
    ∙ before_nul name (drop (length name + 1) octets) plain

-- the octets before the first NUL
pub cut_text : (octets : List ℕ) (n : ℕ) → n ≤ length octets → ((i : ℕ) → i < length (take n octets) → slice_index (take n octets) i ≢ 0) → (n < length octets → slice_index octets n ≡ 0) → take n octets ≡ c_text octets
cut_text [] zero within nul end = refl
cut_text [] (suc n) within nul end = absurd (omega arith)
cut_text (octet ∷ rest) zero within nul end =
    let is : octet ≡ 0 = end (omega arith) in
    sym (ap (λ (b : Bool). if b then [] else octet ∷ c_text rest) (eq-eqb octet 0 is))
cut_text (octet ∷ rest) (suc n) within nul end =
    let not : octet ≢ 0 = nul 0 (omega arith) in
    ap (λ t. octet ∷ t) (cut_text rest n (omega arith) (λ i l. nul (suc i) (omega arith)) (λ l. end (omega arith)))
    ∙ sym (passed octet rest not)
