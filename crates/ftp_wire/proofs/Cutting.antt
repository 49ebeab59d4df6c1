-- A text has one list of lines.
use Rattle.std.proofs.Common.{refl, sym, ap, ◌∙◌, ◌≡◌, ◌≢◌, ◌++◌, ◌∷◌, [], ℕ, List, flat_map, append_assoc, append-nil}
use Rattle.std.specs.List.{AllByRecursion}
use Rattle.std.proofs.lemmas.Grind.{flat_map-append}
use Rattle.std.proofs.lemmas.List.Concat.{flat_map-cons}
use Rattle.ftp_wire.specs.Lines.{Cuts, HasNoEnd, ended}
use Rattle.ftp_wire.proofs.Tokens.{push_each}

-- an octet that ends no line goes to the rest
pub cuts_more : (text : List ℕ) (lines : List (List ℕ)) (rest : List ℕ) (octet : ℕ) → octet ≢ 10 → Cuts text lines rest
    → Cuts (text ++ octet ∷ []) lines (rest ++ octet ∷ [])
cuts_more text lines rest octet ne cut = record {
  whole = ap (λ t. t ++ octet ∷ []) cut.whole ∙ append_assoc (flat_map ended lines) rest (octet ∷ []);
  each = cut.each;
  open_rest = push_each _ rest octet cut.open_rest ne;
}

-- an LF makes a line of the rest
pub cuts_end : (text : List ℕ) (lines : List (List ℕ)) (rest : List ℕ) → Cuts text lines rest
    → Cuts (text ++ 10 ∷ []) (lines ++ rest ∷ []) []
cuts_end text lines rest cut = record {
  whole = ap (λ t. t ++ 10 ∷ []) cut.whole ∙ append_assoc (flat_map ended lines) rest (10 ∷ [])
      ∙ ap (λ t. flat_map ended lines ++ t) (sym (flat_map-cons ended rest [] ∙ append-nil (ended rest)))
      ∙ sym (flat_map-append ended lines (rest ∷ [])) ∙ sym (append-nil (flat_map ended (lines ++ rest ∷ [])));
  each = push_each HasNoEnd lines rest cut.each cut.open_rest;
  open_rest = tt;
}

-- no line with its end begins another
pub split : (l m x y : List ℕ) → HasNoEnd l → HasNoEnd m → l ++ 10 ∷ x ≡ m ++ 10 ∷ y → (l ≡ m) × (x ≡ y)
split [] [] x y p q e = (refl, cc)
split [] (b ∷ m) x y p q e = absurd (q.0 cc)
split (a ∷ l) [] x y p q e = absurd (p.0 cc)
split (a ∷ l) (b ∷ m) x y p q e =
    let tails : l ++ 10 ∷ x ≡ m ++ 10 ∷ y = cc in
    let both = split l m x y p.1 q.1 tails in
    let heads : a ≡ b = cc in
    (rw (heads, both.0) refl, both.1)

pub no_end : (m r t : List ℕ) → HasNoEnd r → r ≡ m ++ 10 ∷ t → ⊥
no_end m [] t p e = elim m as (λ m. [] ≡ m ++ 10 ∷ t → ⊥) [ [] ↦ λ e. cc | ◌∷◌ b bs ↦ λ e. cc ] e
no_end [] (a ∷ r) t p e = p.0 cc
no_end (b ∷ m) (a ∷ r) t p e = no_end m r t p.1 cc

pub line_shape : (l : List ℕ) (ls : List (List ℕ)) (r : List ℕ) → flat_map ended (l ∷ ls) ++ r ≡ l ++ 10 ∷ (flat_map ended ls ++ r)
line_shape l ls r = ap (λ t. t ++ r) (flat_map-cons ended l ls) ∙ append_assoc (ended l) (flat_map ended ls) r ∙ append_assoc l (10 ∷ []) (flat_map ended ls ++ r)

same_line_list : (ls ms : List (List ℕ)) (r s : List ℕ) → AllByRecursion HasNoEnd ls → AllByRecursion HasNoEnd ms → HasNoEnd r → HasNoEnd s
    → flat_map ended ls ++ r ≡ flat_map ended ms ++ s → ls ≡ ms
same_line_list [] [] r s p q pr ps e = refl
same_line_list [] (m ∷ ms) r s p q pr ps e = absurd (no_end m r _ pr (e ∙ line_shape m ms s))
same_line_list (l ∷ ls) [] r s p q pr ps e = absurd (no_end l s _ ps (sym e ∙ line_shape l ls r))
same_line_list (l ∷ ls) (m ∷ ms) r s p q pr ps e =
    let both = split l m _ _ p.0 q.0 (sym (line_shape l ls r) ∙ e ∙ line_shape m ms s) in
    rw (both.0, same_line_list ls ms r s p.1 q.1 pr ps both.1) refl

pub same_lines : (text : List ℕ) (lines others : List (List ℕ)) (rest other : List ℕ) → Cuts text lines rest → Cuts text others other → lines ≡ others
same_lines text lines others rest other c d = same_line_list lines others rest other c.each d.each c.open_rest d.open_rest (sym c.whole ∙ d.whole)
