-- Kids found by the marks of their names.
use Rattle.std.proofs.Common.{◌≡◌, ◌∙◌, ℕ, Bool, true, false, cond, List, refl, ap, subst, Option, None, Some, Bor, bytes_eq}
use Rattle.sheet_text.proofs.Within.{is_name}
use Rattle.sheet_text.specs.Named.{held_by, mark_of}

-- a name more among the others
pub other_more : (name : List ℕ) (place : ℕ) (marks : ℕ → Option (Bor (List ℕ) × ℕ)) (before after : List ℕ → Option ℕ) → held_by (marks (mark_of name)) name (before name) ≡ None
    → ((q : List ℕ) → after q ≡ cond (bytes_eq name q) (Some place) (before q))
    → (q : List ℕ) → held_by (marks (mark_of q)) q (after q) ≡ cond (bytes_eq name q) (Some place) (held_by (marks (mark_of q)) q (before q))
other_more name place marks before after absent updates q = go (bytes_eq name q) refl
  where
    new : (o : Option (Bor (List ℕ) × ℕ)) (n : List ℕ) (old then : Option ℕ) → held_by o n old ≡ None → then ≡ Some place → held_by o n then ≡ Some place
    new None n old then none is = is
    new (Some kid) n old then none is = by (bytes_eq kid.0.now n) none
      where
        by : (b : Bool) → cond b (Some kid.1) old ≡ None → cond b (Some kid.1) then ≡ Some place
        by true none = absurd (cc)
        by false _ = is

    go : (b : Bool) → bytes_eq name q ≡ b → held_by (marks (mark_of q)) q (after q) ≡ cond b (Some place) (held_by (marks (mark_of q)) q (before q))
    go true e = subst (λ (n : List ℕ). held_by (marks (mark_of n)) n (after n) ≡ Some place) (is_name name q e)
        (new (marks (mark_of name)) name (before name) (after name) absent (updates name ∙ ap (λ (t : Bool). cond t (Some place) (before name)) (ap (bytes_eq name) (is_name name q e) ∙ e)))
    go false e = ap (λ (o : Option ℕ). held_by (marks (mark_of q)) q o) (updates q ∙ ap (λ (t : Bool). cond t (Some place) (before q)) e)

-- a name that is not there is not that of a further kid
pub none_further : (first : Option (Bor (List ℕ) × ℕ)) (name : List ℕ) (further : Option ℕ) → held_by first name further ≡ None → further ≡ None
none_further None name further none = none
none_further (Some kid) name further none = by (bytes_eq kid.0.now name) none
  where
    by : (b : Bool) → cond b (Some kid.1) further ≡ None → further ≡ None
    by true none = absurd (cc)
    by false none = none
