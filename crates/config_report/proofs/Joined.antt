-- Texts that were written one after another.
use Rattle.std.proofs.Common.{◌≡◌, ◌∙◌, ℕ, List, [], ◌++◌, append_assoc, ap}

-- that number of texts after the first
pub three : {X : Type 0} (t t1 t2 t3 a b c : List X) → t1 ≡ t ++ a → t2 ≡ t1 ++ b → t3 ≡ t2 ++ c → t3 ≡ t ++ ((a ++ b) ++ c)
three {X} t t1 t2 t3 a b c is1 is2 is3 =
    is3 ∙ ap (λ (x : List X). x ++ c) (is2 ∙ ap (λ (x : List X). x ++ b) is1 ∙ append_assoc t a b) ∙ append_assoc t (a ++ b) c

pub four : {X : Type 0} (t t1 t2 t3 t4 a b c d : List X) → t1 ≡ t ++ a → t2 ≡ t1 ++ b → t3 ≡ t2 ++ c → t4 ≡ t3 ++ d → t4 ≡ t ++ (((a ++ b) ++ c) ++ d)
four {X} t t1 t2 t3 t4 a b c d is1 is2 is3 is4 =
    is4 ∙ ap (λ (x : List X). x ++ d) (three t t1 t2 t3 a b c is1 is2 is3) ∙ append_assoc t ((a ++ b) ++ c) d

pub five : {X : Type 0} (t t1 t2 t3 t4 t5 a b c d e : List X) → t1 ≡ t ++ a → t2 ≡ t1 ++ b → t3 ≡ t2 ++ c → t4 ≡ t3 ++ d → t5 ≡ t4 ++ e → t5 ≡ t ++ ((((a ++ b) ++ c) ++ d) ++ e)
five {X} t t1 t2 t3 t4 t5 a b c d e is1 is2 is3 is4 is5 =
    is5 ∙ ap (λ (x : List X). x ++ e) (four t t1 t2 t3 t4 a b c d is1 is2 is3 is4) ∙ append_assoc t (((a ++ b) ++ c) ++ d) e

-- that number of texts
pub seven : (t t1 t2 t3 t4 t5 t6 t7 a b c d e f g : List ℕ) → t ≡ [] → t1 ≡ t ++ a → t2 ≡ t1 ++ b → t3 ≡ t2 ++ c → t4 ≡ t3 ++ d → t5 ≡ t4 ++ e → t6 ≡ t5 ++ f → t7 ≡ t6 ++ g
    → t7 ≡ (((((a ++ b) ++ c) ++ d) ++ e) ++ f) ++ g
seven t t1 t2 t3 t4 t5 t6 t7 a b c d e f g none is1 is2 is3 is4 is5 is6 is7 =
    is7 ∙ ap (λ (x : List ℕ). x ++ g) (is6 ∙ ap (λ (x : List ℕ). x ++ f) (is5 ∙ ap (λ (x : List ℕ). x ++ e)
    (is4 ∙ ap (λ (x : List ℕ). x ++ d) (is3 ∙ ap (λ (x : List ℕ). x ++ c) (is2 ∙ ap (λ (x : List ℕ). x ++ b)
    (is1 ∙ ap (λ (x : List ℕ). x ++ a) none))))))
