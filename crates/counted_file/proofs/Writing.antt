-- What writes one after another leave.
use Rattle.std.proofs.Common.{ℕ, ◌≡◌, ◌+◌, List, ◌++◌, take, drop, Option, Some, None, sym, ap, arith, append_assoc, ◌∙◌}
use Rattle.std.proofs.lemmas.List.{drop-take, take-append-drop, take-take}
use Rattle.std.specs.Io.KnownBytes.{Appends}

pub appends_more : (a b c : Option (List ℕ)) (x y : List ℕ) → Appends a b x → Appends b c y → Appends a c (x ++ y)
appends_more None b c x y p q = tt
appends_more (Some a) None c x y p q = elim p [ ]
appends_more (Some a) (Some b) None x y p q = elim q [ ]
appends_more (Some a) (Some b) (Some c) x y p q = q ∙ ap (λ (t : List ℕ). t ++ y) p ∙ append_assoc a x y

-- a part, and then a part of the rest
pub take_both : (m n : ℕ) (xs : List ℕ) → take m xs ++ take n (drop m xs) ≡ take (m + n) xs
take_both m n xs =
    ap (λ (t : List ℕ). take m xs ++ t) (sym (drop-take m n xs))
    ∙ (ap (λ (t : List ℕ). t ++ drop m (take (m + n) xs)) (sym (take-take m (m + n) xs (omega arith))) ∙ take-append-drop m (take (m + n) xs))
