-- Which paths lie within which.
use Rattle.std.proofs.Common.{◌≡◌, ◌∙◌, ℕ, zero, suc, ◌<◌, ◌≤◌, ◌&&◌, Bool, true, false, cond, List, [], ◌∷◌, ◌++◌, length, get_or, refl, sym, ap, arith, bytes_eq, filter}
use Rattle.std.proofs.lemmas.Bool.{and_parts, true≢false}
use Rattle.std.proofs.lemmas.Slice.Eq.{bytes_eq-Decides}
use Rattle.sheet_text.specs.Paths.{Path, same_path, is_within, Each}

pub same_name : (name : List ℕ) → bytes_eq name name ≡ true
same_name name = (bytes_eq-Decides name name).1 refl

pub is_name : (name other : List ℕ) → bytes_eq name other ≡ true → name ≡ other
is_name name other e = (bytes_eq-Decides name other).0 e

pub same_self : (path : Path) → same_path path path ≡ true
same_self [] = refl
same_self (name ∷ path) = ap (λ (b : Bool). b && same_path path path) (same_name name) ∙ same_self path

pub is_same : (path other : Path) → same_path path other ≡ true → path ≡ other
is_same [] [] e = refl
is_same [] (o ∷ other) e = cc
is_same (n ∷ path) [] e = cc
is_same (n ∷ path) (o ∷ other) e =
    let both = and_parts (bytes_eq n o) (same_path path other) e in
    let first : n ≡ o = is_name n o both.0 in
    let rest : path ≡ other = is_same path other both.1 in cc

pub within_self : (path : Path) → is_within path path ≡ true
within_self [] = refl
within_self (name ∷ path) = ap (λ (b : Bool). b && is_within path path) (same_name name) ∙ within_self path

pub within_trans : (a b c : Path) → is_within a b ≡ true → is_within b c ≡ true → is_within a c ≡ true
within_trans [] b c ab bc = refl
within_trans (x ∷ a) [] c ab bc = cc
within_trans (x ∷ a) (y ∷ b) [] ab bc = cc
within_trans (x ∷ a) (y ∷ b) (z ∷ c) ab bc =
    let first = and_parts (bytes_eq x y) (is_within a b) ab in
    let second = and_parts (bytes_eq y z) (is_within b c) bc in
    ap (λ (n : List ℕ). bytes_eq n z && is_within a c) (is_name x y first.0) ∙ ap (λ (t : Bool). t && is_within a c) second.0 ∙ within_trans a b c first.1 second.1

-- of two paths over one, the shorter lies over the longer
pub within_shorter : (a b c : Path) → is_within a c ≡ true → is_within b c ≡ true → length a ≤ length b → is_within a b ≡ true
within_shorter [] b c ac bc l = refl
within_shorter (x ∷ a) [] c ac bc l = absurd (omega arith)
within_shorter (x ∷ a) (y ∷ b) [] ac bc l = cc
within_shorter (x ∷ a) (y ∷ b) (z ∷ c) ac bc l =
    let first = and_parts (bytes_eq x z) (is_within a c) ac in
    let second = and_parts (bytes_eq y z) (is_within b c) bc in
    ap (λ (n : List ℕ). bytes_eq n y && is_within a b) (is_name x z first.0 ∙ sym (is_name y z second.0)) ∙ ap (λ (t : Bool). t && is_within a b) (same_name y) ∙ within_shorter a b c first.1 second.1 (omega arith)

pub within_length : (a b : Path) → is_within a b ≡ true → length a ≤ length b
within_length [] b e = omega arith
within_length (x ∷ a) [] e = cc
within_length (x ∷ a) (y ∷ b) e = omega (arith, within_length a b (and_parts (bytes_eq x y) (is_within a b) e).1)

pub within_same : (a b : Path) → is_within a b ≡ true → length a ≡ length b → a ≡ b
within_same [] [] e l = refl
within_same [] (y ∷ b) e l = absurd (omega arith)
within_same (x ∷ a) [] e l = cc
within_same (x ∷ a) (y ∷ b) e l =
    let both = and_parts (bytes_eq x y) (is_within a b) e in
    let first : x ≡ y = is_name x y both.0 in
    let rest : a ≡ b = within_same a b both.1 (omega arith) in cc

-- what is within a path is not within one that lies elsewhere
pub not_over : (kid p q : Path) → is_within kid p ≡ true → is_within kid q ≡ false → is_within p q ≡ false
not_over kid p q kp kq = go (is_within p q) refl
  where
    go : (b : Bool) → is_within p q ≡ b → b ≡ false
    go false e = refl
    go true e = absurd (true≢false (sym (within_trans kid p q kp e) ∙ kq))

pub not_under : (kid p q : Path) → is_within kid p ≡ false → length kid ≤ length p → is_within kid q ≡ true → is_within p q ≡ false
not_under kid p q kp l kq = go (is_within p q) refl
  where
    go : (b : Bool) → is_within p q ≡ b → b ≡ false
    go false e = refl
    go true e = absurd (true≢false (sym (within_shorter kid p q kq e l) ∙ kp))

pub each_at : (P : Path → Type 0) (xs : List Path) (i : ℕ) → Each P xs → i < length xs → P (get_or xs i [])
each_at P [] i each l = absurd (omega arith)
each_at P (x ∷ xs) zero each l = each.0
each_at P (x ∷ xs) (suc i) each l = each_at P xs i each.1 (omega arith)

kept : (P : Path → Type 0) (b : Bool) (x : Path) (xs : List Path) → P x → Each P xs → Each P (cond b (x ∷ xs) xs)
kept P true x xs here rest = (here, rest)
kept P false x xs here rest = rest

pub each_filter : (P : Path → Type 0) (test : Path → Bool) (xs : List Path) → Each P xs → Each P (filter test xs)
each_filter P test [] each = tt
each_filter P test (x ∷ xs) each = kept P (test x) x (filter test xs) each.0 (each_filter P test xs each.1)

pub each_append : (P : Path → Type 0) (xs ys : List Path) → Each P xs → Each P ys → Each P (xs ++ ys)
each_append P [] ys a b = b
each_append P (x ∷ xs) ys a b = (a.0, each_append P xs ys a.1 b)

pub each_map : (P Q : Path → Type 0) (xs : List Path) → ((x : Path) → P x → Q x) → Each P xs → Each Q xs
each_map P Q [] f a = tt
each_map P Q (x ∷ xs) f a = (f x a.0, each_map P Q xs f a.1)

-- of paths with one name more, the fronts and the names agree
pub fronts_agree : (p q : Path) (n m : List ℕ) → p ++ n ∷ [] ≡ q ++ m ∷ [] → (p ≡ q) × (n ≡ m)
fronts_agree [] [] n m e = (refl, cc)
fronts_agree [] (x ∷ q) n m e = absurd (none q (cc))
  where
    none : (r : Path) → [] ≡ r ++ m ∷ [] → ⊥
    none [] h = cc
    none (y ∷ r) h = cc
fronts_agree (x ∷ p) [] n m e = absurd (none p (cc))
  where
    none : (r : Path) → [] ≡ r ++ n ∷ [] → ⊥
    none [] h = cc
    none (y ∷ r) h = cc
fronts_agree (x ∷ p) (y ∷ q) n m e =
    let first : x ≡ y = cc in
    let tail : p ++ n ∷ [] ≡ q ++ m ∷ [] = cc in
    let rest = fronts_agree p q n m tail in
    let same : p ≡ q = rest.0 in
    (cc, rest.1)

pub swapped : (path other : Path) → same_path path other ≡ same_path other path
swapped path other = go (same_path path other) (same_path other path) refl refl
  where
    go : (b d : Bool) → same_path path other ≡ b → same_path other path ≡ d → b ≡ d
    go true true e f = refl
    go false false e f = refl
    go true false e f = sym (same_self path) ∙ ap (λ (p : Path). same_path p path) (is_same path other e) ∙ f
    go false true e f = sym e ∙ ap (λ (p : Path). same_path path p) (is_same other path f) ∙ same_self path
