-- One octet more of a buffer.
use Rattle.std.proofs.Common.{◌≡◌, ℕ, zero, suc, ◌+◌, ◌<◌, ◌≤◌, Bool, true, false, cond, List, [], ◌∷◌, ◌++◌, length, take, drop, set, get_or, sym, refl, ap, ◌∙◌, arith}
use Rattle.std.proofs.Math.Seq.{take-suc, drop-nil}
use Rattle.std.proofs.lemmas.List.{drop-set-lt, get_or-drop}
use Rattle.std.proofs.lemmas.List.Sums.{fold-append}
use Rattle.line_mender.specs.Mended.{Open, after, after_all, kept, kept_of, is_stray}

pub kept-append : (known : Open) (xs ys : List ℕ) → kept known (xs ++ ys) ≡ kept known xs ++ kept (after_all known xs) ys
kept-append known [] ys = refl
kept-append known (x ∷ xs) ys = ap (λ (more : List ℕ). kept_of known x ++ more) (kept-append (after known x) xs ys) ∙ assoc (kept_of known x)
  where
    assoc : (front : List ℕ) → front ++ (kept (after known x) xs ++ kept (after_all (after known x) xs) ys) ≡ (front ++ kept (after known x) xs) ++ kept (after_all (after known x) xs) ys
    assoc [] = refl
    assoc (z ∷ zs) = ap (λ (more : List ℕ). z ∷ more) (assoc zs)

alone : (xs : List ℕ) → xs ++ [] ≡ xs
alone [] = refl
alone (x ∷ xs) = ap (λ (more : List ℕ). x ∷ more) (alone xs)

pub kept-more : (known : Open) (xs : List ℕ) (x : ℕ) → kept known (xs ++ x ∷ []) ≡ kept known xs ++ kept_of (after_all known xs) x
kept-more known xs x = kept-append known xs (x ∷ []) ∙ ap (λ (more : List ℕ). kept known xs ++ more) (alone (kept_of (after_all known xs) x))

pub after_all-more : (known : Open) (xs : List ℕ) (x : ℕ) → after_all known (xs ++ x ∷ []) ≡ after (after_all known xs) x
after_all-more known xs x = fold-append after known xs (x ∷ [])

pub take-more : (xs : List ℕ) (i : ℕ) (d : ℕ) → i < length xs → take (i + 1) xs ≡ take i xs ++ get_or xs i d ∷ []
take-more xs i d h = let e : i + 1 ≡ suc i = omega arith in ap (λ (n : ℕ). take n xs) e ∙ take-suc xs i d h

-- the octet at a place of what is left
pub same_next : (xs ys : List ℕ) (i : ℕ) (d : ℕ) → drop i xs ≡ drop i ys → get_or xs i d ≡ get_or ys i d
same_next xs ys i d e = there xs ∙ (ap (λ (zs : List ℕ). get_or zs 0 d) e ∙ sym (there ys))
  where
    there : (zs : List ℕ) → get_or zs i d ≡ get_or (drop i zs) 0 d
    there zs = let f : i ≡ i + 0 = omega arith in ap (λ (n : ℕ). get_or zs n d) f ∙ sym (get_or-drop i zs 0 d)

drop-one : (i : ℕ) (zs : List ℕ) → drop (suc i) zs ≡ drop 1 (drop i zs)
drop-one i [] = sym (ap (drop 1) (drop-nil i))
drop-one zero (z ∷ zs) = refl
drop-one (suc i) (z ∷ zs) = drop-one i zs

pub next_rest : (xs ys : List ℕ) (i : ℕ) → drop i xs ≡ drop i ys → drop (i + 1) xs ≡ drop (i + 1) ys
next_rest xs ys i e = next xs ∙ (ap (drop 1) e ∙ sym (next ys))
  where
    next : (zs : List ℕ) → drop (i + 1) zs ≡ drop 1 (drop i zs)
    next zs = let f : i + 1 ≡ suc i = omega arith in ap (λ (n : ℕ). drop n zs) f ∙ drop-one i zs

-- what is left behind a place, after an octet was written at or before it
pub rest_kept : (xs ys : List ℕ) (i count x : ℕ) → drop i xs ≡ drop i ys → count ≤ i → drop (i + 1) (set xs count x) ≡ drop (i + 1) ys
rest_kept xs ys i count x e h = drop-set-lt (i + 1) xs count x (omega arith) ∙ next_rest xs ys i e

-- what is known behind a place
pub all_more : (first : Open) (all : List ℕ) (known : Open) (i x : ℕ) → known ≡ after_all first (take i all) → x ≡ get_or all i 0 → i < length all → after known x ≡ after_all first (take (i + 1) all)
all_more first all known i x e same h =
    ap (λ (k : Open). after k x) e ∙ (ap (after (after_all first (take i all))) same
    ∙ (sym (after_all-more first (take i all) (get_or all i 0)) ∙ ap (after_all first) (sym (take-more all i 0 h))))

-- what is kept up to behind a place
kept_next : (first : Open) (all : List ℕ) (known : Open) (i x : ℕ) → known ≡ after_all first (take i all) → x ≡ get_or all i 0 → i < length all → kept first (take (i + 1) all) ≡ kept first (take i all) ++ kept_of known x
kept_next first all known i x e same h =
    ap (kept first) (take-more all i 0 h) ∙ (kept-more first (take i all) (get_or all i 0)
    ∙ (ap (λ (y : ℕ). kept first (take i all) ++ kept_of (after_all first (take i all)) y) (sym same) ∙ ap (λ (k : Open). kept first (take i all) ++ kept_of k x) (sym e)))

pub next_stray : (first : Open) (all : List ℕ) (known : Open) (i x : ℕ) (front : List ℕ) → known ≡ after_all first (take i all) → x ≡ get_or all i 0 → i < length all → front ≡ kept first (take i all) → is_stray known x ≡ true → front ≡ kept first (take (i + 1) all)
next_stray first all known i x front e same h f stray =
    f ∙ (sym (alone (kept first (take i all)))
    ∙ (ap (λ (b : Bool). kept first (take i all) ++ cond b [] (x ∷ [])) (sym stray) ∙ sym (kept_next first all known i x e same h)))

pub next_kept : (first : Open) (all : List ℕ) (known : Open) (i x : ℕ) (front : List ℕ) → known ≡ after_all first (take i all) → x ≡ get_or all i 0 → i < length all → front ≡ kept first (take i all) → is_stray known x ≡ false → front ++ x ∷ [] ≡ kept first (take (i + 1) all)
next_kept first all known i x front e same h f stays =
    ap (λ (xs : List ℕ). xs ++ x ∷ []) f
    ∙ (ap (λ (b : Bool). kept first (take i all) ++ cond b [] (x ∷ [])) (sym stays) ∙ sym (kept_next first all known i x e same h))
