-- A relation between each element of a list and the later ones.
use Rattle.std.proofs.Common.{◌≡◌, ℕ, zero, suc, ◌<◌, List, [], ◌∷◌, ◌++◌, refl, subst, arith, Some, IsPermutation}
use Rattle.std.specs.Prelude.{slice_get}
use Rattle.std.specs.List.{AllByRecursion}
use Rattle.std.proofs.lemmas.List.Elements.{recursion_from_All, All-from_recursion}
use Rattle.std.proofs.lemmas.List.Sorted.{All-permutation}

module _ {X : Type 0} (R : X → X → Type 0) where
  abbrev pub Pairs : List X → Type 0
  Pairs [] = Unit {0}
  Pairs (x ∷ xs) = AllByRecursion (R x) xs × Pairs xs

  -- by numbers
  abbrev pub ByIndex : List X → Type 0
  ByIndex xs = (k l : ℕ) (x y : X) → k < l → slice_get xs k ≡ Some x → slice_get xs l ≡ Some y → R x y

  -- between the elements of two lists
  abbrev pub Across : List X → List X → Type 0
  Across xs ys = AllByRecursion (λ x. AllByRecursion (R x) ys) xs

  same_some : (x y : X) → Some x ≡ Some y → x ≡ y
  same_some x y e = cc

  each_from : (x : X) (xs : List X) → ((l : ℕ) (y : X) → slice_get xs l ≡ Some y → R x y) → AllByRecursion (R x) xs
  each_from x [] all = tt
  each_from x (y ∷ xs) all = (all 0 y refl, each_from x xs (λ l z e. all (suc l) z e))

  pub pairs_from : (xs : List X) → ByIndex xs → Pairs xs
  pairs_from [] all = tt
  pairs_from (x ∷ xs) all = (each_from x xs (λ l y e. all 0 (suc l) x y (omega arith) refl e), pairs_from xs (λ k l y z lt in_y in_z. all (suc k) (suc l) y z (omega arith) in_y in_z))

  each_at : (x : X) (xs : List X) → AllByRecursion (R x) xs → (l : ℕ) (y : X) → slice_get xs l ≡ Some y → R x y
  each_at x [] all l y e = absurd (cc)
  each_at x (z ∷ xs) all zero y e = subst (R x) (same_some z y e) all.0
  each_at x (z ∷ xs) all (suc l) y e = each_at x xs all.1 l y e

  pub pairs_at : (xs : List X) → Pairs xs → ByIndex xs
  pairs_at [] all k l x y lt in_x in_y = absurd (cc)
  pairs_at (z ∷ xs) all zero zero x y lt in_x in_y = absurd (omega arith)
  pairs_at (z ∷ xs) all zero (suc l) x y lt in_x in_y = subst (λ u. R u y) (same_some z x in_x) (each_at z xs all.0 l y in_y)
  pairs_at (z ∷ xs) all (suc k) zero x y lt in_x in_y = absurd (omega arith)
  pairs_at (z ∷ xs) all (suc k) (suc l) x y lt in_x in_y = pairs_at xs all.1 k l x y (omega arith) in_x in_y

  each_join : (P : X → Type 0) (xs ys : List X) → AllByRecursion P xs → AllByRecursion P ys → AllByRecursion P (xs ++ ys)
  each_join P [] ys one two = two
  each_join P (x ∷ xs) ys one two = (one.0, each_join P xs ys one.1 two)

  each_left : (P : X → Type 0) (xs ys : List X) → AllByRecursion P (xs ++ ys) → AllByRecursion P xs
  each_left P [] ys all = tt
  each_left P (x ∷ xs) ys all = (all.0, each_left P xs ys all.1)

  each_right : (P : X → Type 0) (xs ys : List X) → AllByRecursion P (xs ++ ys) → AllByRecursion P ys
  each_right P [] ys all = all
  each_right P (x ∷ xs) ys all = each_right P xs ys all.1

  pub pairs_join : (xs ys : List X) → Pairs xs → Pairs ys → Across xs ys → Pairs (xs ++ ys)
  pairs_join [] ys one two across = two
  pairs_join (x ∷ xs) ys one two across = (each_join (R x) xs ys one.0 across.0, pairs_join xs ys one.1 two across.1)

  pub pairs_left : (xs ys : List X) → Pairs (xs ++ ys) → Pairs xs
  pairs_left [] ys all = tt
  pairs_left (x ∷ xs) ys all = (each_left (R x) xs ys all.0, pairs_left xs ys all.1)

  pub pairs_right : (xs ys : List X) → Pairs (xs ++ ys) → Pairs ys
  pairs_right [] ys all = all
  pairs_right (x ∷ xs) ys all = pairs_right xs ys all.1

  pub pairs_across : (xs ys : List X) → Pairs (xs ++ ys) → Across xs ys
  pairs_across [] ys all = tt
  pairs_across (x ∷ xs) ys all = (each_right (R x) xs ys all.0, pairs_across xs ys all.1)

  moved_each : (P : X → Type 0) (xs ys : List X) → IsPermutation xs ys → AllByRecursion P xs → AllByRecursion P ys
  moved_each P xs ys moved all = recursion_from_All P ys (All-permutation P xs ys moved (All-from_recursion P xs all))

  each_change : (P Q : X → Type 0) (xs : List X) → ((x : X) → P x → Q x) → AllByRecursion P xs → AllByRecursion Q xs
  each_change P Q [] change all = tt
  each_change P Q (x ∷ xs) change all = (change x all.0, each_change P Q xs change all.1)

  -- a part in the middle is put into another order
  pub pairs_moved : (xs ys zs vs : List X) → IsPermutation ys vs → Pairs vs → Pairs (xs ++ (ys ++ zs)) → Pairs (xs ++ (vs ++ zs))
  pairs_moved xs ys zs vs moved own all =
      let rest = pairs_right xs (ys ++ zs) all in
      let before = pairs_across xs (ys ++ zs) all in
      pairs_join xs (vs ++ zs) (pairs_left xs (ys ++ zs) all)
      (pairs_join vs zs own (pairs_right ys zs rest) (moved_each (λ x. AllByRecursion (R x) zs) ys vs moved (pairs_across ys zs rest)))
      (each_change (λ x. AllByRecursion (R x) (ys ++ zs)) (λ x. AllByRecursion (R x) (vs ++ zs)) xs
      (λ x e. each_join (R x) vs zs (moved_each (R x) ys vs moved (each_left (R x) ys zs e)) (each_right (R x) ys zs e)) before)
