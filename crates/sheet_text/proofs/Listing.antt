-- The place of a path in a list.
use Rattle.std.proofs.Common.{◌≡◌, ◌∙◌, ℕ, suc, ◌<◌, ◌+◌, ◌||◌, Bool, true, false, cond, List, [], ◌∷◌, ◌++◌, length, get_or, refl, sym, ap, arith, Option, Some, None}
use Rattle.std.specs.List.{list_any, position_from}
use Rattle.std.specs.Option.{is_some}
use Rattle.sheet_text.proofs.Within.{is_same}
use Rattle.sheet_text.specs.Paths.{Path, same_path, is_among, place_of}

pub any_is_some : {X : Type 0} (test : X → Bool) (i : ℕ) (xs : List X) → is_some (position_from test i xs) ≡ list_any test xs
any_is_some test i [] = refl
any_is_some test i (x ∷ xs) =
    elim (test x) as (λ b. is_some (cond b (Some i) (position_from test (i + 1) xs)) ≡ (b || list_any test xs)) [ true ↦ refl | false ↦ any_is_some test (i + 1) xs ]

pub push_found : {X : Type 0} (test : X → Bool) (i : ℕ) (xs : List X) (x : X) (k : ℕ) → position_from test i xs ≡ Some k → position_from test i (xs ++ x ∷ []) ≡ Some k
push_found test i [] x k e = cc
push_found test i (y ∷ ys) x k e =
    elim (test y) as (λ b. cond b (Some i) (position_from test (i + 1) ys) ≡ Some k → cond b (Some i) (position_from test (i + 1) (ys ++ x ∷ [])) ≡ Some k) [
      | true ↦ λ h. h
      | false ↦ λ h. push_found test (i + 1) ys x k h
    ] e

pub push_none : {X : Type 0} (test : X → Bool) (i : ℕ) (xs : List X) (x : X) → position_from test i xs ≡ None → position_from test i (xs ++ x ∷ []) ≡ cond (test x) (Some (i + length xs)) None
push_none test i [] x e = let same : i ≡ i + 0 = omega arith in ap (λ (n : ℕ). cond (test x) (Some n) None) same
push_none test i (y ∷ ys) x e =
    let far : (i + 1) + length ys ≡ i + suc (length ys) = omega arith in
    elim (test y) as (λ b. cond b (Some i) (position_from test (i + 1) ys) ≡ None → cond b (Some i) (position_from test (i + 1) (ys ++ x ∷ [])) ≡ cond (test x) (Some (i + suc (length ys))) None) [
      | true ↦ λ h. cc
      | false ↦ λ h. push_none test (i + 1) ys x h ∙ ap (λ (n : ℕ). cond (test x) (Some n) None) far
    ] e

-- a new path at the end is found there, and each other one where it was
pub found_after : (paths : List Path) (path q : Path) → place_of paths path ≡ None → place_of (paths ++ path ∷ []) q ≡ cond (same_path q path) (Some (length paths)) (place_of paths q)
found_after paths path q absent = go (same_path q path) (place_of paths q) refl refl
  where
    go : (b : Bool) (o : Option ℕ) → same_path q path ≡ b → place_of paths q ≡ o → place_of (paths ++ path ∷ []) q ≡ cond b (Some (length paths)) (place_of paths q)
    go true o e f =
        let same = is_same q path e in
        let none : place_of paths q ≡ None = ap (place_of paths) same ∙ absent in
        push_none (same_path q) 0 paths path none ∙ ap (λ (b : Bool). cond b (Some (0 + length paths)) None) e ∙ ap Some (omega arith)
    go false None e f = push_none (same_path q) 0 paths path f ∙ ap (λ (b : Bool). cond b (Some (0 + length paths)) None) e ∙ sym f
    go false (Some k) e f = push_found (same_path q) 0 paths path k f ∙ sym f

found_from : (path : Path) (i : ℕ) (paths : List Path) (k : ℕ) → position_from (same_path path) i paths ≡ Some k → (j : ℕ) × (k ≡ i + j) × (j < length paths) × (get_or paths j [] ≡ path)
found_from path i [] k e = cc
found_from path i (other ∷ paths) k e =
    elim (same_path path other) as (λ b. same_path path other ≡ b → cond b (Some i) (position_from (same_path path) (i + 1) paths) ≡ Some k → (j : ℕ) × (k ≡ i + j) × (j < suc (length paths)) × (get_or (other ∷ paths) j [] ≡ path)) [
      | true ↦ λ is h. (0, let same : i ≡ k = cc in omega arith, omega arith, sym (is_same path other is))
      | false ↦ λ is h. let rest = found_from path (i + 1) paths k h in (suc rest.0, omega (arith, rest.1), omega (arith, rest.2), rest.3)
    ] refl e

-- what stands at the place of a path
pub found_at : (path : Path) (paths : List Path) (place : ℕ) → place_of paths path ≡ Some place → (place < length paths) × (get_or paths place [] ≡ path)
found_at path paths place e =
    let found = found_from path 0 paths place e in
    let same : place ≡ found.0 = omega (arith, found.1) in
    (omega (arith, found.2), ap (λ (n : ℕ). get_or paths n []) same ∙ found.3)

-- a path is in a list or has no place there
pub place_none : (paths : List Path) (path : Path) → is_among paths path ≡ false → place_of paths path ≡ None
place_none paths path e = go (place_of paths path) refl
  where
    go : (o : Option ℕ) → place_of paths path ≡ o → o ≡ None
    go None h = refl
    go (Some k) h = let q : true ≡ false = sym (ap is_some h) ∙ any_is_some (same_path path) 0 paths ∙ e in cc

pub place_some : (paths : List Path) (path : Path) (k : ℕ) → place_of paths path ≡ Some k → is_among paths path ≡ true
place_some paths path k h = sym (any_is_some (same_path path) 0 paths) ∙ ap is_some h

pub not_among : (paths : List Path) (path : Path) → place_of paths path ≡ None → is_among paths path ≡ false
not_among paths path h = sym (any_is_some (same_path path) 0 paths) ∙ ap is_some h
