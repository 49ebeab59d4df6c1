-- Sums over users of sums over their leaves.
use Rattle.std.proofs.Common.{◌≡◌, ℕ, zero, suc, ◌<◌, Bool, true, false, not, ◌&&◌, ◌||◌, List, length, refl, sym, ap, subst, ◌∙◌, arith, inl, inr, Some}
use Rattle.std.specs.Prelude.{if◌then◌else◌, IsTrue, slice_get, slice_index}
use Rattle.std.proofs.lemmas.Bool.{cases_eq, cases_Bool, and_parts, and_from, or_cases, or_left, or_right, ltb-true, lt-ltb, eqb-true, eq-eqb, false≢true}
use Rattle.limit_tree.specs.Sharing.{LeafSet, Branch, IsInside, sum_below, sum_over}
use Rattle.limit_tree.proofs.Sums.{sum_below-same, sum_below-zero, sum_below-add, sum_below-change, sum_in}
use Rattle.grant_certificate.specs.Users.{tabulate, leaves_of}

pub length-tabulate : {X : Type 0} (n : ℕ) (f : ℕ → X) → length (tabulate n f) ≡ n
length-tabulate zero f = refl
length-tabulate (suc n) f = ap suc (length-tabulate n (λ j. f (suc j)))

pub get-tabulate : {X : Type 0} (n : ℕ) (f : ℕ → X) (j : ℕ) → j < n → slice_get (tabulate n f) j ≡ Some (f j)
get-tabulate zero f j less = absurd (omega arith)
get-tabulate (suc n) f zero less = refl
get-tabulate (suc n) f (suc j) less = get-tabulate n (λ i. f (suc i)) j (omega arith)

pub index-tabulate : (n : ℕ) (f : ℕ → ℕ) (j : ℕ) → j < n → slice_index (tabulate n f) j ≡ f j
index-tabulate zero f j less = absurd (omega arith)
index-tabulate (suc n) f zero less = refl
index-tabulate (suc n) f (suc j) less = index-tabulate n (λ i. f (suc i)) j (omega arith)

pub same-tabulate : (n : ℕ) (f g : ℕ → ℕ) → ((j : ℕ) → j < n → f j ≡ g j) → tabulate n f ≡ tabulate n g
same-tabulate zero f g same = refl
same-tabulate (suc n) f g same =
    let first : f 0 ≡ g 0 = same 0 (omega arith) in
    let rest : tabulate n (λ j. f (suc j)) ≡ tabulate n (λ j. g (suc j)) = same-tabulate n (λ j. f (suc j)) (λ j. g (suc j)) (λ j l. same (suc j) (omega arith)) in
    cc

-- sums may be taken in either order
pub sum_swap : (m n : ℕ) (f : ℕ → ℕ → ℕ) → sum_below m (λ v. sum_below n (λ i. f v i)) ≡ sum_below n (λ i. sum_below m (λ v. f v i))
sum_swap zero n f = sym (sum_below-zero n (λ i. 0) (λ i l. refl))
sum_swap (suc m) n f = omega (arith, sum_swap m n f, sum_below-add n (λ i. sum_below m (λ v. f v i)) (λ i. f m i))

-- a sum of which all terms but one are 0
pub sum_single : (m : ℕ) (f : ℕ → ℕ) (k : ℕ) → k < m → ((v : ℕ) → (v ≡ k → ⊥) → f v ≡ 0) → sum_below m f ≡ f k
sum_single m f k inside none =
    omega (arith, sum_below-change m f (λ v. 0) k none inside, sum_below-zero m (λ v. 0) (λ i l. refl))

pub own_leaf : (owners : List ℕ) (i : ℕ) → i < length owners → IsTrue (leaves_of owners (slice_index owners i) i)
own_leaf owners i inside = and_from _ _ (lt-ltb i (length owners) inside) (eq-eqb (slice_index owners i) (slice_index owners i) refl)

pub leaf_inside : (owners : List ℕ) (user i : ℕ) → IsTrue (leaves_of owners user i) → i < length owners
leaf_inside owners user i held = ltb-true i (length owners) (and_parts _ _ held).0

pub leaf_owner : (owners : List ℕ) (user i : ℕ) → IsTrue (leaves_of owners user i) → slice_index owners i ≡ user
leaf_owner owners user i held = eqb-true (slice_index owners i) user (and_parts _ _ held).1

pub leaf_other : (owners : List ℕ) (user i : ℕ) → (user ≡ slice_index owners i → ⊥) → leaves_of owners user i ≡ false
leaf_other owners user i other = elim (cases_Bool (leaves_of owners user i)) [
  | inl held ↦ absurd (other (sym (leaf_owner owners user i held)))
  | inr out ↦ out
]

-- the sum of what some users have is the sum over the leaves of those users
pub grouped : (users : ℕ) (owners : List ℕ) (some : LeafSet) (f : ℕ → ℕ) → ((i : ℕ) → i < length owners → slice_index owners i < users) → sum_in users some (λ v. sum_in (length owners) (leaves_of owners v) f) ≡ sum_in (length owners) (λ i. some (slice_index owners i)) f
grouped users owners some f few =
    sum_below-same users _ _ (λ v l. spread (some v) v) ∙
    (sum_swap users (length owners) (λ v i. if some v then (if leaves_of owners v i then f i else 0) else 0) ∙
    sum_below-same (length owners) _ _ (λ i l. one i l))
  where
    spread : (b : Bool) (v : ℕ) → (if b then sum_in (length owners) (leaves_of owners v) f else 0) ≡ sum_below (length owners) (λ i. if b then (if leaves_of owners v i then f i else 0) else 0)
    spread true v = refl
    spread false v = sym (sum_below-zero (length owners) (λ i. 0) (λ i l. refl))

    none : (b c : Bool) (x : ℕ) → c ≡ false → (if b then (if c then x else 0) else 0) ≡ 0
    none true c x out = ap (λ (d : Bool). if d then x else 0) out
    none false c x out = refl

    here : (b c : Bool) (x : ℕ) → c ≡ true → (if b then (if c then x else 0) else 0) ≡ (if b then x else 0)
    here b c x held = ap (λ (d : Bool). if b then (if d then x else 0) else 0) held

    one : (i : ℕ) → i < length owners → sum_below users (λ v. if some v then (if leaves_of owners v i then f i else 0) else 0) ≡ (if some (slice_index owners i) then f i else 0)
    one i inside =
        sum_single users (λ v. if some v then (if leaves_of owners v i then f i else 0) else 0) (slice_index owners i) (few i inside)
        (λ v other. none (some v) (leaves_of owners v i) (f i) (leaf_other owners v i other)) ∙
        here (some (slice_index owners i)) (leaves_of owners (slice_index owners i) i) (f i) (own_leaf owners i inside)

-- the sum over a set of grants, one for each leaf
pub over_in : (set : LeafSet) (g : List ℕ) (n : ℕ) → length g ≡ n → sum_over set g ≡ sum_in n set (λ i. slice_index g i)
over_in set g n size = ap (λ (m : ℕ). sum_in m set (λ i. slice_index g i)) size

-- a test holds for all numbers below n
abbrev pub all_below : ℕ → (ℕ → Bool) → Bool
all_below zero f = true
all_below (suc n) f = all_below n f && f n

pub all-at : (n : ℕ) (f : ℕ → Bool) → all_below n f ≡ true → (i : ℕ) → i < n → f i ≡ true
all-at zero f all i less = absurd (omega arith)
all-at (suc n) f all i less =
    let both = and_parts (all_below n f) (f n) all in
    elim (cases_eq i n) [
      | inl e ↦ subst (λ (j : ℕ). f j ≡ true) (sym e) both.1
      | inr ne ↦ all-at n f both.0 i (omega arith)
    ]

pub all-from : (n : ℕ) (f : ℕ → Bool) → ((i : ℕ) → i < n → f i ≡ true) → all_below n f ≡ true
all-from zero f each = refl
all-from (suc n) f each = and_from (all_below n f) (f n) (all-from n f (λ i l. each i (omega arith))) (each n (omega arith))

-- a test holds for some number below n
abbrev pub any_below : ℕ → (ℕ → Bool) → Bool
any_below zero f = false
any_below (suc n) f = any_below n f || f n

pub any-from : (n : ℕ) (f : ℕ → Bool) (i : ℕ) → i < n → f i ≡ true → any_below n f ≡ true
any-from zero f i less held = absurd (omega arith)
any-from (suc n) f i less held = elim (cases_eq i n) [
  | inl e ↦ or_right (any_below n f) (f n) (subst (λ (j : ℕ). f j ≡ true) e held)
  | inr ne ↦ or_left (any_below n f) (f n) (any-from n f i (omega arith) held)
]

pub any-found : (n : ℕ) (f : ℕ → Bool) → any_below n f ≡ true → (i : ℕ) × (i < n) × (f i ≡ true)
any-found zero f any = absurd (false≢true any)
any-found (suc n) f any = elim (or_cases (any_below n f) (f n) any) [
  | inl before ↦ let found : (i : ℕ) × (i < n) × (f i ≡ true) = any-found n f before in (found.0, omega (arith, found.1), found.2)
  | inr last ↦ (n, omega arith, last)
]

-- user v has leaves, and the branch holds them all
abbrev pub covers : List ℕ → Branch → LeafSet
covers owners b v =
    any_below (length owners) (leaves_of owners v)
    && all_below (length owners) (λ i. not (leaves_of owners v i) || b.holds i)

pub implies : (x y : Bool) → (not x || y) ≡ true → x ≡ true → y ≡ true
implies true y or held = or
implies false y or held = absurd (false≢true held)

pub implied : (x y : Bool) → (x ≡ true → y ≡ true) → (not x || y) ≡ true
implied true y f = f refl
implied false y f = refl

pub covers-inside : (owners : List ℕ) (b : Branch) (v : ℕ) → IsTrue (covers owners b v) → IsInside (leaves_of owners v) b.holds
covers-inside owners b v held i own =
    implies (leaves_of owners v i) (b.holds i)
    (all-at (length owners) (λ j. not (leaves_of owners v j) || b.holds j) (and_parts _ _ held).1 i (leaf_inside owners v i own)) own

pub covers-some : (owners : List ℕ) (b : Branch) (v : ℕ) → IsTrue (covers owners b v) → (i : ℕ) × IsTrue (leaves_of owners v i)
covers-some owners b v held =
    let found : (i : ℕ) × (i < length owners) × (leaves_of owners v i ≡ true) = any-found (length owners) (leaves_of owners v) (and_parts _ _ held).0 in
    (found.0, found.2)

pub covers-from : (owners : List ℕ) (b : Branch) (v i : ℕ) → IsTrue (leaves_of owners v i) → IsInside (leaves_of owners v) b.holds → IsTrue (covers owners b v)
covers-from owners b v i own inside =
    and_from _ _ (any-from (length owners) (leaves_of owners v) i (leaf_inside owners v i own) own)
    (all-from (length owners) (λ j. not (leaves_of owners v j) || b.holds j) (λ j l. implied (leaves_of owners v j) (b.holds j) (inside j)))
