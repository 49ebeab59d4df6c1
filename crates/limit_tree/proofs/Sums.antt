-- Sums over the numbers below n, and over the grants of a set of leaves.
use Rattle.std.proofs.Common.{◌≡◌, ℕ, zero, suc, ◌+◌, ◌<◌, ◌≤◌, Bool, true, false, not, ◌||◌, List, length, take, refl, sym, ap, subst, ◌∙◌, arith, sum, sum_by, inl, inr, get_or-set_other, get_or-set_same}
use Rattle.std.specs.Prelude.{if◌then◌else◌, IsTrue, slice_index}
use Rattle.std.proofs.Math.ListN.{set, length-set}
use Rattle.std.proofs.lemmas.Bool.{cases_eq}
use Rattle.std.proofs.lemmas.List.Sums.{sum_by_more}
use Rattle.std.proofs.Math.Seq.{take-length}
use Rattle.limit_tree.specs.Sharing.{LeafSet, LimitTree, IsWanted, sum_below, sum_over}

-- sums of terms that are no larger
pub sum_below-le : (n : ℕ) (f g : ℕ → ℕ) → ((i : ℕ) → i < n → f i ≤ g i) → sum_below n f ≤ sum_below n g
sum_below-le zero f g le = omega arith
sum_below-le (suc n) f g le =
    let last : f n ≤ g n = le n (omega arith) in
    omega (arith, sum_below-le n f g (λ i l. le i (omega arith)))

pub sum_below-same : (n : ℕ) (f g : ℕ → ℕ) → ((i : ℕ) → i < n → f i ≡ g i) → sum_below n f ≡ sum_below n g
sum_below-same zero f g same = refl
sum_below-same (suc n) f g same =
    let last : f n ≡ g n = same n (omega arith) in
    omega (arith, sum_below-same n f g (λ i l. same i (omega arith)))

pub sum_below-zero : (n : ℕ) (f : ℕ → ℕ) → ((i : ℕ) → i < n → f i ≡ 0) → sum_below n f ≡ 0
sum_below-zero zero f none = refl
sum_below-zero (suc n) f none =
    let last : f n ≡ 0 = none n (omega arith) in
    omega (arith, sum_below-zero n f (λ i l. none i (omega arith)))

pub sum_below-add : (n : ℕ) (f g : ℕ → ℕ) → sum_below n (λ i. f i + g i) ≡ sum_below n f + sum_below n g
sum_below-add zero f g = refl
sum_below-add (suc n) f g = omega (arith, sum_below-add n f g)

-- a sum with a larger term, and no smaller one, is larger
pub sum_below-lt : (n : ℕ) (f g : ℕ → ℕ) (k : ℕ) → ((i : ℕ) → i < n → f i ≤ g i) → k < n → f k < g k → sum_below n f < sum_below n g
sum_below-lt zero f g k le inside less = absurd (omega arith)
sum_below-lt (suc n) f g k le inside less =
    elim (cases_eq k n) [
      | inl e ↦
          let last : f n < g n = subst (λ (j : ℕ). f j < g j) e less in
          omega (arith, sum_below-le n f g (λ i l. le i (omega arith)))
      | inr ne ↦
          let last : f n ≤ g n = le n (omega arith) in
          omega (arith, sum_below-lt n f g k (λ i l. le i (omega arith)) (omega arith) less)
    ]

-- sums of terms that differ in one place only
pub sum_below-change : (n : ℕ) (f g : ℕ → ℕ) (k : ℕ) → ((i : ℕ) → (i ≡ k → ⊥) → f i ≡ g i) → k < n → sum_below n f + g k ≡ sum_below n g + f k
sum_below-change zero f g k same inside = absurd (omega arith)
sum_below-change (suc n) f g k same inside =
    elim (cases_eq k n) [
      | inl e ↦ rw e (omega (arith, sum_below-same n f g (λ i l. same i (λ p. absurd (omega arith)))))
      | inr ne ↦
          let last : f n ≡ g n = same n (λ p. ne (sym p)) in
          omega (arith, sum_below-change n f g k same (omega arith))
    ]

-- the sum of the first elements of a list, by their places
pub sum_by-places : (f : ℕ → ℕ) (xs : List ℕ) (n : ℕ) → n ≤ length xs → sum_below n (λ i. f (slice_index xs i)) ≡ sum_by f (take n xs)
sum_by-places f xs zero fits = refl
sum_by-places f xs (suc n) fits =
    let before : sum_below n (λ i. f (slice_index xs i)) ≡ sum_by f (take n xs) = sum_by-places f xs n (omega arith) in
    let more : sum_by f (take (n + 1) xs) ≡ sum_by f (take n xs) + f (slice_index xs n) = sum_by_more f xs n 0 (omega arith) in
    let next : suc n ≡ n + 1 = omega arith in
    rw next (cc)

-- the sum of a list is the sum over its places
pub sum_by-all_places : (f : ℕ → ℕ) (xs : List ℕ) → sum_below (length xs) (λ i. f (slice_index xs i)) ≡ sum_by f xs
sum_by-all_places f xs = rw take-length at (sum_by-places f xs (length xs) (omega arith))

-- grants of at most the wants add up to at most the wants
pub sum-wanted : (t : LimitTree) (g : List ℕ) → IsWanted t g → sum g ≤ sum t.wants
sum-wanted t g wanted =
    let grants : sum_below (length g) (λ i. slice_index g i) ≡ sum g = sum_by-all_places (λ x. x) g in
    let wants : sum_below (length g) (λ i. slice_index t.wants i) ≡ sum t.wants =
    subst (λ (n : ℕ). sum_below n (λ i. slice_index t.wants i) ≡ sum t.wants) (sym wanted.leaves) (sum_by-all_places (λ x. x) t.wants) in
    omega (arith, sum_below-le (length g) (λ i. slice_index g i) (λ i. slice_index t.wants i) wanted.wants)

-- the sum of f over the numbers below n that are in a set: of grants over their leaves it is sum_over
abbrev pub sum_in : ℕ → LeafSet → (ℕ → ℕ) → ℕ
sum_in n set f = sum_below n (λ i. if set i then f i else 0)

pub sum_in-le : (n : ℕ) (set : LeafSet) (f g : ℕ → ℕ) → ((i : ℕ) → i < n → IsTrue (set i) → f i ≤ g i) → sum_in n set f ≤ sum_in n set g
sum_in-le n set f g le = sum_below-le n _ _ (λ i l. term (set i) (f i) (g i) (le i l))
  where
    term : (b : Bool) (x y : ℕ) → (IsTrue b → x ≤ y) → (if b then x else 0) ≤ (if b then y else 0)
    term true x y le = le refl
    term false x y le = omega arith

-- over the same leaves the sum is the same
pub sum_in-same : (n : ℕ) (a b : LeafSet) (f : ℕ → ℕ) → ((i : ℕ) → a i ≡ b i) → sum_in n a f ≡ sum_in n b f
sum_in-same n a b f same = sum_below-same n _ _ (λ i l. ap (λ (c : Bool). if c then f i else 0) (same i))

pub sum_in-none : (n : ℕ) (set : LeafSet) (f : ℕ → ℕ) → ((i : ℕ) → i < n → set i ≡ false) → sum_in n set f ≡ 0
sum_in-none n set f none = sum_below-zero n _ (λ i l. ap (λ (c : Bool). if c then f i else 0) (none i l))

pub sum_in-add : (n : ℕ) (set : LeafSet) (f g : ℕ → ℕ) → sum_in n set (λ i. f i + g i) ≡ sum_in n set f + sum_in n set g
sum_in-add n set f g =
    sum_below-same n _ _ (λ i l. term (set i) (f i) (g i)) ∙ sum_below-add n (λ i. if set i then f i else 0) (λ i. if set i then g i else 0)
  where
    term : (b : Bool) (x y : ℕ) → (if b then x + y else 0) ≡ (if b then x else 0) + (if b then y else 0)
    term true x y = refl
    term false x y = refl

-- the sums in a set and outside it make the whole
pub sum_in-split : (n : ℕ) (set : LeafSet) (f : ℕ → ℕ) → sum_below n f ≡ sum_in n set f + sum_in n (λ i. not (set i)) f
sum_in-split n set f =
    sum_below-same n _ _ (λ i l. term (set i) (f i)) ∙ sum_below-add n (λ i. if set i then f i else 0) (λ i. if not (set i) then f i else 0)
  where
    term : (b : Bool) (x : ℕ) → x ≡ (if b then x else 0) + (if not b then x else 0)
    term true x = omega arith
    term false x = omega arith

-- the sum over two sets that share no number
pub sum_in-apart : (n : ℕ) (a b : LeafSet) (f : ℕ → ℕ) → ((i : ℕ) → IsTrue (a i) → IsTrue (b i) → ⊥) → sum_in n (λ i. a i || b i) f ≡ sum_in n a f + sum_in n b f
sum_in-apart n a b f apart =
    sum_below-same n _ _ (λ i l. term (a i) (b i) (f i) (apart i)) ∙ sum_below-add n (λ i. if a i then f i else 0) (λ i. if b i then f i else 0)
  where
    term : (a b : Bool) (x : ℕ) → (IsTrue a → IsTrue b → ⊥) → (if a || b then x else 0) ≡ (if a then x else 0) + (if b then x else 0)
    term true true x apart = absurd (apart refl refl)
    term true false x apart = omega arith
    term false b x apart = omega arith

-- the sum over leaves of which k is one, after its grant was set to x
pub sum_over-set_inside : (leaves : LeafSet) (g : List ℕ) (k x : ℕ) → k < length g → IsTrue (leaves k) → sum_over leaves (set g k x) + slice_index g k ≡ sum_over leaves g + x
sum_over-set_inside leaves g k x inside held =
    let size : sum_over leaves (set g k x) ≡ sum_in (length g) leaves (λ i. slice_index (set g k x) i) = ap (λ (n : ℕ). sum_in n leaves (λ i. slice_index (set g k x) i)) (length-set g k x) in
    let change : sum_in (length g) leaves (λ i. slice_index (set g k x) i) + (if leaves k then slice_index g k else 0) ≡ sum_over leaves g + (if leaves k then slice_index (set g k x) k else 0) =
    sum_below-change (length g) _ _ k (λ i ne. ap (λ (y : ℕ). if leaves i then y else 0) (get_or-set_other g k i x 0 ne)) inside in
    let old : (if leaves k then slice_index g k else 0) ≡ slice_index g k = ap (λ (b : Bool). if b then slice_index g k else 0) held in
    let new : (if leaves k then slice_index (set g k x) k else 0) ≡ x = ap (λ (b : Bool). if b then slice_index (set g k x) k else 0) held ∙ get_or-set_same g k x 0 inside in
    omega arith

-- other leaves keep their sum
pub sum_over-set_outside : (leaves : LeafSet) (g : List ℕ) (k x : ℕ) → leaves k ≡ false → sum_over leaves (set g k x) ≡ sum_over leaves g
sum_over-set_outside leaves g k x out =
    ap (λ (n : ℕ). sum_in n leaves (λ i. slice_index (set g k x) i)) (length-set g k x) ∙ sum_below-same (length g) _ _ (λ i l. elim (cases_eq i k) [
      | inl e ↦ subst (λ (j : ℕ). (if leaves j then slice_index (set g k x) j else 0) ≡ (if leaves j then slice_index g j else 0)) (sym e)
          (ap (λ (b : Bool). if b then slice_index (set g k x) k else 0) out ∙ sym (ap (λ (b : Bool). if b then slice_index g k else 0) out))
      | inr ne ↦ ap (λ (y : ℕ). if leaves i then y else 0) (get_or-set_other g k i x 0 ne)
    ])
