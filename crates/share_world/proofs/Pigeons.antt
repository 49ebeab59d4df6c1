-- As many different numbers below m as there are places take at most m places.
use Rattle.std.proofs.Common.{◌≡◌, ◌≢◌, ℕ, zero, suc, ◌<◌, ◌≤◌, Bool, cond, sym, ap, ◌∙◌, subst, arith, ◌⊎◌, inl, inr}
use Rattle.std.specs.Prelude.{nat_lt}
use Rattle.std.proofs.lemmas.Bool.{cases_lt, cases_eq, cases_order, lt-ltb, le-ltb}

-- some place below n has the number c, or none has
searched : (f : ℕ → ℕ) (c n : ℕ) → ((k : ℕ) × (k < n) × (f k ≡ c)) ⊎ ((k : ℕ) → k < n → f k ≢ c)
searched f c zero = inr (λ k less same. omega arith)
searched f c (suc n) = elim (cases_eq (f n) c) [
  | inl here ↦ inl (n, omega arith, here)
  | inr not ↦ elim (searched f c n) [
    | inl found ↦ inl (found.0, let less : found.0 < n = found.1 in omega arith, found.2)
    | inr none ↦ inr (λ k less same. elim (cases_lt k n) [
      | inl below ↦ none k below same
      | inr past ↦ let last : k ≡ n = omega arith in not (ap f (sym last) ∙ same)
    ])
  ]
]

-- all places but one, in order
abbrev but : ℕ → ℕ → ℕ
but out k = cond (nat_lt k out) k (suc k)

but_is : (out k : ℕ) → ((k < out) × (but out k ≡ k)) ⊎ ((out ≤ k) × (but out k ≡ suc k))
but_is out k = elim (cases_lt k out) [
  | inl less ↦ inl (less, ap (λ (b : Bool). cond b k (suc k)) (lt-ltb k out less))
  | inr past ↦ inr (past, ap (λ (b : Bool). cond b k (suc k)) (le-ltb k out past))
]

but_rises : (out j k : ℕ) → j < k → but out j < but out k
but_rises out j k less = go (but_is out j) (but_is out k)
  where
    go : ((j < out) × (but out j ≡ j)) ⊎ ((out ≤ j) × (but out j ≡ suc j)) → ((k < out) × (but out k ≡ k)) ⊎ ((out ≤ k) × (but out k ≡ suc k)) → but out j < but out k
    go (inl a) (inl b) = omega (arith, a.1, b.1)
    go (inl a) (inr b) = omega (arith, a.1, b.1)
    go (inr a) (inl b) = omega (arith, a.0, b.0)
    go (inr a) (inr b) = omega (arith, a.1, b.1)

but_not : (out k : ℕ) → but out k ≢ out
but_not out k same = elim (but_is out k) [ inl h ↦ absurd (omega (arith, h.0, h.1)) | inr h ↦ absurd (omega (arith, h.0, h.1)) ]

but_less : (out k n : ℕ) → k < n → but out k < suc n
but_less out k n less = elim (but_is out k) [ inl h ↦ omega (arith, h.1) | inr h ↦ omega (arith, h.1) ]

pigeons : (m n : ℕ) (f : ℕ → ℕ) → ((k : ℕ) → k < n → f k < m) → ((j k : ℕ) → j < k → k < n → f j ≢ f k) → n ≤ m
pigeons zero zero f small apart = omega arith
pigeons zero (suc n) f small apart = absurd (omega (arith, small 0 (omega arith)))
pigeons (suc m) zero f small apart = omega arith
pigeons (suc m) (suc n) f small apart = elim (searched f m (suc n)) [
  | inl found ↦
      let out = found.0 in
      let inside : out < suc n = found.1 in
      let last : f out ≡ m = found.2 in
      let rest : n ≤ m = pigeons m n (λ k. f (but out k)) (λ k less. smaller out inside last k less) (λ j k below less. apart (but out j) (but out k) (but_rises out j k below) (but_less out k n less)) in
      omega arith
  | inr none ↦
      let rest : suc n ≤ m = pigeons m (suc n) f (λ k less. (let most : f k < suc m = small k less in elim (cases_lt (f k) m) [ inl below ↦ below | inr past ↦ absurd (none k less (omega arith)) ])) apart in
      omega arith
]
  where
    smaller : (out : ℕ) → out < suc n → f out ≡ m → (k : ℕ) → k < n → f (but out k) < m
    smaller out inside last k less =
        let within : but out k < suc n = but_less out k n less in
        let most : f (but out k) < suc m = small (but out k) within in
        let other : f (but out k) ≢ m = λ same. elim (cases_order out (but out k)) [
          | inl is ↦ but_not out k (sym is)
          | inr either ↦ elim either [
            | inl before ↦ apart out (but out k) before within (last ∙ sym same)
            | inr after ↦ apart (but out k) out after inside (same ∙ sym last)
          ]
        ] in
        elim (cases_lt (f (but out k)) m) [ inl below ↦ below | inr past ↦ absurd (other (omega arith)) ]

-- each place below n has a number below m, and no number is that of two places
pub few_places : (m n : ℕ) (Has : ℕ → ℕ → Type 0) → ((k : ℕ) → k < n → (c : ℕ) × (c < m) × Has k c) → ((j k c : ℕ) → Has j c → Has k c → j ≡ k) → n ≤ m
few_places m n Has each once = pigeons m n number small apart
  where
    pick : (k : ℕ) → (k < n) ⊎ (n ≤ k) → ℕ
    pick k (inl less) = (each k less).0
    pick k (inr past) = 0

    number : ℕ → ℕ
    number k = pick k (cases_lt k n)

    picked : (k : ℕ) (o : (k < n) ⊎ (n ≤ k)) → k < n → (pick k o < m) × Has k (pick k o)
    picked k (inl l) less = ((each k l).1, (each k l).2)
    picked k (inr past) less = absurd (omega arith)

    small : (k : ℕ) → k < n → number k < m
    small k less = (picked k (cases_lt k n) less).0

    apart : (j k : ℕ) → j < k → k < n → number j ≢ number k
    apart j k below less same =
        let in_j : Has j (number j) = (picked j (cases_lt j n) (omega arith)).1 in
        let in_k : Has k (number k) = (picked k (cases_lt k n) less).1 in
        let is : j ≡ k = once j k (number k) (subst (Has j) same in_j) in_k in
        omega arith
