-- Two whole runs of the rule end alike.
use Rattle.std.proofs.Common.{◌≡◌, ℕ, zero, suc, ◌<◌, List, sym, ap, ◌∙◌, subst, arith, inl, inr}
use Rattle.std.proofs.lemmas.Bool.{cases_lt}
use Rattle.limit_tree.specs.Sharing.{LimitTree, HasRoom}
use Rattle.round_allocator.specs.Rounds.{IsExhausted}
use Rattle.test_allotment.specs.Rule.{IsNext, IsGiven, RunsEndAlike, give}

-- there is one next leaf
next-alike : (t : LimitTree) (g : List ℕ) (j k : ℕ) → IsNext t g j → IsNext t g k → j ≡ k
next-alike t g j k a b = elim (cases_lt j k) [
  | inl less ↦ absurd (omega (arith, b.first j less a.room, a.least k b.room))
  | inr rest ↦ elim (cases_lt k j) [
    | inl less ↦ absurd (omega (arith, a.first k less b.room, b.least j a.room))
    | inr same ↦ omega arith
  ]
]

-- as many octets are given alike
given-alike : (t : LimitTree) (n : ℕ) (g h : List ℕ) → IsGiven t n g → IsGiven t n h → g ≡ h
given-alike t zero g h a b = a ∙ sym b
given-alike t (suc n) g h a b =
    let before : a.0 ≡ b.0 = given-alike t n a.0 b.0 a.2 b.2 in
    let leaf : a.1 ≡ b.1 = next-alike t b.0 a.1 b.1 (subst (λ (x : List ℕ). IsNext t x a.1) before a.3) b.3 in
    a.4 ∙ ap (λ (x : List ℕ). give x a.1) before ∙ ap (λ (k : ℕ). give b.0 k) leaf ∙ sym b.4

-- what a run of more octets had after n
had : (t : LimitTree) (m n : ℕ) (g : List ℕ) → n < m → IsGiven t m g → (h : List ℕ) × (k : ℕ) × IsGiven t n h × IsNext t h k
had t zero n g less a = absurd (omega arith)
had t (suc m) n g less a = elim (cases_lt n m) [
  | inl more ↦ had t m n a.0 more a.2
  | inr last ↦ let e : m ≡ n = omega arith in (a.0, a.1, subst (λ (k : ℕ). IsGiven t k a.0) e a.2, a.3)
]

-- a run is over once no leaf has room
no-more : (t : LimitTree) (m n : ℕ) (g h : List ℕ) → m < n → IsGiven t m g → IsExhausted t g → IsGiven t n h → ⊥
no-more t m n g h less a none b =
    let at = had t n m h less b in
    let same : at.0 ≡ g = given-alike t m at.0 g at.2 a in
    none at.1 (subst (λ (x : List ℕ). HasRoom t x at.1) same at.3.room)

pub runs-alike : RunsEndAlike
runs-alike t g h a b = elim (cases_lt a.octets b.octets) [
  | inl less ↦ absurd (no-more t a.octets b.octets g h less a.given a.exhausted b.given)
  | inr rest ↦ elim (cases_lt b.octets a.octets) [
    | inl less ↦ absurd (no-more t b.octets a.octets h g less b.given b.exhausted a.given)
    | inr same ↦
        let e : b.octets ≡ a.octets = omega arith in
        given-alike t a.octets g h a.given (subst (λ (n : ℕ). IsGiven t n h) e b.given)
  ]
]
