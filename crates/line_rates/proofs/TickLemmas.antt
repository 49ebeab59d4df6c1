-- The shares of consecutive ticks add up.
use Rattle.std.proofs.Common.{◌≡◌, ℕ, zero, suc, ◌+◌, ◌-◌, ◌*◌, ◌/◌, ◌%◌, inl, inr, sym, ap, ◌∙◌, subst, arith}
use Rattle.std.proofs.lemmas.Bool.{cases_lt}
use Rattle.line_rates.specs.Ticks.{share_of}
use Rattle.limit_tree.specs.Sharing.{sum_below}

pub times_more : (r l : ℕ) → (r + 1) * l ≡ r * l + l
times_more r l = omega arith

-- what all ticks before this one let through
abbrev before : ℕ → ℕ → ℕ
before l t = t / 10 * l + t % 10 * l / 10

tenth : (l r k q p : ℕ) → k ≡ r + 1 → p ≡ q → (r + 1) * l / 10 - r * l / 10 + (q * l + r * l / 10) ≡ p * l + k * l / 10
tenth l r k q p e f = subst (λ (x : ℕ). (r + 1) * l / 10 - r * l / 10 + (q * l + r * l / 10) ≡ p * l + x * l / 10) (sym e)
    (subst (λ (y : ℕ). (r + 1) * l / 10 - r * l / 10 + (q * l + r * l / 10) ≡ y * l + (r + 1) * l / 10) (sym f) (omega (arith, times_more r l)))

last_tenth : (l r k q p : ℕ) → r ≡ 9 → k ≡ 0 → p ≡ q + 1 → (r + 1) * l / 10 - r * l / 10 + (q * l + r * l / 10) ≡ p * l + k * l / 10
last_tenth l r k q p e f g = subst (λ (x : ℕ). (x + 1) * l / 10 - x * l / 10 + (q * l + x * l / 10) ≡ p * l + k * l / 10) (sym e)
    (subst (λ (x : ℕ). (9 + 1) * l / 10 - 9 * l / 10 + (q * l + 9 * l / 10) ≡ p * l + x * l / 10) (sym f)
    (subst (λ (y : ℕ). (9 + 1) * l / 10 - 9 * l / 10 + (q * l + 9 * l / 10) ≡ y * l + 0 * l / 10) (sym g) (omega (arith, times_more q l))))

one_tick : (l t : ℕ) → share_of l t + before l t ≡ before l (t + 1)
one_tick l t = elim (cases_lt (t % 10) 9) [
  | inl h ↦ tenth l (t % 10) ((t + 1) % 10) (t / 10) ((t + 1) / 10) (omega arith) (omega arith)
  | inr h ↦ last_tenth l (t % 10) ((t + 1) % 10) (t / 10) ((t + 1) / 10) (omega arith) (omega arith) (omega arith)
]

ticks : (l t n : ℕ) → sum_below n (λ j. share_of l (t + j)) + before l t ≡ before l (t + n)
ticks l t zero = let e : before l t ≡ before l (t + 0) = ap (before l) (let f : t ≡ t + 0 = omega arith in f) in omega arith
ticks l t (suc n) =
    let e : before l (t + n + 1) ≡ before l (t + suc n) = ap (before l) (let f : t + n + 1 ≡ t + suc n = omega arith in f) in
    omega (arith, ticks l t n, one_tick l (t + n))

second : (l t : ℕ) → before l (t + 10) ≡ before l t + l
second l t =
    let q : (t + 10) / 10 ≡ t / 10 + 1 = omega arith in
    let r : (t + 10) % 10 ≡ t % 10 = omega arith in
    ap (λ (x : ℕ). x * l + (t + 10) % 10 * l / 10) q ∙ ap (λ (y : ℕ). (t / 10 + 1) * l + y * l / 10) r ∙ omega (arith, times_more (t / 10) l)

pub ten_ticks : (l t : ℕ) → sum_below 10 (λ j. share_of l (t + j)) ≡ l
ten_ticks l t =
    let all : sum_below 10 (λ j. share_of l (t + j)) + before l t ≡ before l (t + 10) = ticks l t 10 in
    omega (arith, second l t)
