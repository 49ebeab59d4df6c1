-- The digits of small numbers, one by one, and what the holes of a format write.
use Rattle.std.proofs.Common.{◌≡◌, ℕ, ◌+◌, ◌-◌, ◌/◌, ◌%◌, ◌^◌, ◌<◌, ◌≤◌, [], ◌∷◌, ◌++◌, refl, ap, ◌∙◌, inl, inr, arith}
use Rattle.std.proofs.lemmas.Bool.{cases_lt}
use Rattle.std.proofs.lemmas.Fmt.{decimal_digit, decimal_step}
use Rattle.std.specs.Fmt.{decimal, format_spec, styled_decimal}
use Rattle.std.proofs.Padding.{styled_decimal_is, padded_integral_zeros, padded_integral_right}
use Rattle.ftp_reply.specs.Numbers.{spaced, zeroed}

pub decimal_two : (n : ℕ) → 10 ≤ n → n < 100 → decimal n ≡ (48 + n / 10) ∷ (48 + n % 10) ∷ []
decimal_two n low high =
    decimal_step n low (omega arith) ∙ ap (λ ds. ds ++ (48 + n % 10) ∷ []) (decimal_digit (n / 10) (omega arith))

pub decimal_three : (n : ℕ) → 100 ≤ n → n < 1000
    → decimal n ≡ (48 + n / 100) ∷ (48 + n / 10 % 10) ∷ (48 + n % 10) ∷ []
decimal_three n low high =
    let hundreds : n / 10 / 10 ≡ n / 100 = omega arith in
    rw (← hundreds)
    (decimal_step n (omega arith) (omega arith) ∙ ap (λ ds. ds ++ (48 + n % 10) ∷ []) (decimal_two (n / 10) (omega arith) (omega arith)))

pub decimal_four : (n : ℕ) → 1000 ≤ n → n < 10000
    → decimal n ≡ (48 + n / 1000) ∷ (48 + n / 100 % 10) ∷ (48 + n / 10 % 10) ∷ (48 + n % 10) ∷ []
decimal_four n low high =
    let thousands : n / 10 / 100 ≡ n / 1000 = omega arith in
    let hundreds : n / 10 / 10 ≡ n / 100 = omega arith in
    rw (← thousands, ← hundreds)
    (decimal_step n (omega arith) (omega arith) ∙ ap (λ ds. ds ++ (48 + n % 10) ∷ []) (decimal_three (n / 10) (omega arith) (omega arith)))

pub zeroed_two : (n : ℕ) → n ≤ 99 → (48 + n / 10) ∷ (48 + n % 10) ∷ [] ≡ zeroed 2 n
zeroed_two n fits = elim (cases_lt n 10) [
  | inl small ↦
      let tens : n / 10 ≡ 0 = omega arith in
      let ones : n % 10 ≡ n = omega arith in
      rw (decimal_digit n small, tens, ones) refl
  | inr large ↦ rw (decimal_two n large (omega arith)) refl
]

pub zeroed_four : (n : ℕ) → n ≤ 9999
    → (48 + n / 1000) ∷ (48 + n / 100 % 10) ∷ (48 + n / 10 % 10) ∷ (48 + n % 10) ∷ [] ≡ zeroed 4 n
zeroed_four n fits = elim (cases_lt n 10) [
  | inl small ↦
      let thousands : n / 1000 ≡ 0 = omega arith in
      let hundreds : n / 100 % 10 ≡ 0 = omega arith in
      let tens : n / 10 % 10 ≡ 0 = omega arith in
      let ones : n % 10 ≡ n = omega arith in
      rw (decimal_digit n small, thousands, hundreds, tens, ones) refl
  | inr two ↦ elim (cases_lt n 100) [
    | inl small ↦
        let thousands : n / 1000 ≡ 0 = omega arith in
        let hundreds : n / 100 % 10 ≡ 0 = omega arith in
        let tens : n / 10 % 10 ≡ n / 10 = omega arith in
        rw (decimal_two n two small, thousands, hundreds, tens) refl
    | inr three ↦ elim (cases_lt n 1000) [
      | inl small ↦
          let thousands : n / 1000 ≡ 0 = omega arith in
          let hundreds : n / 100 % 10 ≡ n / 100 = omega arith in
          rw (decimal_three n three small, thousands, hundreds) refl
      | inr four ↦ rw (decimal_four n four (omega arith)) refl
    ]
  ]
]

-- `{n:>places}`
pub hole_spaced : (places n : ℕ) → styled_decimal (format_spec 32 3 0 places (2 ^ 64 - 1)) n ≡ spaced places n
hole_spaced places n =
    let s = format_spec 32 3 0 places (2 ^ 64 - 1) in
    styled_decimal_is s n ∙ padded_integral_right s (decimal n) refl refl (omega arith) (omega arith) (omega arith)

-- `{n:0places}`
pub hole_zeroed : (places n : ℕ) → styled_decimal (format_spec 32 0 4 places (2 ^ 64 - 1)) n ≡ zeroed places n
hole_zeroed places n =
    let s = format_spec 32 0 4 places (2 ^ 64 - 1) in
    styled_decimal_is s n ∙ padded_integral_zeros s (decimal n) refl refl
