-- Rounds that carry their rates: what they grant in a second in which the rate changes.
use Rattle.std.proofs.Common.{◌≡◌, ◌≢◌, ◌⊎◌, ℕ, ◌+◌, ◌-◌, ◌*◌, ◌/◌, ◌%◌, ◌<◌, ◌≤◌, Bool, true, false, cond, List, [], ◌∷◌, map, inl, inr, refl, ap, ◌∙◌, subst, arith}
use Rattle.std.specs.Prelude.{nat_eq}
use Rattle.std.proofs.lemmas.Bool.{cases_lt, cond-true, cond-false, false_from_ne_true, eqb-true, eq-eqb}
use Rattle.std.proofs.lemmas.List.Sums.{sum_by-cons}
use Rattle.std.proofs.Math.Nat.{mul-le-mul_right, mul-le-mul_left}
use Rattle.round_pace.specs.Earned.{tick_of, share, uncut, refilled, offered}
use Rattle.round_pace.specs.Rounds.{Round, begun_after, granted_where, is_in}
use Rattle.round_pace.specs.Stretches.{RatedRound, round_of, rates_where, changes_from, changes, AreWithin}
use Rattle.round_pace.proofs.Kept.{part, IsBefore, part_none, nothing, second_before, second_from}
use Rattle.round_pace.proofs.Offers.{offered_left, offered_new, offered-first, offered-mono, uncut_later, refilled-le}

-- Rounds from a state with at most `left` octets and `begun` ticks: what a round grants and what is
-- left after it are within what it is offered under its rate.
abbrev pub AreRated : ℕ → ℕ → List RatedRound → Type 0
AreRated left begun [] = Unit {0}
AreRated left begun (r ∷ rs) = (begun ≤ begun_after r.round) × (next : ℕ)
    × (r.rate ≢ 0 → r.round.granted + next ≤ offered r.rate left begun (tick_of r.round.now))
    × AreRated next (begun_after r.round) rs

abbrev pub total : (Round → Bool) → List RatedRound → ℕ
total test rs = granted_where test (map round_of rs)

pub rated_from : (left more begun : ℕ) (rs : List RatedRound) → left ≤ more → AreRated left begun rs → AreRated more begun rs
rated_from left more begun [] h are = tt
rated_from left more begun (r ∷ rs) h are = (
  are.0,
  are.1,
  (λ some. through (r.round.granted + are.1) (offered r.rate left begun (tick_of r.round.now)) (offered r.rate more begun (tick_of r.round.now)) (are.2 some) (offered-mono r.rate left more begun (tick_of r.round.now) h)),
  are.3,
)
  where
    through : (a b c : ℕ) → a ≤ b → b ≤ c → a ≤ c
    through a b c h k = omega arith

-- rounds in later ticks than a test passes
total_none : (test : Round → Bool) (b : ℕ) → IsBefore test b → (left begun : ℕ) (rs : List RatedRound) → AreRated left begun rs → b < begun → total test rs ≡ 0
total_none test b h left begun [] are late = refl
total_none test b h left begun (r ∷ rs) are late =
    let near : begun ≤ tick_of r.round.now + 1 = are.0 in
    let first : b ≤ tick_of r.round.now = omega arith in
    let rest : b < begun_after r.round = omega arith in
    nothing (total test (r ∷ rs)) (part test r.round) (total test rs) (sum_by-cons (part test) r.round (map round_of rs)) (part_none test b h r.round first) (total_none test b h are.1 (begun_after r.round) rs are.3 rest)

-- what a round of a second is offered, by the ticks of the second that have begun
earn : (l left begun s t : ℕ) → t / 500 ≡ s → 500 * s < begun → begun ≤ t + 1 → offered l left begun t + share l (begun - 500 * s) ≤ left + share l (t + 1 - 500 * s)
earn l left begun s t among late near = elim (cases_lt t begun) [
  | inl same ↦
      let e : begun - 500 * s ≡ t + 1 - 500 * s = omega arith in
      same_sum (offered l left begun t) left (share l (begun - 500 * s)) (share l (t + 1 - 500 * s)) (offered_left l left begun t same) (ap (share l) e)
  | inr new ↦
      let edge : t / 500 * 500 < begun = omega arith in
      let e : begun - t / 500 * 500 ≡ begun - 500 * s = omega arith in
      let f : t % 500 + 1 ≡ t + 1 - 500 * s = omega arith in
      more (offered l left begun t) (refilled l left begun t) (uncut l left begun t) left (share l (begun - t / 500 * 500)) (share l (begun - 500 * s)) (share l (t % 500 + 1)) (share l (t + 1 - 500 * s))
      (offered_new l left begun t new) (refilled-le l left begun t) (uncut_later l left begun t edge new) (ap (share l) e) (ap (share l) f)
]
  where
    same_sum : (o left x y : ℕ) → o ≡ left → x ≡ y → o + x ≤ left + y
    same_sum o left x y a b = omega arith

    more : (o f u left lo x hi y : ℕ) → o ≡ f → f ≤ u → u + lo ≡ left + hi → lo ≡ x → hi ≡ y → o + x ≤ left + y
    more o f u left lo x hi y a b c d e = omega arith

earn-first : (l left begun s t : ℕ) → t / 500 ≡ s → (begun ≤ 500 * s) ⊎ (left ≡ 0) → begun ≤ t + 1 → offered l left begun t ≤ share l (t + 1 - 500 * s)
earn-first l left begun s t among start near = elim (cases_lt (500 * s) begun) [
  | inl late ↦ empty start late (earn l left begun s t among late near)
  | inr early ↦
      let edge : begun ≤ t / 500 * 500 = omega arith in
      let f : t % 500 + 1 ≡ t + 1 - 500 * s = omega arith in
      subst (λ (k : ℕ). offered l left begun t ≤ share l k) f (offered-first l left begun t edge)
]
  where
    empty : (begun ≤ 500 * s) ⊎ (left ≡ 0) → 500 * s < begun → offered l left begun t + share l (begun - 500 * s) ≤ left + share l (t + 1 - 500 * s) → offered l left begun t ≤ share l (t + 1 - 500 * s)
    empty (inl early) late h = absurd (omega (arith, early, late))
    empty (inr none) late h = plain (offered l left begun t) (share l (begun - 500 * s)) left (share l (t + 1 - 500 * s)) h none
      where
        plain : (o x left y : ℕ) → o + x ≤ left + y → left ≡ 0 → o ≤ y
        plain o x left y a b = omega arith

-- In a second, with `count` changes so far: after k of its ticks, what was granted and what is left
-- are within the bound's earnings and an octet for each change, but for what the last rate's own
-- earnings are above whole octets.
module _ (bound : ℕ) where
  abbrev Holds : ℕ → ℕ → ℕ → ℕ → ℕ → Type 0
  Holds sum left rate k count = 500 * (sum + left) + k * rate ≤ k * bound + 500 * count + 500 * share rate k

  begins : (granted next rate k o : ℕ) → rate ≤ bound → granted + next ≤ o → o ≤ share rate k → Holds granted next rate k 0
  begins granted next rate k o within kept early =
      plain granted next o (k * rate) (k * bound) kept early (mul-le-mul_left k within)
    where
      plain : (g n o a b : ℕ) → g + n ≤ o → o ≤ a / 500 → a ≤ b → 500 * (g + n) + a ≤ b + 500 * 0 + 500 * (a / 500)
      plain g n o a b x y z = omega arith

  grows : (rate k more : ℕ) → rate ≤ bound → k ≤ more → more * rate + k * bound ≤ k * rate + more * bound
  grows rate k more within up =
      let step : (more - k) * rate ≤ (more - k) * bound = mul-le-mul_left (more - k) within in
      let e : more ≡ k + (more - k) = omega arith in
      let a : more * rate ≡ k * rate + (more - k) * rate = ap (λ (x : ℕ). x * rate) e ∙ both k (more - k) rate in
      let b : more * bound ≡ k * bound + (more - k) * bound = ap (λ (x : ℕ). x * bound) e ∙ both k (more - k) bound in
      plain (k * rate) (k * bound) ((more - k) * rate) ((more - k) * bound) (more * rate) (more * bound) step a b
    where
      both : (x y z : ℕ) → (x + y) * z ≡ x * z + y * z
      both x y z = omega arith

      plain : (a b c d x y : ℕ) → c ≤ d → x ≡ a + c → y ≡ b + d → x + b ≤ a + y
      plain a b c d x y h e f = omega arith

  goes : (sum left rate k more count o granted next : ℕ) → rate ≤ bound → k ≤ more → o + share rate k ≤ left + share rate more → granted + next ≤ o → Holds sum left rate k count → Holds (sum + granted) next rate more count
  goes sum left rate k more count o granted next within up earns kept holds =
      plain sum left (k * rate) (k * bound) (more * rate) (more * bound) count o granted next holds earns kept (grows rate k more within up)
    where
      plain : (s l a b x y c o g n : ℕ) → 500 * (s + l) + a ≤ b + 500 * c + 500 * (a / 500) → o + a / 500 ≤ l + x / 500 → g + n ≤ o → x + b ≤ a + y → 500 * (s + g + n) + x ≤ y + 500 * c + 500 * (x / 500)
      plain s l a b x y c o g n h e f k = omega arith

  turns : (sum left rate new k count : ℕ) → Holds sum left rate k count → Holds sum left new k (count + cond (nat_eq rate new) 0 1)
  turns sum left rate new k count holds = go (nat_eq rate new) refl
    where
      plain : (s l a b x c : ℕ) → 500 * (s + l) + a ≤ b + 500 * c + 500 * (a / 500) → 500 * (s + l) + x ≤ b + 500 * (c + 1) + 500 * (x / 500)
      plain s l a b x c h = omega arith

      none : (c : ℕ) → c ≡ c + 0
      none c = omega arith

      go : (b : Bool) → nat_eq rate new ≡ b → Holds sum left new k (count + cond b 0 1)
      go true e = subst (λ (c : ℕ). Holds sum left new k c) (none count) (subst (λ (x : ℕ). Holds sum left x k count) (eqb-true rate new e) holds)
      go false e = plain sum left (k * rate) (k * bound) (k * new) count holds

  ends : (sum left rate k count : ℕ) → k ≤ 500 → Holds sum left rate k count → sum ≤ bound + count
  ends sum left rate k count few holds = plain sum left (k * rate) (k * bound) count holds (mul-le-mul_right bound few)
    where
      plain : (s l a b c : ℕ) → 500 * (s + l) + a ≤ b + 500 * c + 500 * (a / 500) → b ≤ 500 * bound → s ≤ bound + c
      plain s l a b c h e = omega arith

  -- a round that passes the test, and one that does not
  passes : (test : Round → Bool) (r : RatedRound) (rs : List RatedRound) → test r.round ≡ true → rates_where test (r ∷ rs) ≡ r.rate ∷ rates_where test rs
  passes test r rs e = cond-true (test r.round) (r.rate ∷ rates_where test rs) (rates_where test rs) e

  misses : (test : Round → Bool) (r : RatedRound) (rs : List RatedRound) → test r.round ≡ false → rates_where test (r ∷ rs) ≡ rates_where test rs
  misses test r rs e = cond-false (test r.round) (r.rate ∷ rates_where test rs) (rates_where test rs) e

  module _ (s : ℕ) where
    inside : (now : ℕ) → 500 * s ≤ tick_of now → tick_of now < 500 * s + 500 → nat_eq (now / 1000000) s ≡ true
    inside now from to = eq-eqb (now / 1000000) s (omega arith)

    over : (sum x y z : ℕ) → sum ≤ x → y ≡ 0 → sum + y ≤ x + z
    over sum x y z a b = omega arith

    -- the rounds after the first of the second
    later : (sum left rate begun count : ℕ) (rs : List RatedRound) → 500 * s < begun → begun ≤ 500 * s + 500 → Holds sum left rate (begun - 500 * s) count → AreRated left begun rs → AreWithin bound (rates_where (is_in s) rs)
        → sum + total (is_in s) rs ≤ bound + count + changes_from rate (rates_where (is_in s) rs)
    later sum left rate begun count [] late early holds are within =
        over sum (bound + count) 0 0 (ends sum left rate (begun - 500 * s) count (omega arith) holds) refl
    later sum left rate begun count (r ∷ rs) late early holds are within = elim (cases_lt (tick_of r.round.now) (500 * s + 500)) [
      | inr outside ↦
          let past : 500 * s + 500 < begun_after r.round = omega arith in
          over sum (bound + count) (total (is_in s) (r ∷ rs)) (changes_from rate (rates_where (is_in s) (r ∷ rs))) (ends sum left rate (begun - 500 * s) count (omega arith) holds)
          (nothing (total (is_in s) (r ∷ rs)) (part (is_in s) r.round) (total (is_in s) rs) (sum_by-cons (part (is_in s)) r.round (map round_of rs)) (part_none (is_in s) (500 * s + 500) (second_before s) r.round outside)
          (total_none (is_in s) (500 * s + 500) (second_before s) are.1 (begun_after r.round) rs are.3 past))
      | inl to ↦
          let near : begun ≤ tick_of r.round.now + 1 = are.0 in
          let from : 500 * s ≤ tick_of r.round.now = omega arith in
          let among : tick_of r.round.now / 500 ≡ s = omega arith in
          let yes : is_in s r.round ≡ true = inside r.round.now from to in
          let all : AreWithin bound (r.rate ∷ rates_where (is_in s) rs) = subst (AreWithin bound) (passes (is_in s) r rs yes) within in
          let up : begun - 500 * s ≤ begun_after r.round - 500 * s = omega arith in
          let turned : Holds sum left r.rate (begun - 500 * s) (count + cond (nat_eq rate r.rate) 0 1) = turns sum left rate r.rate (begun - 500 * s) count holds in
          let gone : Holds (sum + r.round.granted) are.1 r.rate (begun_after r.round - 500 * s) (count + cond (nat_eq rate r.rate) 0 1) =
          goes sum left r.rate (begun - 500 * s) (begun_after r.round - 500 * s) (count + cond (nat_eq rate r.rate) 0 1) (offered r.rate left begun (tick_of r.round.now)) r.round.granted are.1 all.1 up
          (earn r.rate left begun s (tick_of r.round.now) among late near) (are.2 all.0) turned in
          let new : 500 * s < begun_after r.round = omega arith in
          let soon : begun_after r.round ≤ 500 * s + 500 = omega arith in
          step sum (total (is_in s) (r ∷ rs)) (part (is_in s) r.round) r.round.granted (total (is_in s) rs) bound count (cond (nat_eq rate r.rate) 0 1) (changes_from r.rate (rates_where (is_in s) rs)) (changes_from rate (rates_where (is_in s) (r ∷ rs)))
          (sum_by-cons (part (is_in s)) r.round (map round_of rs)) (cond-true (is_in s r.round) r.round.granted 0 yes) (ap (changes_from rate) (passes (is_in s) r rs yes))
          (later (sum + r.round.granted) are.1 r.rate (begun_after r.round) (count + cond (nat_eq rate r.rate) 0 1) rs new soon gone are.3 all.2)
    ]
      where
        step : (sum t p g rest b c d more all : ℕ) → t ≡ p + rest → p ≡ g → all ≡ d + more → sum + g + rest ≤ b + (c + d) + more → sum + t ≤ b + c + all
        step sum t p g rest b c d more all x y z h = omega arith

    pub fresh : (left begun : ℕ) (rs : List RatedRound) → (begun ≤ 500 * s) ⊎ (left ≡ 0) → AreRated left begun rs → AreWithin bound (rates_where (is_in s) rs)
        → total (is_in s) rs ≤ bound + changes (rates_where (is_in s) rs)
    fresh left begun [] start are within = omega arith
    fresh left begun (r ∷ rs) start are within = elim (cases_lt (tick_of r.round.now) (500 * s)) [
      | inl earlier ↦
          let no : is_in s r.round ≡ false = false_from_ne_true (is_in s r.round) (λ e. let k : 500 * s ≤ tick_of r.round.now = second_from s r.round e in omega arith) in
          let soon : begun_after r.round ≤ 500 * s = omega arith in
          skip (total (is_in s) (r ∷ rs)) (part (is_in s) r.round) (total (is_in s) rs) bound (changes (rates_where (is_in s) rs)) (changes (rates_where (is_in s) (r ∷ rs)))
          (sum_by-cons (part (is_in s)) r.round (map round_of rs)) (cond-false (is_in s r.round) r.round.granted 0 no) (ap changes (misses (is_in s) r rs no))
          (fresh are.1 (begun_after r.round) rs (inl soon) are.3 (subst (AreWithin bound) (misses (is_in s) r rs no) within))
      | inr from ↦ elim (cases_lt (tick_of r.round.now) (500 * s + 500)) [
        | inl to ↦
            let among : tick_of r.round.now / 500 ≡ s = omega arith in
            let yes : is_in s r.round ≡ true = inside r.round.now from to in
            let all : AreWithin bound (r.rate ∷ rates_where (is_in s) rs) = subst (AreWithin bound) (passes (is_in s) r rs yes) within in
            let held : Holds r.round.granted are.1 r.rate (begun_after r.round - 500 * s) 0 =
            begins r.round.granted are.1 r.rate (begun_after r.round - 500 * s) (offered r.rate left begun (tick_of r.round.now)) all.1 (are.2 all.0) (earn-first r.rate left begun s (tick_of r.round.now) among start are.0) in
            let new : 500 * s < begun_after r.round = omega arith in
            let soon : begun_after r.round ≤ 500 * s + 500 = omega arith in
            first (total (is_in s) (r ∷ rs)) (part (is_in s) r.round) r.round.granted (total (is_in s) rs) bound (changes_from r.rate (rates_where (is_in s) rs)) (changes (rates_where (is_in s) (r ∷ rs)))
            (sum_by-cons (part (is_in s)) r.round (map round_of rs)) (cond-true (is_in s r.round) r.round.granted 0 yes) (ap changes (passes (is_in s) r rs yes))
            (later r.round.granted are.1 r.rate (begun_after r.round) 0 rs new soon held are.3 all.2)
        | inr outside ↦
            let past : 500 * s + 500 < begun_after r.round = omega arith in
            none (total (is_in s) (r ∷ rs)) (bound + changes (rates_where (is_in s) (r ∷ rs)))
            (nothing (total (is_in s) (r ∷ rs)) (part (is_in s) r.round) (total (is_in s) rs) (sum_by-cons (part (is_in s)) r.round (map round_of rs)) (part_none (is_in s) (500 * s + 500) (second_before s) r.round outside)
            (total_none (is_in s) (500 * s + 500) (second_before s) are.1 (begun_after r.round) rs are.3 past))
      ]
    ]
      where
        skip : (t p rest b c all : ℕ) → t ≡ p + rest → p ≡ 0 → all ≡ c → rest ≤ b + c → t ≤ b + all
        skip t p rest b c all x y z h = omega arith

        first : (t p g rest b c all : ℕ) → t ≡ p + rest → p ≡ g → all ≡ c → g + rest ≤ b + 0 + c → t ≤ b + all
        first t p g rest b c all x y z h = omega arith

        none : (t b : ℕ) → t ≡ 0 → t ≤ b
        none t b e = omega arith
