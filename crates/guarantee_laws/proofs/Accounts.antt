-- The account of a guarantee over rounds.
use Rattle.std.proofs.Common.{◌≡◌, ℕ, ◌+◌, ◌-◌, ◌*◌, ◌/◌, ◌≤◌, true, false, cond, List, [], ◌∷◌, inl, inr, sym, ap, ◌∙◌, subst, arith}
use Rattle.std.specs.Prelude.{nat_eq, nat_le, min, max}
use Rattle.std.proofs.lemmas.Bool.{cases_lt, cases_eq, cond-true, cond-false, lt-leb, le-leb, ne_eqb}
use Rattle.std.proofs.lemmas.List.Sums.{sum_by-cons}
use Rattle.std.proofs.Math.Nat.{mul-le-mul_left}
use Rattle.line_rates.specs.Rates.{Rates}
use Rattle.round_pace.specs.Earned.{tick_of, begun_in, carried}
use Rattle.round_pace.specs.FloorsFit.{ticks_since, owed_in, owed_after}
use Rattle.round_pace.specs.Histories.{Held, after, after_all, AreHeld, rates_of, RatesStay, TicksBegin}
use Rattle.round_pace.specs.OverTime.{owed_at, owed_uncut}
use Rattle.round_pace.specs.Paced.{Paced}
use Rattle.round_pace.specs.Stretches.{ChangedRates}
use Rattle.guarantee_laws.specs.Account.{ticks_from, cut_at, cut_in, granted_in, beyond_in, GuaranteesAreAccounted}
use Rattle.guarantee_laws.specs.Reached.{IsReached, AreIn}
use Rattle.guarantee_laws.specs.SessionRounds.{SessionWay, guarantee, owed, granted_to, most_granted, granted_beyond}
use Rattle.guarantee_laws.proofs.Debts.{debt_after}
use Rattle.guarantee_laws.proofs.Reaching.{reached_next, rates_reached}

pub tick_in : (now second : ℕ) → now / 1000000 ≡ second → tick_of now / 500 ≡ second
tick_in now second e = omega (arith, e)

pub parts_of : (f a b : ℕ) → f * (a + b) ≡ f * a + f * b
parts_of f a b = omega arith

pub less : (f a b : ℕ) → a ≤ b → f * a ≤ f * b
less f a b h = mul-le-mul_left f h

-- one round, by numbers: m ticks had begun at first, x was granted or cut before
module _ (second floor m : ℕ) (early : 500 * second ≤ m) where
  abbrev cut : ℕ → ℕ → ℕ → ℕ
  cut owed begun tick = cond (nat_le begun tick) (owed_uncut floor owed begun tick - floor * 50) 0

  refilled : (owed begun tick x : ℕ) → tick / 500 ≡ second → floor * (begun - m) ≤ owed + x → floor * (tick + 1 - m) ≤ owed_uncut floor owed begun tick + x
  refilled owed begun tick x among covers = elim (cases_eq (begun_in begun tick) 0) [
    | inl none ↦
        let e : tick + 1 - m ≤ ticks_since begun tick = omega (arith, none, among, early) in
        first (floor * (tick + 1 - m)) (floor * ticks_since begun tick) (carried owed (begun_in begun tick)) x (less floor (tick + 1 - m) (ticks_since begun tick) e)
    | inr some ↦
        let all : carried owed (begun_in begun tick) ≡ owed = cond-false (nat_eq (begun_in begun tick) 0) 0 owed (ne_eqb (begun_in begun tick) 0 some) in
        let e : tick + 1 - m ≤ begun - m + ticks_since begun tick = omega (arith, some, among) in
        more (floor * (tick + 1 - m)) (floor * (begun - m + ticks_since begun tick)) (floor * (begun - m)) (floor * ticks_since begun tick) (carried owed (begun_in begun tick)) owed x
        (less floor (tick + 1 - m) (begun - m + ticks_since begun tick) e) (parts_of floor (begun - m) (ticks_since begun tick)) all covers
  ]
    where
      first : (a y c x : ℕ) → a ≤ y → a ≤ c + y + x
      first a y c x h = omega (arith, h)

      more : (a b y z c o x : ℕ) → a ≤ b → b ≡ y + z → c ≡ o → y ≤ o + x → a ≤ c + z + x
      more a b y z c o x h e f g = omega (arith, h, e, f, g)

  offered : (owed begun tick x : ℕ) → tick / 500 ≡ second → begun ≤ tick + 1 → floor * (begun - m) ≤ owed + x → floor * (tick + 1 - m) ≤ owed_at floor owed begun tick + cut owed begun tick + x
  offered owed begun tick x among near covers = elim (cases_lt tick begun) [
    | inl later ↦
        let b : nat_le begun tick ≡ false = lt-leb begun tick later in
        let e : begun ≡ tick + 1 = omega (arith, later, near) in
        stays (floor * (tick + 1 - m)) (floor * (begun - m)) owed (owed_at floor owed begun tick) (cut owed begun tick) x (ap (λ (k : ℕ). floor * (k - m)) (sym e))
        (cond-false (nat_le begun tick) (owed_in floor owed begun tick) owed b) covers
    | inr new ↦
        let b : nat_le begun tick ≡ true = le-leb begun tick new in
        both (floor * (tick + 1 - m)) (owed_uncut floor owed begun tick) (floor * 50) (owed_at floor owed begun tick) (cut owed begun tick) x
        (refilled owed begun tick x among covers)
        (cond-true (nat_le begun tick) (owed_in floor owed begun tick) owed b)
        (cond-true (nat_le begun tick) (owed_uncut floor owed begun tick - floor * 50) 0 b)
  ]
    where
      stays : (a y o d k x : ℕ) → a ≡ y → d ≡ o → y ≤ o + x → a ≤ d + k + x
      stays a y o d k x e f h = omega (arith, e, f, h)

      both : (a u t d k x : ℕ) → a ≤ u + x → d ≡ min u t → k ≡ u - t → a ≤ d + k + x
      both a u t d k x h e f = omega (arith, h, e, f)

  round : (owed begun tick x taken : ℕ) → tick / 500 ≡ second → begun ≤ tick + 1 → floor * (begun - m) ≤ owed + x
      → floor * (tick + 1 - m) ≤ owed_after taken (owed_at floor owed begun tick) + (x + 500 * taken + cut owed begun tick)
  round owed begun tick x taken among near covers = plain (floor * (tick + 1 - m)) (owed_at floor owed begun tick) (cut owed begun tick) x taken (offered owed begun tick x among near covers)
    where
      plain : (a d k x t : ℕ) → a ≤ d + k + x → a ≤ d - t * 500 + (x + 500 * t + k)
      plain a d k x t h = omega (arith, h)

module _ (begin : TicksBegin) (stay : RatesStay) (changed : ChangedRates) (rates : Rates) (s : SessionWay) (second : ℕ) where
  over : (m : ℕ) → 500 * second ≤ m → (p : Paced) (hs : List Held) (x : ℕ) → IsReached rates p → AreHeld p hs → AreIn second hs → guarantee rates s * (p.begun - m) ≤ owed s p + x
      → guarantee rates s * ((after_all p hs).begun - m) ≤ 500 * (granted_in s hs + beyond_in s hs) + owed s (after_all p hs) + cut_in rates s p hs + x
  over m early p [] x at held among covers = plain (guarantee rates s * (p.begun - m)) (owed s p) x covers
    where
      plain : (a o x : ℕ) → a ≤ o + x → a ≤ 500 * (0 + 0) + o + 0 + x
      plain a o x h = omega (arith, h)
  over m early p (h ∷ hs) x at held among covers =
      let are : rates_of p ≡ rates = rates_reached changed stay rates p at in
      let b : (after p h).begun ≡ tick_of h.now + 1 = begin p h held.0.later in
      let d : owed s (after p h) ≡ owed_after (most_granted s h) (owed_at (guarantee rates s) (owed s p) p.begun (tick_of h.now)) = debt_after rates s.way s.user p h are in
      let now : guarantee rates s * (tick_of h.now + 1 - m) ≤ owed_after (most_granted s h) (owed_at (guarantee rates s) (owed s p) p.begun (tick_of h.now)) + (x + 500 * most_granted s h + cut_at rates s p h) =
      round second (guarantee rates s) m early (owed s p) p.begun (tick_of h.now) x (most_granted s h) (tick_in h.now second among.0) held.0.later covers in
      let next : guarantee rates s * ((after p h).begun - m) ≤ owed s (after p h) + (x + 500 * most_granted s h + cut_at rates s p h) =
      subst (λ (z : ℕ × ℕ). guarantee rates s * (z.0 - m) ≤ z.1 + (x + 500 * most_granted s h + cut_at rates s p h)) (λ i. (sym b i, sym d i)) now in
      plain (guarantee rates s * ((after_all p (h ∷ hs)).begun - m)) (granted_to s h) (most_granted s h) (granted_in s hs) (beyond_in s hs) (granted_in s (h ∷ hs)) (beyond_in s (h ∷ hs)) (owed s (after_all p (h ∷ hs))) (cut_in rates s (after p h) hs) (cut_at rates s p h) x
      (sum_by-cons (granted_to s) h hs) (sum_by-cons (granted_beyond s) h hs)
      (over m early (after p h) hs (x + 500 * most_granted s h + cut_at rates s p h) (reached_next rates p h at held.0) held.1 among.1 next)
    where
      plain : (a g n gs bs gg bb o c k x : ℕ) → gg ≡ g + gs → bb ≡ (n - g) + bs → a ≤ 500 * (gs + bs) + o + c + (x + 500 * n + k) → a ≤ 500 * (gg + bb) + o + (k + c) + x
      plain a g n gs bs gg bb o c k x e f h = omega (arith, e, f, h)

  account : (p : Paced) (hs : List Held) → IsReached rates p → AreHeld p hs → AreIn second hs
      → guarantee rates s * ticks_from second p.begun (after_all p hs).begun ≤ 500 * (granted_in s hs + beyond_in s hs) + owed s (after_all p hs) + cut_in rates s p hs
  account p hs at held among =
      none (guarantee rates s * ticks_from second p.begun (after_all p hs).begun) (500 * (granted_in s hs + beyond_in s hs) + owed s (after_all p hs) + cut_in rates s p hs)
      (over (max p.begun (500 * second)) (early p.begun (500 * second)) p hs 0 at held among (start (guarantee rates s) (p.begun - max p.begun (500 * second)) (owed s p) (zero p.begun (500 * second))))
    where
      early : (b t : ℕ) → t ≤ max b t
      early b t = omega arith

      zero : (b t : ℕ) → b - max b t ≡ 0
      zero b t = omega arith

      start : (f k o : ℕ) → k ≡ 0 → f * k ≤ o + 0
      start f k o e = plain (f * k) o (ap (λ (x : ℕ). f * x) e ∙ times f)
        where
          times : (f : ℕ) → f * 0 ≡ 0
          times f = omega arith

          plain : (x o : ℕ) → x ≡ 0 → x ≤ o + 0
          plain x o h = omega (arith, h)

      none : (a b : ℕ) → a ≤ b + 0 → a ≤ b
      none a b h = omega (arith, h)

pub accounted : TicksBegin → RatesStay → ChangedRates → GuaranteesAreAccounted
accounted begin stay changed rates s second p hs at held among = account begin stay changed rates s second p hs at held among
