-- Nothing of a guarantee is cut, if a session asks in time for all that it is owed.
use Rattle.std.proofs.Common.{◌≡◌, ℕ, ◌+◌, ◌-◌, ◌*◌, ◌/◌, ◌≤◌, Bool, true, false, cond, List, [], ◌∷◌, inl, inr, sym, refl, ap, ◌∙◌, subst, arith}
use Rattle.std.specs.Prelude.{nat_eq, nat_le, min}
use Rattle.std.proofs.lemmas.Bool.{cases_eq, cases_lt, cond-true, cond-false, lt-leb, le-leb, leb-true, eq-eqb, ne_eqb}
use Rattle.line_rates.specs.Rates.{Rates}
use Rattle.round_pace.specs.Earned.{tick_of, begun_in, carried}
use Rattle.round_pace.specs.FloorsFit.{ticks_since, owed_in}
use Rattle.round_pace.specs.Given.{RoundsGive}
use Rattle.round_pace.specs.Guaranteed.{NextIsGuaranteed}
use Rattle.round_pace.specs.Histories.{Held, after, IsHeld, AreHeld, rates_of, RatesStay, TicksBegin}
use Rattle.round_pace.specs.OverTime.{owed_at, owed_uncut}
use Rattle.round_pace.specs.Paced.{Paced}
use Rattle.round_pace.specs.Stretches.{ChangedRates}
use Rattle.guarantee_laws.specs.Account.{ticks_from, cut_at, cut_in, asks_for_all, AreInTime, NothingIsCut}
use Rattle.guarantee_laws.specs.Reached.{IsReached, AreIn}
use Rattle.guarantee_laws.specs.SessionRounds.{SessionWay, guarantee, owed, offered_in, handed_in, asks_in, granted_to, most_granted}
use Rattle.guarantee_laws.proofs.Accounts.{tick_in, parts_of, less}
use Rattle.guarantee_laws.proofs.Debts.{debt_offered, debt_after}
use Rattle.guarantee_laws.proofs.Kept.{enough}
use Rattle.guarantee_laws.proofs.OwnSums.{session_most, both_true}
use Rattle.guarantee_laws.proofs.Reaching.{reached_next, rates_reached}

-- one round, by numbers
module _ (second floor last : ℕ) where
  -- no tick of the second has begun, or no more is owed than since some number of ticks had begun
  abbrev Owed : ℕ → ℕ → Type 0
  Owed begun debt = (1 ≤ begun - 500 * second) → debt ≤ 499 + floor * ticks_from second last begun

  uncut : (debt begun tick : ℕ) → tick / 500 ≡ second → begun ≤ tick → last ≤ begun → Owed begun debt → owed_uncut floor debt begun tick ≤ 499 + floor * ticks_from second last (tick + 1)
  uncut debt begun tick among new near owes = elim (cases_eq (begun_in begun tick) 0) [
    | inl none ↦
        let nothing : carried debt (begun_in begun tick) ≡ 0 = cond-true (nat_eq (begun_in begun tick) 0) 0 debt (eq-eqb (begun_in begun tick) 0 none) in
        let e : ticks_since begun tick ≤ ticks_from second last (tick + 1) = omega (arith, none, among, near) in
        first (carried debt (begun_in begun tick)) (floor * ticks_since begun tick) (floor * ticks_from second last (tick + 1)) nothing (less floor (ticks_since begun tick) (ticks_from second last (tick + 1)) e)
    | inr some ↦
        let all : carried debt (begun_in begun tick) ≡ debt = cond-false (nat_eq (begun_in begun tick) 0) 0 debt (ne_eqb (begun_in begun tick) 0 some) in
        let e : ticks_from second last begun + ticks_since begun tick ≤ ticks_from second last (tick + 1) = omega (arith, some, among, near, new) in
        more (carried debt (begun_in begun tick)) debt (floor * ticks_from second last begun) (floor * ticks_since begun tick) (floor * (ticks_from second last begun + ticks_since begun tick)) (floor * ticks_from second last (tick + 1))
        all (owes (omega (arith, some, among))) (parts_of floor (ticks_from second last begun) (ticks_since begun tick)) (less floor (ticks_from second last begun + ticks_since begun tick) (ticks_from second last (tick + 1)) e)
  ]
    where
      first : (c x y : ℕ) → c ≡ 0 → x ≤ y → c + x ≤ 499 + y
      first c x y e h = omega (arith, e, h)

      more : (c d x y z w : ℕ) → c ≡ d → d ≤ 499 + x → z ≡ x + y → z ≤ w → c + y ≤ 499 + w
      more c d x y z w e h f g = omega (arith, e, h, f, g)

  offered : (debt begun tick : ℕ) → tick / 500 ≡ second → begun ≤ tick + 1 → last ≤ begun → Owed begun debt → owed_at floor debt begun tick ≤ 499 + floor * ticks_from second last (tick + 1)
  offered debt begun tick among near before owes = elim (cases_lt tick begun) [
    | inl later ↦
        let e : begun ≡ tick + 1 = omega (arith, later, near) in
        same (owed_at floor debt begun tick) debt (floor * ticks_from second last begun) (floor * ticks_from second last (tick + 1)) (cond-false (nat_le begun tick) (owed_in floor debt begun tick) debt (lt-leb begun tick later))
        (ap (λ (b : ℕ). floor * ticks_from second last b) e) (owes (omega (arith, later, among)))
    | inr new ↦
        within (owed_at floor debt begun tick) (owed_uncut floor debt begun tick) (floor * 50) (floor * ticks_from second last (tick + 1)) (cond-true (nat_le begun tick) (owed_in floor debt begun tick) debt (le-leb begun tick new)) (uncut debt begun tick among new before owes)
  ]
    where
      same : (a d x y : ℕ) → a ≡ d → x ≡ y → d ≤ 499 + x → a ≤ 499 + y
      same a d x y e f h = omega (arith, e, f, h)

      within : (a u m x : ℕ) → a ≡ min u m → u ≤ 499 + x → a ≤ 499 + x
      within a u m x e h = omega (arith, e, h)

  none_cut : (debt begun tick : ℕ) → tick / 500 ≡ second → last ≤ begun → Owed begun debt → floor * ticks_from second last (tick + 1) + 499 ≤ floor * 50 → cond (nat_le begun tick) (owed_uncut floor debt begun tick - floor * 50) 0 ≡ 0
  none_cut debt begun tick among before owes time = elim (cases_lt tick begun) [
    | inl later ↦ cond-false (nat_le begun tick) (owed_uncut floor debt begun tick - floor * 50) 0 (lt-leb begun tick later)
    | inr new ↦
        cond-true (nat_le begun tick) (owed_uncut floor debt begun tick - floor * 50) 0 (le-leb begun tick new)
        ∙ plain (owed_uncut floor debt begun tick) (floor * ticks_from second last (tick + 1)) (floor * 50) (uncut debt begun tick among new before owes) time
  ]
    where
      plain : (u x m : ℕ) → u ≤ 499 + x → x + 499 ≤ m → u - m ≡ 0
      plain u x m h k = omega (arith, h, k)

module _ (begin : TicksBegin) (stay : RatesStay) (changed : ChangedRates) (next : NextIsGuaranteed) (gives : RoundsGive) (rates : Rates) (s : SessionWay) (second : ℕ) where
  -- after a round no more is owed than in it, and less than an octet if all was handed in
  owed_next : (last : ℕ) (p : Paced) (h : Held) → IsReached rates p → IsHeld p h → tick_of h.now / 500 ≡ second → last ≤ p.begun → Owed second (guarantee rates s) last p.begun (owed s p)
      → (b : Bool) → asks_for_all rates s p h ≡ b → Owed second (guarantee rates s) (cond b (tick_of h.now + 1) last) (after p h).begun (owed s (after p h))
  owed_next last p h at held among before owes b is some =
      let are : rates_of p ≡ rates = rates_reached changed stay rates p at in
      let here : (after p h).begun ≡ tick_of h.now + 1 = begin p h held.later in
      subst (λ (x : ℕ). owed s (after p h) ≤ 499 + guarantee rates s * ticks_from second (cond b (tick_of h.now + 1) last) x) (sym here) (go are b is)
    where
      all : (a o d m g i x : ℕ) → a ≡ d - m * 500 → o ≡ d → g ≤ m → i ≤ g → o / 500 ≤ i → a ≤ 499 + x
      all a o d m g i x e f h k l = omega (arith, e, f, h, k, l)

      less_owed : (a d m x : ℕ) → a ≡ d - m * 500 → d ≤ 499 + x → a ≤ 499 + x
      less_owed a d m x e h = omega (arith, e, h)

      go : rates_of p ≡ rates → (b : Bool) → asks_for_all rates s p h ≡ b → owed s (after p h) ≤ 499 + guarantee rates s * ticks_from second (cond b (tick_of h.now + 1) last) (tick_of h.now + 1)
      go are true is =
          let both = both_true (asks_in rates s p h) (nat_le (owed s (offered_in p h) / 500) (handed_in rates s p h)) is in
          all (owed s (after p h)) (owed s (offered_in p h)) (owed_at (guarantee rates s) (owed s p) p.begun (tick_of h.now)) (most_granted s h) (granted_to s h) (handed_in rates s p h) (guarantee rates s * ticks_from second (tick_of h.now + 1) (tick_of h.now + 1))
          (debt_after rates s.way s.user p h are) (debt_offered rates s.way s.user p (tick_of h.now) are) (session_most s.way s.user s.session h.leaves) (enough begin stay changed next gives rates s p h at held both.0)
          (leb-true (owed s (offered_in p h) / 500) (handed_in rates s p h) both.1)
      go are false is =
          less_owed (owed s (after p h)) (owed_at (guarantee rates s) (owed s p) p.begun (tick_of h.now)) (most_granted s h) (guarantee rates s * ticks_from second last (tick_of h.now + 1)) (debt_after rates s.way s.user p h are)
          (offered second (guarantee rates s) last (owed s p) p.begun (tick_of h.now) among held.later before owes)

  none_in : (last : ℕ) (p : Paced) (hs : List Held) → IsReached rates p → AreHeld p hs → AreIn second hs → last ≤ p.begun → Owed second (guarantee rates s) last p.begun (owed s p) → AreInTime rates s second last p hs → cut_in rates s p hs ≡ 0
  none_in last p [] at held among before owes time = refl
  none_in last p (h ∷ hs) at held among before owes time =
      let tick : tick_of h.now / 500 ≡ second = tick_in h.now second among.0 in
      both (cut_at rates s p h) (cut_in rates s (after p h) hs) (none_cut second (guarantee rates s) last (owed s p) p.begun (tick_of h.now) tick before owes time.0)
      (none_in (cond (asks_for_all rates s p h) (tick_of h.now + 1) last) (after p h) hs (reached_next rates p h at held.0) held.1 among.1 (near (asks_for_all rates s p h) (begin p h held.0.later))
      (owed_next last p h at held.0 tick before owes (asks_for_all rates s p h) refl) time.1)
    where
      both : (a b : ℕ) → a ≡ 0 → b ≡ 0 → a + b ≡ 0
      both a b e f = omega (arith, e, f)

      now : (a b : ℕ) → a ≡ b → b ≤ a
      now a b e = omega (arith, e)

      then : (l a b c : ℕ) → l ≤ a → a ≤ b → c ≡ b → l ≤ c
      then l a b c h k e = omega (arith, h, k, e)

      near : (b : Bool) → (after p h).begun ≡ tick_of h.now + 1 → cond b (tick_of h.now + 1) last ≤ (after p h).begun
      near true e = now (after p h).begun (tick_of h.now + 1) e
      near false e = then last p.begun (tick_of h.now + 1) (after p h).begun before held.0.later e

pub nothing_is_cut : TicksBegin → RatesStay → ChangedRates → NextIsGuaranteed → RoundsGive → NothingIsCut
nothing_is_cut begin stay changed next gives rates s second p hs at held among early time =
    none_in begin stay changed next gives rates s second p.begun p hs at held among (same p.begun) (λ some. absurd (never p.begun (500 * second) early some)) time
  where
    same : (x : ℕ) → x ≤ x
    same x = omega arith

    never : (b t : ℕ) → b ≤ t → 1 ≤ b - t → ⊥
    never b t h k = omega (arith, h, k)
