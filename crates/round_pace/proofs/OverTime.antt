-- A guarantee is kept over the rounds of a second.
use Rattle.std.proofs.Common.{◌≡◌, ℕ, ◌+◌, ◌-◌, ◌*◌, ◌/◌, ◌≤◌, List, [], ◌∷◌, sum_by, inl, inr, sym, ap, ◌∙◌, subst, arith}
use Rattle.std.specs.Prelude.{nat_eq, nat_le, min}
use Rattle.std.proofs.lemmas.Bool.{cases_lt, cases_eq, cond-true, cond-false, lt-leb, le-leb, eq-eqb, ne_eqb}
use Rattle.std.proofs.lemmas.List.Sums.{sum_by-cons}
use Rattle.round_pace.specs.Earned.{share, begun_in, carried}
use Rattle.round_pace.specs.FloorsFit.{ticks_since, owed_in, owed_after, floor_in}
use Rattle.round_pace.specs.OverTime.{OwedRound, owed_at, owed_uncut, AreOwed, ArePromptFor, EndsAsked, last_tick, granted_in, KeepsGuarantees}

module _ (s floor : ℕ) where
  -- the guarantee of the ticks begun is granted or owed
  abbrev Covers : ℕ → ℕ → ℕ → Type 0
  Covers sum owed begun = floor * (begun - 500 * s) ≤ owed + 500 * sum

  parts : (k more : ℕ) → floor * (k + more) ≡ floor * k + floor * more
  parts k more = times floor k more
    where
      times : (f a b : ℕ) → f * (a + b) ≡ f * a + f * b
      times f a b = omega arith

  -- in the first round of a tick,
  refilled : (sum owed begun tick : ℕ) → tick / 500 ≡ s → begun ≤ tick → owed_uncut floor owed begun tick ≤ floor * 50 → Covers sum owed begun → Covers sum (owed_in floor owed begun tick) (tick + 1)
  refilled sum owed begun tick among new uncut covers = elim (cases_eq (begun_in begun tick) 0) [
    | inl none ↦
        let nothing : carried owed (begun_in begun tick) ≡ 0 = cond-true (nat_eq (begun_in begun tick) 0) 0 owed (eq-eqb (begun_in begun tick) 0 none) in
        let e : ticks_since begun tick ≡ tick + 1 - 500 * s = omega (arith, none, among) in
        first (floor * (tick + 1 - 500 * s)) (floor * ticks_since begun tick) (carried owed (begun_in begun tick)) (floor * 50) sum (ap (λ (k : ℕ). floor * k) (sym e)) uncut
    | inr some ↦
        let all : carried owed (begun_in begun tick) ≡ owed = cond-false (nat_eq (begun_in begun tick) 0) 0 owed (ne_eqb (begun_in begun tick) 0 some) in
        let e : tick + 1 - 500 * s ≡ begun - 500 * s + ticks_since begun tick = omega (arith, some, among, new) in
        more (floor * (tick + 1 - 500 * s)) (floor * (begun - 500 * s)) (floor * ticks_since begun tick) (carried owed (begun_in begun tick)) owed (floor * 50) sum (ap (λ (k : ℕ). floor * k) e ∙ parts (begun - 500 * s) (ticks_since begun tick)) all uncut covers
  ]
    where
      first : (x y c m g : ℕ) → x ≡ y → c + y ≤ m → x ≤ min (c + y) m + 500 * g
      first x y c m g a b = omega (arith, a, b)

      more : (x y z c o m g : ℕ) → x ≡ y + z → c ≡ o → c + z ≤ m → y ≤ o + 500 * g → x ≤ min (c + z) m + 500 * g
      more x y z c o m g a b h k = omega (arith, a, b, h, k)

  -- and in any round
  offered : (sum owed begun tick : ℕ) → tick / 500 ≡ s → begun ≤ tick + 1 → (begun ≤ tick → owed_uncut floor owed begun tick ≤ floor * 50) → Covers sum owed begun → Covers sum (owed_at floor owed begun tick) (tick + 1)
  offered sum owed begun tick among near uncut covers = elim (cases_lt tick begun) [
    | inl later ↦
        let stays : owed_at floor owed begun tick ≡ owed = cond-false (nat_le begun tick) (owed_in floor owed begun tick) owed (lt-leb begun tick later) in
        let e : begun ≡ tick + 1 = omega (arith, later, near) in
        subst (λ (o : ℕ). Covers sum o (tick + 1)) (sym stays) (subst (λ (b : ℕ). Covers sum owed b) e covers)
    | inr new ↦
        let is : owed_at floor owed begun tick ≡ owed_in floor owed begun tick = cond-true (nat_le begun tick) (owed_in floor owed begun tick) owed (le-leb begun tick new) in
        subst (λ (o : ℕ). Covers sum o (tick + 1)) (sym is) (refilled sum owed begun tick among new (uncut new) covers)
  ]

  granted : (sum owed begun g : ℕ) → Covers sum owed begun → Covers (sum + g) (owed_after g owed) begun
  granted sum owed begun g covers = plain (floor * (begun - 500 * s)) owed sum g covers
    where
      plain : (x o t g : ℕ) → x ≤ o + 500 * t → x ≤ o - g * 500 + 500 * (t + g)
      plain x o t g a = omega (arith, a)

  -- the last round grants all that is owed
  ends : (sum owed tick parts g : ℕ) → owed ≤ floor * parts / 1000 → floor_in floor owed parts ≤ g → Covers sum owed (tick + 1) → share floor (tick + 1 - 500 * s) ≤ sum + g
  ends sum owed tick parts g fits least covers =
      let turned : (tick + 1 - 500 * s) * floor ≡ floor * (tick + 1 - 500 * s) = times (tick + 1 - 500 * s) floor in
      plain ((tick + 1 - 500 * s) * floor) (floor * (tick + 1 - 500 * s)) owed (floor * parts / 1000) sum g turned fits least covers
    where
      times : (a b : ℕ) → a * b ≡ b * a
      times a b = omega arith

      plain : (x y o m t g : ℕ) → x ≡ y → o ≤ m → min o m / 500 ≤ g → y ≤ o + 500 * t → x / 500 ≤ t + g
      plain x y o m t g a b c d = omega (arith, a, b, c, d)

  kept : (sum owed begun : ℕ) (r : OwedRound) (rs : List OwedRound) → Covers sum owed begun → AreOwed floor owed begun (r ∷ rs) → ArePromptFor s floor owed begun (r ∷ rs) → EndsAsked floor owed begun (r ∷ rs)
      → share floor (last_tick r.tick rs + 1 - 500 * s) ≤ sum + sum_by granted_in (r ∷ rs)
  kept sum owed begun r [] covers are prompt asked =
      let now : Covers sum (owed_at floor owed begun r.tick) (r.tick + 1) = offered sum owed begun r.tick prompt.0 are.0 prompt.1 covers in
      one (share floor (r.tick + 1 - 500 * s)) sum r.granted (sum_by granted_in (r ∷ [])) (sum_by-cons granted_in r [])
      (ends sum (owed_at floor owed begun r.tick) r.tick r.parts r.granted asked.1 (are.1 asked.0) now)
    where
      one : (x t g a : ℕ) → a ≡ g + 0 → x ≤ t + g → x ≤ t + a
      one x t g a e h = omega (arith, e, h)
  kept sum owed begun r (q ∷ rs) covers are prompt asked =
      let now : Covers sum (owed_at floor owed begun r.tick) (r.tick + 1) = offered sum owed begun r.tick prompt.0 are.0 prompt.1 covers in
      let next : Covers (sum + r.granted) (owed_after r.granted (owed_at floor owed begun r.tick)) (r.tick + 1) = granted sum (owed_at floor owed begun r.tick) (r.tick + 1) r.granted now in
      more (share floor (last_tick q.tick rs + 1 - 500 * s)) sum r.granted (sum_by granted_in (q ∷ rs)) (sum_by granted_in (r ∷ q ∷ rs)) (sum_by-cons granted_in r (q ∷ rs))
      (kept (sum + r.granted) (owed_after r.granted (owed_at floor owed begun r.tick)) (r.tick + 1) q rs next are.2 prompt.2 asked)
    where
      more : (x t g b a : ℕ) → a ≡ g + b → x ≤ t + g + b → x ≤ t + a
      more x t g b a e h = omega (arith, e, h)

pub keeps_guarantees : KeepsGuarantees
keeps_guarantees s floor owed begun r rs early are prompt asked =
    whole (share floor (last_tick r.tick rs + 1 - 500 * s)) (sum_by granted_in (r ∷ rs))
    (kept s floor 0 owed begun r rs (start floor (begun - 500 * s) owed (none begun (500 * s) early)) are prompt asked)
  where
    whole : (x y : ℕ) → x ≤ 0 + y → x ≤ y
    whole x y h = omega (arith, h)

    none : (b t : ℕ) → b ≤ t → b - t ≡ 0
    none b t h = omega (arith, h)

    zero : (f : ℕ) → f * 0 ≡ 0
    zero f = omega arith

    start : (f k o : ℕ) → k ≡ 0 → f * k ≤ o + 500 * 0
    start f k o e = plain (f * k) o (ap (λ (x : ℕ). f * x) e ∙ zero f)
      where
        plain : (x o : ℕ) → x ≡ 0 → x ≤ o + 500 * 0
        plain x o h = omega (arith, h)
