-- What a rate has left, if nothing was taken from it since some number of ticks had begun.
use Rattle.std.proofs.Common.{◌≡◌, ℕ, ◌+◌, ◌-◌, ◌*◌, ◌/◌, ◌%◌, ◌≤◌, inl, inr, refl, ap, ◌∙◌, arith}
use Rattle.std.specs.Prelude.{nat_eq, min}
use Rattle.std.proofs.lemmas.Bool.{cases_eq, cond-false, ne_eqb}
use Rattle.std.proofs.Math.Nat.{mul-le-mul_left}
use Rattle.round_pace.specs.declared.credit.Credit.{Credit}
use Rattle.round_pace.specs.Earned.{share, begun_in, carried, most_kept, refilled}
use Rattle.round_pace.specs.FloorsFit.{ticks_since, owed_in, parts_left, floor_in}
use Rattle.round_pace.specs.PromisesOffered.{PartsAreLeft}

module _ (second : ℕ) where
  -- all that it earned since is left, or all that is kept
  abbrev pub Has : ℕ → ℕ → ℕ → ℕ → Type 0
  Has last begun rate left = min (share rate (begun - 500 * second) - share rate (last - 500 * second)) (most_kept rate) ≤ left

  -- nothing was earned since
  pub has_none : (last begun rate left : ℕ) → begun ≤ last → Has last begun rate left
  has_none last begun rate left h = plain ((begun - 500 * second) * rate) ((last - 500 * second) * rate) (most_kept rate) left (turned_less rate (begun - 500 * second) (last - 500 * second) (omega (arith, h)))
    where
      turned : (a b : ℕ) → a * b ≡ b * a
      turned a b = omega arith

      turned_less : (r a b : ℕ) → a ≤ b → a * r ≤ b * r
      turned_less r a b h = both (a * r) (b * r) (r * a) (r * b) (turned a r) (turned b r) (mul-le-mul_left r h)
        where
          both : (x y a b : ℕ) → x ≡ a → y ≡ b → a ≤ b → x ≤ y
          both x y a b e f h = omega (arith, e, f, h)

      plain : (x y k l : ℕ) → x ≤ y → min (x / 500 - y / 500) k ≤ l
      plain x y k l h = omega (arith, h)

  -- a rate of 0
  pub has_no_rate : (last begun left : ℕ) → Has last begun 0 left
  has_no_rate last begun left = plain (begun - 500 * second) (last - 500 * second) (most_kept 0) left
    where
      plain : (x y k l : ℕ) → min (x * 0 / 500 - y * 0 / 500) k ≤ l
      plain x y k l = omega arith

  -- as a tick begins
  pub has_refilled : (last begun tick rate left : ℕ) → tick / 500 ≡ second → begun ≤ tick → Has last begun rate left → Has last (tick + 1) rate (refilled rate left begun tick)
  has_refilled last begun tick rate left among new has =
      let now : tick + 1 - 500 * second ≡ tick % 500 + 1 = omega (arith, among) in
      let then : begun - 500 * second ≡ begun_in begun tick = omega (arith, among) in
      elim (cases_eq (begun_in begun tick) 0) [
        | inl none ↦
            first (share rate (tick + 1 - 500 * second)) (share rate (tick % 500 + 1)) (share rate (last - 500 * second)) (share rate (begun_in begun tick)) (most_kept rate) (carried left (begun_in begun tick))
            (ap (share rate) now) (ap (share rate) none ∙ zero rate)
        | inr some ↦
            let all : carried left (begun_in begun tick) ≡ left = cond-false (nat_eq (begun_in begun tick) 0) 0 left (ne_eqb (begun_in begun tick) 0 some) in
            more (share rate (tick + 1 - 500 * second)) (share rate (tick % 500 + 1)) (share rate (last - 500 * second)) (share rate (begun - 500 * second)) (share rate (begun_in begun tick)) (most_kept rate) (carried left (begun_in begun tick)) left
            (ap (share rate) now) (ap (share rate) then) all has
      ]
    where
      zero : (r : ℕ) → share r 0 ≡ 0
      zero r = omega arith

      first : (a t l b k c : ℕ) → a ≡ t → b ≡ 0 → min (a - l) k ≤ min (c + (t - b)) k
      first a t l b k c e f = omega (arith, e, f)

      more : (a t l d b k c left : ℕ) → a ≡ t → d ≡ b → c ≡ left → min (d - l) k ≤ left → min (a - l) k ≤ min (c + (t - b)) k
      more a t l d b k c left e f g h = omega (arith, e, f, g, h)

  -- as many parts of ticks are left as ticks have begun since, up to a tenth of a second
  pub has_parts : PartsAreLeft → (last begun ticks : ℕ) (c : Credit) → c.rate ≤ 1099511627776 → ticks ≤ begun - 500 * second - (last - 500 * second) → ticks ≤ 50 → Has last begun c.rate c.left → 1000 * ticks ≤ parts_left c
  has_parts are last begun ticks c fits since few has = are c (1000 * ticks) (omega (arith, few)) (within (1000 * ticks * c.rate) (ticks * c.rate) c.left (times ticks c.rate) enough)
    where
      times : (k r : ℕ) → 1000 * k * r ≡ 1000 * (k * r)
      times k r = omega arith

      within : (x y l : ℕ) → x ≡ 1000 * y → y / 500 ≤ l → x / 500000 ≤ l
      within x y l e h = omega (arith, e, h)

      turned : (a b : ℕ) → a * b ≡ b * a
      turned a b = omega arith

      few_kept : (x y r : ℕ) → x ≤ y → y ≡ 50 * r → r ≤ 1099511627776 → x / 500 ≤ most_kept r
      few_kept x y r h e f = omega (arith, h, e, f)

      -- x: the share now, y: the share then, z: that of the ticks
      earns : (x y z k l : ℕ) → y + z ≤ x → z / 500 ≤ k → min (x / 500 - y / 500) k ≤ l → z / 500 ≤ l
      earns x y z k l h f g = omega (arith, h, f, g)

      sum : (a b k r : ℕ) → b + k ≤ a → b * r + k * r ≤ a * r
      sum a b k r h = through (b * r + k * r) ((b + k) * r) (r * (b + k)) (r * a) (a * r) (parts b k r) (turned (b + k) r) (mul-le-mul_left r h) (turned r a)
        where
          parts : (b k r : ℕ) → b * r + k * r ≡ (b + k) * r
          parts b k r = omega arith

          through : (x y z w v : ℕ) → x ≡ y → y ≡ z → z ≤ w → w ≡ v → x ≤ v
          through x y z w v e f h g = omega (arith, e, f, h, g)

      least : (a b k : ℕ) → k ≤ a - b → 1 ≤ k → b + k ≤ a
      least a b k h one = omega (arith, h, one)

      enough : ticks * c.rate / 500 ≤ c.left
      enough = elim (cases_eq ticks 0) [
        | inl none ↦ nothing (ticks * c.rate) c.left (ap (λ (k : ℕ). k * c.rate) none)
        | inr some ↦
            earns ((begun - 500 * second) * c.rate) ((last - 500 * second) * c.rate) (ticks * c.rate) (most_kept c.rate) c.left
            (sum (begun - 500 * second) (last - 500 * second) ticks c.rate (least (begun - 500 * second) (last - 500 * second) ticks since (omega (arith, some))))
            (few_kept (ticks * c.rate) (50 * c.rate) c.rate (fewer ticks c.rate few) refl fits) has
      ]
        where
          nothing : (x l : ℕ) → x ≡ 0 * c.rate → x / 500 ≤ l
          nothing x l e = omega (arith, e)

          fewer : (k r : ℕ) → k ≤ 50 → k * r ≤ 50 * r
          fewer k r h = through (k * r) (r * k) (r * 50) (50 * r) (turned k r) (mul-le-mul_left r h) (turned r 50)
            where
              through : (x y z w : ℕ) → x ≡ y → y ≤ z → z ≡ w → x ≤ w
              through x y z w e h f = omega (arith, e, h, f)

  -- the same of a debt
  abbrev pub Owes : ℕ → ℕ → ℕ → ℕ → Type 0
  Owes last begun floor debt = min (floor * (begun - 500 * second - (last - 500 * second))) (floor * 50) ≤ debt

  pub owes_none : (last begun floor debt : ℕ) → begun ≤ last → Owes last begun floor debt
  owes_none last begun floor debt h = plain (floor * (begun - 500 * second - (last - 500 * second))) (floor * 50) debt (ap (λ (k : ℕ). floor * k) (nothing begun last (500 * second) h) ∙ zero floor)
    where
      nothing : (b l t : ℕ) → b ≤ l → b - t - (l - t) ≡ 0
      nothing b l t h = omega (arith, h)

      zero : (f : ℕ) → f * 0 ≡ 0
      zero f = omega arith

      plain : (x k d : ℕ) → x ≡ 0 → min x k ≤ d
      plain x k d e = omega (arith, e)

  pub owes_refilled : (last begun tick floor debt : ℕ) → tick / 500 ≡ second → begun ≤ tick → Owes last begun floor debt → Owes last (tick + 1) floor (owed_in floor debt begun tick)
  owes_refilled last begun tick floor debt among new owes = elim (cases_eq (begun_in begun tick) 0) [
    | inl none ↦
        let e : tick + 1 - 500 * second - (last - 500 * second) ≤ ticks_since begun tick = omega (arith, none, among) in
        first (floor * (tick + 1 - 500 * second - (last - 500 * second))) (floor * ticks_since begun tick) (floor * 50) (carried debt (begun_in begun tick)) (mul-le-mul_left floor e)
    | inr some ↦
        let all : carried debt (begun_in begun tick) ≡ debt = cond-false (nat_eq (begun_in begun tick) 0) 0 debt (ne_eqb (begun_in begun tick) 0 some) in
        let e : tick + 1 - 500 * second - (last - 500 * second) ≤ begun - 500 * second - (last - 500 * second) + ticks_since begun tick = omega (arith, some, among) in
        more (floor * (tick + 1 - 500 * second - (last - 500 * second))) (floor * (begun - 500 * second - (last - 500 * second) + ticks_since begun tick)) (floor * (begun - 500 * second - (last - 500 * second))) (floor * ticks_since begun tick) (floor * 50) (carried debt (begun_in begun tick)) debt
        (mul-le-mul_left floor e) (parts floor (begun - 500 * second - (last - 500 * second)) (ticks_since begun tick)) all owes
  ]
    where
      parts : (f a b : ℕ) → f * (a + b) ≡ f * a + f * b
      parts f a b = omega arith

      first : (x y k c : ℕ) → x ≤ y → min x k ≤ min (c + y) k
      first x y k c h = omega (arith, h)

      more : (x y a b k c d : ℕ) → x ≤ y → y ≡ a + b → c ≡ d → min a k ≤ d → min x k ≤ min (c + b) k
      more x y a b k c d h e f g = omega (arith, h, e, f, g)

  -- so the octets of these ticks are handed in
  pub hands_in : (last begun ticks floor debt parts : ℕ) → ticks ≤ begun - 500 * second - (last - 500 * second) → ticks ≤ 50 → Owes last begun floor debt → 1000 * ticks ≤ parts → share floor ticks ≤ floor_in floor debt parts
  hands_in last begun ticks floor debt parts since few owes left =
      plain (ticks * floor) (floor * ticks) (floor * (begun - 500 * second - (last - 500 * second))) (floor * 50) debt (floor * (1000 * ticks)) (floor * parts)
      (turned ticks floor) (mul-le-mul_left floor since) (mul-le-mul_left floor few) owes (times floor ticks) (mul-le-mul_left floor left)
    where
      turned : (a b : ℕ) → a * b ≡ b * a
      turned a b = omega arith

      times : (f k : ℕ) → f * (1000 * k) ≡ 1000 * (f * k)
      times f k = omega arith

      plain : (x y a k d m n : ℕ) → x ≡ y → y ≤ a → y ≤ k → min a k ≤ d → m ≡ 1000 * y → m ≤ n → x / 500 ≤ min d (n / 1000) / 500
      plain x y a k d m n e h f g i j = omega (arith, e, h, f, g, i, j)
