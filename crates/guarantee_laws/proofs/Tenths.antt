-- At most the guarantee of a tenth of a second is handed in, and that of a second is the guarantee.
use Rattle.std.proofs.Common.{◌≡◌, ℕ, ◌+◌, ◌-◌, ◌*◌, ◌/◌, ◌≤◌, Bool, true, false, cond, List, [], ◌∷◌, refl, ap, ◌∙◌, arith, Option, Some, None}
use Rattle.std.specs.FinMap as finite
use Rattle.std.specs.List.{list_any}
use Rattle.std.specs.Prelude.{nat_eq, nat_le, min, max, ◌&&◌, ◌||◌}
use Rattle.std.proofs.lemmas.Bool.{leb-true, le-leb}
use Rattle.std.proofs.Math.Nat.{mul-le-mul_left}
use Rattle.line_rates.specs.declared.ask.Way.{Way}
use Rattle.line_rates.specs.Granted.{Granted}
use Rattle.line_rates.specs.Names.{same_way}
use Rattle.line_rates.specs.Stated.{by_number}
use Rattle.round_pace.specs.declared.credit.Credit.{Credit}
use Rattle.round_pace.specs.declared.paced.UserPace.{UserPace}
use Rattle.round_pace.specs.FloorsFit.{parts_left}
use Rattle.round_pace.specs.Guaranteed.{parts_in_row}
use Rattle.round_pace.specs.Paced.{Paced, pace_number}
use Rattle.round_pace.specs.Rows.{group_credit}
use Rattle.round_pace.specs.Spent.{credit_of}
use Rattle.guarantee_laws.specs.Account.{SecondsAreWhole}
use Rattle.guarantee_laws.specs.SessionRounds.{SessionWay, guarantee, owed, parts, offered_in, handed_in, wants, TenthIsEnough}

-- no more parts of ticks are left than those of a tenth of a second
parts_few : (c : Credit) → parts_left c ≤ 50000
parts_few c = go (nat_eq c.rate 0)
  where
    few : (x : ℕ) → min x 50000 ≤ 50000
    few x = omega arith

    go : (b : Bool) → cond b 50000 (min ((c.left * 500000 + 499999) / c.rate) 50000) ≤ 50000
    go true = omega arith
    go false = few ((c.left * 500000 + 499999) / c.rate)

row_few : (w : Way) (p : Paced) (o : Option UserPace) → parts_in_row w p o ≤ 50000
row_few w p None = omega arith
row_few w p (Some x) =
    first (parts_left p.server) (parts_left (credit_of w p.down p.up)) (parts_left (group_credit w p.groups x.row.group)) (parts_left (credit_of w x.down x.up)) (parts_left (credit_of w x.session_down x.session_up)) (parts_few p.server)
  where
    first : (a b c d e : ℕ) → a ≤ 50000 → min (min (min a b) c) (min d e) ≤ 50000
    first a b c d e h = omega (arith, h)

tenth_handed : (floor debt k : ℕ) → k ≤ 50000 → min debt (floor * k / 1000) / 500 ≤ floor / 10
tenth_handed floor debt k few = plain debt (floor * k) (floor * 50000) floor (mul-le-mul_left floor few) refl
  where
    plain : (d x y f : ℕ) → x ≤ y → y ≡ f * 50000 → min d (x / 1000) / 500 ≤ f / 10
    plain d x y f h e = omega (arith, h, e)

-- who wants more wants less
module _ (s : SessionWay) (less more : ℕ) (le : less ≤ more) where
  one_wants : (m : Bool) (w : ℕ) → (m && nat_le more w) ≡ true → (m && nat_le less w) ≡ true
  one_wants true w hit = le-leb less w (through less more w le (leb-true more w hit))
    where
      through : (a b c : ℕ) → a ≤ b → b ≤ c → a ≤ c
      through a b c h k = omega (arith, h, k)
  one_wants false w hit = absurd (cc)

  some_wants : (gs : List Granted) → list_any (wants s more) gs ≡ true → list_any (wants s less) gs ≡ true
  some_wants [] hit = absurd (cc)
  some_wants (g ∷ gs) hit = go (wants s more g) refl hit (some_wants gs)
    where
      or_first : (a b : Bool) → a ≡ true → (a || b) ≡ true
      or_first true b e = refl
      or_first false b e = absurd (cc)

      or_second : (a b : Bool) → b ≡ true → (a || b) ≡ true
      or_second true b e = refl
      or_second false b e = e

      go : (b : Bool) → wants s more g ≡ b → (b || list_any (wants s more) gs) ≡ true → (list_any (wants s more) gs ≡ true → list_any (wants s less) gs ≡ true) → (wants s less g || list_any (wants s less) gs) ≡ true
      go true is e rest = or_first (wants s less g) (list_any (wants s less) gs) (one_wants (same_way g.ask.way s.way && (nat_eq g.ask.user s.user && nat_eq g.ask.session s.session)) g.ask.want is)
      go false is e rest = or_second (wants s less g) (list_any (wants s less) gs) (rest e)

pub tenth_is_enough : TenthIsEnough
tenth_is_enough rates s p h hit =
    some_wants s (handed_in rates s p h) (guarantee rates s / 10)
    (tenth_handed (guarantee rates s) (owed s (offered_in p h)) (parts s (offered_in p h)) (row_few s.way (offered_in p h) (finite.get (by_number pace_number (offered_in p h).users) s.user)))
    h.leaves hit

pub seconds_are_whole : SecondsAreWhole
seconds_are_whole floor second begun early = whole floor (500 * second + 500 - max begun (500 * second)) (all begun (500 * second) early)
  where
    all : (b t : ℕ) → b ≤ t → t + 500 - max b t ≡ 500
    all b t h = omega (arith, h)

    whole : (f k : ℕ) → k ≡ 500 → k * f / 500 ≡ f
    whole f k e = ap (λ (x : ℕ). x * f / 500) e ∙ plain f
      where
        plain : (f : ℕ) → 500 * f / 500 ≡ f
        plain f = omega arith
