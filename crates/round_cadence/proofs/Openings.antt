-- The first tick in which a row opens.
use Rattle.std.proofs.Common.{◌≡◌, ℕ, ◌+◌, ◌-◌, ◌%◌, ◌<◌, ◌≤◌, ◌⊎◌, min, inl, inr, Bool, true, false, ◌||◌, nat_eq, sym, refl, ap, ◌∙◌, subst, arith}
use Rattle.std.proofs.Math.Nat.{mod-add-mod, mod-eq_of_lt, mod_self, mod-lt}
use Rattle.round_cadence.specs.Intervals.{is_opening, IsNextOpening, end_from, opening_from, next_opening}

mod_within : (a b m : ℕ) → a % m + b < m → (a + b) % m ≡ a % m + b
mod_within a b m lt = sym (mod-add-mod a m b) ∙ mod-eq_of_lt lt

mod_full : (a b m : ℕ) → a % m + b ≡ m → (a + b) % m ≡ 0
mod_full a b m e = sym (mod-add-mod a m b) ∙ (ap (λ (x : ℕ). x % m) e ∙ mod_self m)

abbrev opens_at : ℕ → ℕ → Bool
opens_at i q = nat_eq ((q + 1) % i) 0 || nat_eq q 489 || nat_eq q 499

end_within : (p : ℕ) → p < 500 → (p ≤ end_from p) × ((end_from p ≡ 489) ⊎ (end_from p ≡ 499))
end_within p lt = grind arith

opens_by_wait : (i q : ℕ) → (q + 1) % i ≡ 0 → opens_at i q ≡ true
opens_by_wait i q e = rw e refl

opens_by_end : (i q : ℕ) → (q ≡ 489) ⊎ (q ≡ 499) → opens_at i q ≡ true
opens_by_end i q e = grind arith

closed_by : (i q : ℕ) → 0 < (q + 1) % i → (q < 489) ⊎ ((489 < q) × (q < 499)) → opens_at i q ≡ false
closed_by i q some ends = grind arith

-- in a second, from a tick's number
which : (w e x : ℕ) → x ≡ min w e → (x ≡ w) ⊎ (x ≡ e)
which w e x h = grind arith

wait_opens : (p i x : ℕ) → 0 < i → x ≡ i - 1 - p % i → (p + x + 1) % i ≡ 0
wait_opens p i x some e =
    let m : p % i < i = mod-lt p some in
    let f : p % i + (x + 1) ≡ i = omega arith in
    let g : p + x + 1 ≡ p + (x + 1) = omega arith in
    ap (λ (z : ℕ). z % i) g ∙ mod_full p (x + 1) i f

opens_which : (p i x : ℕ) → 0 < i → (x ≡ i - 1 - p % i) ⊎ ((p + x ≡ 489) ⊎ (p + x ≡ 499)) → opens_at i (p + x) ≡ true
opens_which p i x some (inl e) = opens_by_wait i (p + x) (wait_opens p i x some e)
opens_which p i x some (inr e) = opens_by_end i (p + x) e

ends_which : (p i x w e : ℕ) → p ≤ e → (e ≡ 489) ⊎ (e ≡ 499) → w ≡ i - 1 - p % i → (x ≡ w) ⊎ (x ≡ e - p) → (x ≡ i - 1 - p % i) ⊎ ((p + x ≡ 489) ⊎ (p + x ≡ 499))
ends_which p i x w e le ends f (inl g) = inl (g ∙ f)
ends_which p i x w e le (inl end) f (inr g) = inr (inl (omega arith))
ends_which p i x w e le (inr end) f (inr g) = inr (inr (omega arith))

place_opens : (p i x : ℕ) → 0 < i → p < 500 → x ≡ opening_from p i → opens_at i (p + x) ≡ true
place_opens p i x some lt e =
    let ends = end_within p lt in
    opens_which p i x some (ends_which p i x (i - 1 - p % i) (end_from p) ends.0 ends.1 refl (which (i - 1 - p % i) (end_from p - p) x e))

place_within : (p i x : ℕ) → p < 500 → x ≤ opening_from p i → p + x < 500
place_within p i x lt e = grind arith

place_closed : (p i y : ℕ) → 0 < i → p < 500 → y < opening_from p i → opens_at i (p + y) ≡ false
place_closed p i y some lt below =
    let m : p % i < i = mod-lt p some in
    let f : p % i + (y + 1) < i = omega arith in
    let g : p + y + 1 ≡ p + (y + 1) = omega arith in
    let h : (p + y + 1) % i ≡ p % i + (y + 1) = ap (λ (z : ℕ). z % i) g ∙ mod_within p (y + 1) i f in
    closed_by i (p + y) (omega arith) (grind arith)

-- from a tick
opens : (n i : ℕ) → 0 < i → is_opening i (n + opening_from (n % 500) i) ≡ true
opens n i some =
    let x : ℕ = opening_from (n % 500) i in
    let lt : n % 500 < 500 = mod-lt n (omega arith) in
    rw (mod_within n (opening_from (n % 500) i) 500 (place_within (n % 500) i (opening_from (n % 500) i) lt (omega arith))) (place_opens (n % 500) i (opening_from (n % 500) i) some lt refl)

closed : (n i y : ℕ) → 0 < i → y < opening_from (n % 500) i → is_opening i (n + y) ≡ false
closed n i y some below =
    let lt : n % 500 < 500 = mod-lt n (omega arith) in
    rw (mod_within n y 500 (place_within (n % 500) i y lt (omega arith))) (place_closed (n % 500) i y some lt below)

closed_between : (tick i other : ℕ) → 0 < i → tick < other → other < next_opening tick i → is_opening i other ≡ false
closed_between tick i other some above below =
    let e : tick + 1 + (other - (tick + 1)) ≡ other = omega arith in
    subst (λ (x : ℕ). is_opening i x ≡ false) e (closed (tick + 1) i (other - (tick + 1)) some (omega arith))

pub is_next : (tick i : ℕ) → 0 < i → IsNextOpening tick i (next_opening tick i)
is_next tick i some = record {
  later = omega arith;
  soon = omega arith;
  opens = opens (tick + 1) i some;
  first = λ other above below. closed_between tick i other some above below;
}
