-- What a pace owes a session, before and after a round.
use Rattle.std.proofs.Common.{◌≡◌, ℕ, ◌+◌, ◌-◌, ◌*◌, Bool, true, false, cond, List, [], ◌∷◌, ◌++◌, map, sym, refl, ap, ◌∙◌, append_assoc, append-nil, arith, Option, Some, None}
use Rattle.std.specs.FinMap as finite
use Rattle.std.specs.Prelude.{nat_eq, nat_le, min, ◌&&◌}
use Rattle.std.proofs.lemmas.Bool.{eqb-true, eq-eqb}
use Rattle.line_rates.specs.declared.ask.Way.{Way}
use Rattle.line_rates.specs.declared.ask.Way.TheVariants.{Down, Up}
use Rattle.line_rates.specs.Granted.{Granted}
use Rattle.line_rates.specs.Names.{same_way}
use Rattle.line_rates.specs.Rates.{Rates, floor_rate as stated_floor}
use Rattle.line_rates.specs.Stated.{by_number, user_number}
use Rattle.line_rates.proofs.MarkLemmas.{bool_same}
use Rattle.line_rates.proofs.RowLemmas.{first_row, get-by_number, first_contains}
use Rattle.round_pace.specs.declared.paced.UserPace.{UserPace}
use Rattle.round_pace.specs.Earned.{tick_of, carried, begun_in}
use Rattle.round_pace.specs.FloorsFit.{owed_in, owed_after, ticks_since}
use Rattle.round_pace.specs.Guaranteed.{owed_in_row, owed_to}
use Rattle.round_pace.specs.Histories.{Held, rates_of, stated_user, take_one, take_more, after}
use Rattle.round_pace.specs.Credits.{refill_row}
use Rattle.round_pace.specs.Offered.{refill_group, refill_user, offer_round}
use Rattle.round_pace.specs.OverTime.{owed_at}
use Rattle.round_pace.specs.OwnParts.{most_to, own_part}
use Rattle.round_pace.specs.Paced.{Paced, pace_number}
use Rattle.round_pace.specs.Taken.{take_user}
use Rattle.guarantee_laws.proofs.OwnSums.{most_more}

abbrev pub over : {X Y : Type 0} → (X → Y) → Option X → Option Y
over f None = None
over f (Some x) = Some (f x)

-- the first row of a number where each row is changed and keeps its number
pub first_over : {X Y : Type 0} (number : X → ℕ) (other : Y → ℕ) (f : X → Y) → ((x : X) → other (f x) ≡ number x) → (q : ℕ) (xs : List X) → first_row other q (map f xs) ≡ over f (first_row number q xs)
first_over number other f same q [] = refl
first_over {X} {Y} number other f same q (x ∷ xs) =
    ap (λ (k : ℕ). cond (nat_eq k q) (Some (f x)) (first_row other q (map f xs))) (same x) ∙ go (nat_eq (number x) q) (first_over number other f same q xs)
  where
    go : (b : Bool) → first_row other q (map f xs) ≡ over f (first_row number q xs) → cond b (Some (f x)) (first_row other q (map f xs)) ≡ over f (cond b (Some x) (first_row number q xs))
    go true e = refl
    go false e = e

-- the row of a user
abbrev pub user_row : Paced → ℕ → Option UserPace
user_row p u = first_row pace_number u p.users

pub owed_is : (w : Way) (u : ℕ) (p : Paced) → owed_to w u p ≡ owed_in_row w (user_row p u)
owed_is w u p = ap (owed_in_row w) (get-by_number pace_number u p.users)

-- the row as it was stated
pub stated_row : (rates : Rates) (p : Paced) → rates_of p ≡ rates → (u : ℕ) → finite.get rates.users u ≡ over stated_user (user_row p u)
stated_row rates p are u =
    ap (λ (r : Rates). finite.get r.users u) (sym are)
    ∙ get-by_number user_number u (map stated_user p.users) ∙ first_over pace_number user_number stated_user (λ x. refl) u p.users

-- the debt in a round
pub debt_refilled : (w : Way) (begun tick : ℕ) (o : Option UserPace) → owed_in_row w (over (refill_user begun tick) o) ≡ owed_in (stated_floor (over stated_user o) w) (owed_in_row w o) begun tick
debt_refilled w begun tick None = nothing (carried 0 (begun_in begun tick)) (ticks_since begun tick)
  where
    nothing : (c t : ℕ) → 0 ≡ min (c + 0 * t) (0 * 50)
    nothing c t = omega arith
debt_refilled Down begun tick (Some x) = refl
debt_refilled Up begun tick (Some x) = refl

-- the pace with all rows refilled
abbrev pub all_refilled : ℕ → Paced → Paced
all_refilled tick p = record {
  begun = tick + 1;
  moment = p.moment;
  server = refill_row p.begun tick p.server;
  down = refill_row p.begun tick p.down;
  up = refill_row p.begun tick p.up;
  groups = map (refill_group p.begun tick) p.groups;
  users = map (refill_user p.begun tick) p.users;
  offered = p.offered;
}

pub debt_offered : (rates : Rates) (w : Way) (u : ℕ) (p : Paced) (tick : ℕ) → rates_of p ≡ rates → owed_to w u (offer_round tick p) ≡ owed_at (stated_floor (finite.get rates.users u) w) (owed_to w u p) p.begun tick
debt_offered rates w u p tick are = go (nat_le p.begun tick)
  where
    first : owed_in_row w (finite.get (by_number pace_number (map (refill_user p.begun tick) p.users)) u) ≡ owed_in (stated_floor (finite.get rates.users u) w) (owed_to w u p) p.begun tick
    first =
        ap (owed_in_row w) (get-by_number pace_number u (map (refill_user p.begun tick) p.users) ∙ first_over pace_number pace_number (refill_user p.begun tick) (λ x. refl) u p.users)
        ∙ debt_refilled w p.begun tick (user_row p u)
        ∙ (λ i. owed_in (stated_floor (sym (stated_row rates p are u) i) w) (sym (owed_is w u p) i) p.begun tick)

    go : (b : Bool) → owed_in_row w (finite.get (by_number pace_number (cond b (all_refilled tick p) p).users) u) ≡ cond b (owed_in (stated_floor (finite.get rates.users u) w) (owed_to w u p) p.begun tick) (owed_to w u p)
    go true = first
    go false = refl

-- the debt after a grant
pub turned : (a b : ℕ) → nat_eq a b ≡ nat_eq b a
turned a b = bool_same (nat_eq a b) (nat_eq b a) (λ e. eq-eqb b a (sym (eqb-true a b e))) (λ e. eq-eqb a b (sym (eqb-true b a e)))

less_none : (x : ℕ) → x ≡ x - 0 * 500
less_none x = omega arith

row_taken : (v w : Way) (octets own : ℕ) (b : Bool) (x : UserPace) → owed_in_row w (Some (cond b (take_user v octets own x) x)) ≡ owed_in_row w (Some x) - cond (same_way v w && b) own 0 * 500
row_taken Down Down octets own true x = refl
row_taken Up Up octets own true x = refl
row_taken Down Up octets own true x = less_none x.up_owed
row_taken Up Down octets own true x = less_none x.down_owed
row_taken Down Down octets own false x = less_none x.down_owed
row_taken Up Up octets own false x = less_none x.up_owed
row_taken Down Up octets own false x = less_none x.up_owed
row_taken Up Down octets own false x = less_none x.down_owed

abbrev pub change : List Granted → Granted → UserPace → UserPace
change before g x = cond (nat_eq (pace_number x) g.ask.user) (take_user g.ask.way g.octets (own_part before g) x) x

pub same_number : (before : List Granted) (g : Granted) (x : UserPace) → pace_number (change before g x) ≡ pace_number x
same_number before g x = keeps (nat_eq (pace_number x) g.ask.user)
  where
    keeps : (b : Bool) → pace_number (cond b (take_user g.ask.way g.octets (own_part before g) x) x) ≡ pace_number x
    keeps true = refl
    keeps false = refl

debt_one : (w : Way) (u : ℕ) (before : List Granted) (p : Paced) (g : Granted) → owed_to w u (take_one before p g) ≡ owed_to w u p - cond (same_way g.ask.way w && nat_eq g.ask.user u) (own_part before g) 0 * 500
debt_one w u before p g =
    owed_is w u (take_one before p g)
    ∙ ap (owed_in_row w) (first_over pace_number pace_number (change before g) (same_number before g) u p.users)
    ∙ go (user_row p u) refl ∙ ap (λ (d : ℕ). d - cond (same_way g.ask.way w && nat_eq g.ask.user u) (own_part before g) 0 * 500) (sym (owed_is w u p))
  where
    go : (o : Option UserPace) → user_row p u ≡ o → owed_in_row w (over (change before g) o) ≡ owed_in_row w o - cond (same_way g.ask.way w && nat_eq g.ask.user u) (own_part before g) 0 * 500
    go None e = nothing (cond (same_way g.ask.way w && nat_eq g.ask.user u) (own_part before g) 0)
      where
        nothing : (k : ℕ) → 0 ≡ 0 - k * 500
        nothing k = omega arith
    go (Some x) e =
        let number : pace_number x ≡ u = (first_contains pace_number u p.users x e).1 in
        row_taken g.ask.way w g.octets (own_part before g) (nat_eq (pace_number x) g.ask.user) x
        ∙ ap (λ (b : Bool). owed_in_row w (Some x) - cond (same_way g.ask.way w && b) (own_part before g) 0 * 500) (turned (pace_number x) g.ask.user ∙ ap (nat_eq g.ask.user) number)

-- the debt after grants, if so much less is owed for those before
debt_more : (w : Way) (u : ℕ) (debt : ℕ) (before gs : List Granted) (p : Paced) → owed_to w u p ≡ debt - most_to w u before before * 500
    → owed_to w u (take_more before gs p) ≡ debt - most_to w u (before ++ gs) (before ++ gs) * 500
debt_more w u debt before [] p is = is ∙ ap (λ (gs : List Granted). debt - most_to w u gs gs * 500) (sym (append-nil before))
debt_more w u debt before (g ∷ gs) p is =
    debt_more w u debt (before ++ g ∷ []) gs (take_one before p g) (
    debt_one w u before p g
    ∙ plain (owed_to w u p) debt (most_to w u before before) (cond (same_way g.ask.way w && nat_eq g.ask.user u) (own_part before g) 0) (most_to w u (before ++ g ∷ []) (before ++ g ∷ [])) is (most_more w u before g))
    ∙ ap (λ (xs : List Granted). debt - most_to w u xs xs * 500) (append_assoc before (g ∷ []) gs)
  where
    plain : (x d m k n : ℕ) → x ≡ d - m * 500 → n ≡ m + k → x - k * 500 ≡ d - n * 500
    plain x d m k n a b = omega (arith, a, b)

-- A round takes from the debt what it grants to that session of the user to which it grants most.
pub debt_after : (rates : Rates) (w : Way) (u : ℕ) (p : Paced) (h : Held) → rates_of p ≡ rates
    → owed_to w u (after p h) ≡ owed_after (most_to w u h.leaves h.leaves) (owed_at (stated_floor (finite.get rates.users u) w) (owed_to w u p) p.begun (tick_of h.now))
debt_after rates w u p h are =
    debt_more w u (owed_to w u (offer_round (tick_of h.now) p)) [] h.leaves (offer_round (tick_of h.now) p) (less_none (owed_to w u (offer_round (tick_of h.now) p)))
    ∙ ap (owed_after (most_to w u h.leaves h.leaves)) (debt_offered rates w u p (tick_of h.now) are)
