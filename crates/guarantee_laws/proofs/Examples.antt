-- The history that meets all premises.
use Rattle.std.proofs.Common.{◌≡◌, ℕ, zero, suc, ◌+◌, ◌-◌, ◌*◌, ◌/◌, ◌≤◌, ◌⊎◌, Bool, true, false, cond, List, [], ◌∷◌, inl, inr, sym, refl, ap, ◌∙◌, subst, arith, Option, Some, None}
use Rattle.std.specs.List.{All, list_any}
use Rattle.std.specs.Option.{is_some}
use Rattle.std.specs.Prelude.{nat_eq, min, max}
use Rattle.line_rates.specs.declared.ask.Name.{Name}
use Rattle.line_rates.specs.declared.ask.Name.TheVariants.{Server}
use Rattle.line_rates.specs.declared.ask.Way.TheVariants.{Down}
use Rattle.line_rates.specs.declared.row.UserRate.{UserRate}
use Rattle.line_rates.specs.Granted.{granted_under}
use Rattle.line_rates.specs.Rates.{Rates, rate_of, floor_rate as stated_floor}
use Rattle.line_rates.specs.Ticks.{rate_limit}
use Rattle.line_rates.proofs.RowLemmas.{get-by_number}
use Rattle.round_pace.specs.declared.paced.UserPace.{UserPace}
use Rattle.round_pace.specs.Earned.{tick_of}
use Rattle.round_pace.specs.FloorsFit.{floor_in}
use Rattle.round_pace.specs.Guaranteed.{owed_in_row, parts_in_row}
use Rattle.round_pace.specs.Histories.{Held, after, KeepsLimits, AreBest, IsHeld, AreHeld}
use Rattle.round_pace.specs.Offered.{offer_all, left_rates, HandsRowsIn}
use Rattle.round_pace.specs.Paced.{Paced, group_key, pace_number, no_credit, AreTheGroups, AreTheUsers, IsPacedFrom}
use Rattle.round_pace.specs.Stretches.{NewIsChanged}
use Rattle.round_pace.specs.Taken.{group_in, group_of, take_groups}
use Rattle.guarantee_laws.specs.Account.{ticks_from, AsksForAll}
use Rattle.guarantee_laws.specs.Example.{row_with, rates_with, session, ask, round, new_pace, SomeRoundsMeetPremises}
use Rattle.guarantee_laws.specs.SessionRounds.{guarantee, owed, parts, offered_in, wants, asks_in, IsGrantedMost}
use Rattle.guarantee_laws.specs.Sure.{AreRates, takes_in, asked_ticks}
use Rattle.guarantee_laws.proofs.OneAsk.{the_row, no_group, no_rate, tree, is_tree, best}
use Rattle.guarantee_laws.proofs.Reaching.{new_is_reached}
use Rattle.guarantee_laws.proofs.Tenths.{tenth_is_enough}

abbrev user_of : ℕ → UserPace
user_of debt = record {
  row = row_with 499;
  down = no_credit 0;
  up = no_credit 0;
  session_down = no_credit 0;
  session_up = no_credit 0;
  down_owed = debt;
  up_owed = 0;
}

-- the pace with some octets left under the server's rate, a debt to the session, and rates handed in
abbrev pace_of : ℕ → ℕ → ℕ → ℕ → Rates → Paced
pace_of begun moment left debt offered = record {
  begun = begun;
  moment = moment;
  server = record { rate = 1000; left = left };
  down = no_credit 0;
  up = no_credit 0;
  groups = [];
  users = user_of debt ∷ [];
  offered = offered;
}

-- rates with rows of the same numbers are handed in as what is left
handed : HandsRowsIn → (begun moment left debt x f : ℕ) → offer_all (pace_of begun moment left debt (rates_with x f)) ≡ left_rates (pace_of begun moment left debt (rates_with x f))
handed law begun moment left debt x f = law (pace_of begun moment left debt (rates_with x f)) (λ k d lt. absurd (omega (arith, lt))) (λ k d lt. absurd (omega (arith, lt))) groups users
  where
    groups : AreTheGroups (rates_with x f) []
    groups q = ap is_some (no_group x f 0 q) ∙ sym (ap is_some (get-by_number group_key q []))

    users : AreTheUsers (rates_with x f) (pace_of begun moment left debt (rates_with x f)).users
    users q =
        ap is_some (the_row x f 0 q) ∙ same (nat_eq 7 q)
        ∙ sym (ap is_some (get-by_number pace_number q (pace_of begun moment left debt (rates_with x f)).users))
      where
        same : (b : Bool) → is_some (cond b (Some (row_with f)) None) ≡ is_some (cond b (Some (user_of debt)) None)
        same true = refl
        same false = refl

-- a round keeps the limits of such rates, and its grant is best
module _ (x f tick octets : ℕ) (limit : rate_limit x tick ≡ Some octets) where
  keeps : KeepsLimits (rates_with x f) tick (record { ask = ask; octets = octets } ∷ [])
  keeps n most is = go n (no_rate x f tick n) is
    where
      some_same : (a b : ℕ) → Some a ≡ Some b → a ≡ b
      some_same a b e = cc

      never : None ≡ Some most → ⊥
      never e = cc

      one : (o m : ℕ) → o ≡ m → 0 + o ≤ m
      one o m e = omega (arith, e)

      go : (n : Name) → (n ≡ Server) ⊎ (rate_of (rates_with x f) n ≡ 0) → rate_limit (rate_of (rates_with x f) n) tick ≡ Some most → granted_under (rates_with x f) n (record { ask = ask; octets = octets } ∷ []) ≤ most
      go n (inr none) is = absurd (never (sym (ap (λ (r : ℕ). rate_limit r tick) none) ∙ is))
      go n (inl server) is =
          subst (λ (m : Name). rate_limit (rate_of (rates_with x f) m) tick ≡ Some most → granted_under (rates_with x f) m (record { ask = ask; octets = octets } ∷ []) ≤ most) (sym server)
          (λ e. one octets most (some_same octets most (sym limit ∙ e))) is

  are_best : octets ≤ 65536 → min 65536 (f / 10) ≤ octets → AreBest (rates_with x f) tick (record { ask = ask; octets = octets } ∷ [])
  are_best few floor = inr (tree x f tick, is_tree x f tick, best x f tick octets limit few floor)

-- the users of such a pace are in no group
none_grouped : (begun moment left debt : ℕ) (r : Rates) → group_of (pace_of begun moment left debt r).users 7 ≡ None
none_grouped begun moment left debt r = ap group_in (get-by_number pace_number 7 (pace_of begun moment left debt r).users)

module _ (law : HandsRowsIn) where
  -- the rates that each round is offered
  first_offer : offer_all (pace_of 1 0 2 499 (rates_with 1000 499)) ≡ rates_with 21 0
  first_offer = handed law 1 0 2 499 1000 499

  second_offer : offer_all (pace_of 4 1000 6 1497 (rates_with 21 0)) ≡ rates_with 61 20
  second_offer = handed law 4 1000 6 1497 21 0

  third_offer : offer_all (pace_of 8 2000 8 1996 (rates_with 61 20)) ≡ rates_with 81 30
  third_offer = handed law 8 2000 8 1996 61 20

  first_held : IsHeld new_pace (round 0 2)
  first_held = record {
    later = omega arith;
    kept = subst (λ (r : Rates). KeepsLimits r 10 (round 0 2).leaves) (sym first_offer) (keeps 21 0 10 2 refl);
    best = subst (λ (r : Rates). AreBest r 10 (round 0 2).leaves) (sym first_offer) (are_best 21 0 10 2 refl (omega arith) (omega arith));
  }

  after_first : after new_pace (round 0 2) ≡ pace_of 1 1000 0 0 (rates_with 21 0)
  after_first = λ i. record {
    begun = 1;
    moment = 1000;
    server = record { rate = 1000; left = 0 };
    down = no_credit 0;
    up = no_credit 0;
    groups = take_groups Down (none_grouped 1 1000 2 499 (rates_with 1000 499) i) 2 [];
    users = (pace_of 1 1000 0 0 (rates_with 21 0)).users;
    offered = first_offer i;
  }

  second_held : IsHeld (pace_of 1 1000 0 0 (rates_with 21 0)) (round 6000 6)
  second_held = record {
    later = omega arith;
    kept = subst (λ (r : Rates). KeepsLimits r 20 (round 6000 6).leaves) (sym second_offer) (keeps 61 20 20 6 refl);
    best = subst (λ (r : Rates). AreBest r 20 (round 6000 6).leaves) (sym second_offer) (are_best 61 20 20 6 refl (omega arith) (omega arith));
  }

  after_second : after (pace_of 1 1000 0 0 (rates_with 21 0)) (round 6000 6) ≡ pace_of 4 2000 0 0 (rates_with 61 20)
  after_second = λ i. record {
    begun = 4;
    moment = 2000;
    server = record { rate = 1000; left = 0 };
    down = no_credit 0;
    up = no_credit 0;
    groups = take_groups Down (none_grouped 4 2000 6 1497 (rates_with 21 0) i) 6 [];
    users = (pace_of 4 2000 0 0 (rates_with 61 20)).users;
    offered = second_offer i;
  }

  third_held : IsHeld (pace_of 4 2000 0 0 (rates_with 61 20)) (round 14000 8)
  third_held = record {
    later = omega arith;
    kept = subst (λ (r : Rates). KeepsLimits r 30 (round 14000 8).leaves) (sym third_offer) (keeps 81 30 30 8 refl);
    best = subst (λ (r : Rates). AreBest r 30 (round 14000 8).leaves) (sym third_offer) (are_best 81 30 30 8 refl (omega arith) (omega arith));
  }

  -- the pace before the last round
  before_last : after (after new_pace (round 0 2)) (round 6000 6) ≡ pace_of 4 2000 0 0 (rates_with 61 20)
  before_last = ap (λ (p : Paced). after p (round 6000 6)) after_first ∙ after_second

  all_held : AreHeld new_pace (round 0 2 ∷ round 6000 6 ∷ round 14000 8 ∷ [])
  all_held = (first_held, (subst (λ (p : Paced). IsHeld p (round 6000 6)) (sym after_first) second_held, (subst (λ (p : Paced). IsHeld p (round 14000 8)) (sym before_last) third_held, tt)))

abbrev the_rates : Rates
the_rates = rates_with 1000 499

guarantee_is : guarantee the_rates session ≡ 499
guarantee_is = ap (λ (o : Option UserRate). stated_floor o Down) (the_row 1000 499 0 7)

-- the session asks in each round
asks_all : (p : Paced) (now octets : ℕ) → asks_in the_rates session p (round now octets) ≡ true
asks_all p now octets = tenth_is_enough the_rates session p (round now octets) (subst (λ (g : ℕ). list_any (wants session (g / 10)) (round now octets).leaves ≡ true) (sym guarantee_is) refl)

abbrev last_offered : Paced
last_offered = offered_in (pace_of 4 2000 0 0 (rates_with 61 20)) (round 14000 8)

-- and is handed in all whole octets that it is owed in the last
last_asks : AsksForAll the_rates session (pace_of 4 2000 0 0 (rates_with 61 20)) (round 14000 8)
last_asks = record {
  asks = asks_all (pace_of 4 2000 0 0 (rates_with 61 20)) 14000 8;
  left = whole (owed session last_offered) (parts session last_offered) (guarantee the_rates session) debt left guarantee_is;
}
  where
    debt : owed session last_offered ≡ 1996
    debt = ap (owed_in_row Down) (get-by_number pace_number 7 last_offered.users)

    left : parts session last_offered ≡ 4499
    left = ap (parts_in_row Down last_offered) (get-by_number pace_number 7 last_offered.users)

    whole : (d k g : ℕ) → d ≡ 1996 → k ≡ 4499 → g ≡ 499 → d / 500 ≤ floor_in g d k
    whole d k g e f h = subst (λ (z : ℕ × ℕ × ℕ). z.0 / 500 ≤ floor_in z.2 z.0 z.1) (λ i. (sym e i, sym f i, sym h i)) (omega arith)

-- no other session is granted anything
most_is_own : (now octets : ℕ) → IsGrantedMost session (round now octets)
most_is_own now octets other = go (nat_eq 0 other)
  where
    go : (b : Bool) → 0 + cond b octets 0 ≤ 0 + octets
    go true = omega arith
    go false = omega arith

-- in the first ticks nothing comes late
early_in_time : (last now : ℕ) → now ≤ 8 → guarantee the_rates session * ticks_from 0 last now + 499 ≤ guarantee the_rates session * 50
early_in_time last now few = subst (λ (g : ℕ). g * ticks_from 0 last now + 499 ≤ g * 50) (sym guarantee_is) (plain last now few)
  where
    plain : (l n : ℕ) → n ≤ 8 → 499 * (n - max l (500 * 0)) + 499 ≤ 499 * 50
    plain l n h = omega (arith, h)

abbrev AreEarly : List Held → Type 0
AreEarly [] = Unit {0}
AreEarly (h ∷ hs) = (tick_of h.now ≤ 49) × AreEarly hs

few_ticks : (last : ℕ) (p : Paced) (hs : List Held) → AreEarly hs → All (λ (k : ℕ). k ≤ 50) (asked_ticks the_rates session 0 last p hs)
few_ticks last p [] early = λ k d lt. absurd (omega (arith, lt))
few_ticks last p (h ∷ hs) early = go (asks_in the_rates session p h) (takes_in the_rates session h) (few_ticks (tick_of h.now + 1) (after p h) hs early.1) (few_ticks last (after p h) hs early.1)
  where
    one : (l n : ℕ) → n ≤ 49 → n + 1 - max l (500 * 0) ≤ 50
    one l n h = omega (arith, h)

    more : (k : ℕ) (ks : List ℕ) → k ≤ 50 → All (λ (k : ℕ). k ≤ 50) ks → All (λ (k : ℕ). k ≤ 50) (k ∷ ks)
    more k ks few all zero d lt = few
    more k ks few all (suc j) d lt = all j d (omega (arith, lt))

    go : (b t : Bool) → All (λ (k : ℕ). k ≤ 50) (asked_ticks the_rates session 0 (tick_of h.now + 1) (after p h) hs) → All (λ (k : ℕ). k ≤ 50) (asked_ticks the_rates session 0 last (after p h) hs)
        → All (λ (k : ℕ). k ≤ 50) (cond b (ticks_from 0 last (tick_of h.now + 1) ∷ asked_ticks the_rates session 0 (tick_of h.now + 1) (after p h) hs)
        (cond t (asked_ticks the_rates session 0 (tick_of h.now + 1) (after p h) hs) (asked_ticks the_rates session 0 last (after p h) hs)))
    go true t new same = more (ticks_from 0 last (tick_of h.now + 1)) (asked_ticks the_rates session 0 (tick_of h.now + 1) (after p h) hs) (one last (tick_of h.now) early.0) new
    go false true new same = new
    go false false new same = same

are_rates : AreRates the_rates
are_rates n = go (no_rate 1000 499 0 n)
  where
    small : (r : ℕ) → r ≡ 0 → r ≤ 1099511627776
    small r e = omega (arith, e)

    go : (n ≡ Server) ⊎ (rate_of the_rates n ≡ 0) → rate_of the_rates n ≤ 1099511627776
    go (inl server) = subst (λ (m : Name). rate_of the_rates m ≤ 1099511627776) (sym server) (omega arith)
    go (inr none) = small (rate_of the_rates n) none

new_paced : IsPacedFrom 0 the_rates new_pace
new_paced = record {
  group_rows = [];
  user_rows = row_with 499 ∷ [];
  groups_are = refl;
  users_are = refl;
  groups_rise = λ k d lt. absurd (omega (arith, lt));
  users_rise = λ k d lt. absurd (omega (arith, lt));
  is = refl;
}

pub some_rounds : HandsRowsIn → NewIsChanged → SomeRoundsMeetPremises
some_rounds law changed = record {
  fits = are_rates;
  reached = new_is_reached changed 0 the_rates new_pace new_paced;
  held = all_held law;
  among = (refl, (refl, (refl, tt)));
  early = omega arith;
  asks = subst (λ (p : Paced). AsksForAll the_rates session p (round 14000 8)) (sym (before_last law)) last_asks;
  most = (most_is_own 0 2, (most_is_own 6000 6, (most_is_own 14000 8, tt)));
  in_time = (early_in_time new_pace.begun 1 (omega arith), (early_in_time _ 4 (omega arith), (early_in_time _ 8 (omega arith), tt)));
  misses = (inl (asks_all new_pace 0 2), (inl (asks_all (after new_pace (round 0 2)) 6000 6), (inl (asks_all (after (after new_pace (round 0 2)) (round 6000 6)) 14000 8), tt)));
  prompt = few_ticks 0 new_pace (round 0 2 ∷ round 6000 6 ∷ round 14000 8 ∷ []) (omega arith, (omega arith, (omega arith, tt)));
}
