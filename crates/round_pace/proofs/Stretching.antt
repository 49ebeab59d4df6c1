-- Stretches of rounds keep the rates that are in force in them.
use Rattle.std.proofs.Common.{◌≡◌, ◌≢◌, ℕ, ◌+◌, ◌-◌, ◌≤◌, Bool, true, false, cond, List, [], ◌∷◌, ◌++◌, map, inr, refl, ap, ◌∙◌, subst, arith}
use Rattle.std.specs.Prelude.{nat_eq}
use Rattle.std.proofs.lemmas.Bool.{eq-eqb, cond-true}
use Rattle.line_rates.specs.declared.ask.Name.{Name}
use Rattle.line_rates.specs.Granted.{granted_under}
use Rattle.line_rates.specs.Rates.{Rates, Groups, Users, rate_of}
use Rattle.line_rates.specs.Stated.{by_number, group_number, user_number}
use Rattle.round_pace.specs.Changed.{changed_group, changed_user, idle}
use Rattle.round_pace.specs.Earned.{tick_of, offered, most_kept}
use Rattle.round_pace.specs.Histories.{Held, after, after_all, IsHeld, AreHeld, stated_group, stated_user, rates_of, round_under, rounds_under}
use Rattle.round_pace.specs.Paced.{Paced}
use Rattle.round_pace.specs.Rounds.{Round, granted_where, is_in}
use Rattle.round_pace.specs.Stretches.{Stretch, Lead, RatedRound, rated, rated_under, round_of, rates_where, changes_from, changes, AreWithin, IsWindowed, AreWindowed, StretchesKeepRates, OneStretchKeeps, ChangedRates}
use Rattle.round_pace.proofs.Credited.{credit_under}
use Rattle.round_pace.proofs.Holding.{good_after, begun_next, granted_within, left_next, are_rounds}
use Rattle.round_pace.proofs.Kept.{keeps-window}
use Rattle.round_pace.proofs.Limits.{IsWhole}
use Rattle.round_pace.proofs.Rated.{AreRated, rated_from, fresh}
use Rattle.round_pace.proofs.Starting.{Good, left-changed, left-kept, good_changed, left_idle, whole_idle}
use Rattle.round_pace.proofs.StatedRates.{back}

-- What a round grants under a name and what it leaves are within what it is offered.
module _ (rates : Rates) (p : Paced) (h : Held) (good : Good rates p) (held : IsHeld p h) where
  spends : (n : Name) → rate_of rates n ≢ 0 → granted_under rates n h.leaves + (credit_under (after p h) n).left ≤ offered (rate_of rates n) (credit_under p n).left p.begun (tick_of h.now)
  spends n some =
      rest (granted_under rates n h.leaves) (credit_under (after p h) n).left (offered (rate_of rates n) (credit_under p n).left p.begun (tick_of h.now))
      (granted_within rates p h good held n some) (left_next rates p h good held n some)
    where
      rest : (g l o : ℕ) → g ≤ o → l ≤ o - g → g + l ≤ o
      rest g l o a b = omega (arith, a, b)

-- the rounds of a stretch, and those after it
rounds_rated : (n : Name) (rates : Rates) (p : Paced) (hs : List Held) (rest : List RatedRound) → Good rates p → AreHeld p hs → AreRated (credit_under (after_all p hs) n).left (after_all p hs).begun rest
    → AreRated (credit_under p n).left p.begun (map (rated rates n) hs ++ rest)
rounds_rated n rates p [] rest good are more = more
rounds_rated n rates p (h ∷ hs) rest good are more = (
  are.0.later,
  (credit_under (after p h) n).left,
  spends rates p h good are.0 n,
  subst (λ (x : ℕ). AreRated (credit_under (after p h) n).left x (map (rated rates n) hs ++ rest)) (begun_next rates p h good are.0)
      (rounds_rated n rates (after p h) hs rest (good_after rates p h good are.0) are.1 more),
)

pub good_last : (rates : Rates) (p : Paced) (hs : List Held) → Good rates p → AreHeld p hs → Good rates (after_all p hs)
good_last rates p [] good are = good
good_last rates p (h ∷ hs) good are = good_last rates (after p h) hs (good_after rates p h good are.0) are.1

lead_rated : (n : Name) (p : Paced) (ss : List Stretch) (q : Paced) → IsWhole p.moment → Lead p ss q → AreRated (credit_under p n).left p.begun (rated_under n ss)
lead_rated n p [] q whole lead = tt
lead_rated n p (s ∷ ss) q whole lead =
    let first : Paced = lead.0 in
    let good : Good s.rates first = good_changed s.rates p first lead.1 whole in
    let last : Good s.rates (after_all first s.rounds) = good_last s.rates first s.rounds good lead.2 in
    let rest : AreRated (credit_under (after_all first s.rounds) n).left (after_all first s.rounds).begun (rated_under n ss) = lead_rated n (after_all first s.rounds) ss q last.whole lead.3 in
    let same : first.begun ≡ p.begun = ap (λ (x : Paced). x.begun) lead.1.is in
    rated_from (credit_under first n).left (credit_under p n).left p.begun (rated_under n (s ∷ ss)) (left-changed s.rates p first lead.1 n)
    (subst (λ (x : ℕ). AreRated (credit_under first n).left x (rated_under n (s ∷ ss))) same
    (rounds_rated n s.rates first s.rounds (rated_under n ss) good lead.2 rest))

-- a second from any moment, within a stretch
windowed : (rates : Rates) (p : Paced) (hs : List Held) → Good rates p → AreHeld p hs → ((n : Name) → (credit_under p n).left ≤ most_kept (rate_of rates n)) → IsWindowed (record { rates = rates; rounds = hs })
windowed rates p hs good are small n some start =
    keeps-window (rate_of rates n) (credit_under p n).left p.begun (rounds_under rates n hs) (small n) (are_rounds rates n some p (credit_under p n).left hs (same (credit_under p n).left) good are) start
  where
    same : (x : ℕ) → x ≤ x
    same x = omega arith

lead_windowed : (p : Paced) (ss : List Stretch) (q : Paced) → IsWhole p.moment → Lead p ss q → AreWindowed ss
lead_windowed p [] q whole lead = tt
lead_windowed p (s ∷ ss) q whole lead =
    let first : Paced = lead.0 in
    let good : Good s.rates first = good_changed s.rates p first lead.1 whole in
    let last : Good s.rates (after_all first s.rounds) = good_last s.rates first s.rounds good lead.2 in
    (windowed s.rates first s.rounds good lead.2 (left-kept s.rates p first lead.1), lead_windowed (after_all first s.rounds) ss q last.whole lead.3)

pub stretches_keep_rates : StretchesKeepRates
stretches_keep_rates begun ss p lead = record {
  seconds = λ n second bound within. fresh bound second (credit_under (idle begun) n).left begun (rated_under n ss) (inr (left_idle begun n)) (lead_rated n (idle begun) ss p whole_idle lead) within;
  windows = lead_windowed (idle begun) ss p whole_idle lead;
}

-- one stretch
module _ (rates : Rates) (n : Name) (some : rate_of rates n ≢ 0) (test : Round → Bool) where
  one_within : (hs : List Held) → AreWithin (rate_of rates n) (rates_where test (map (rated rates n) hs ++ []))
  one_within [] = tt
  one_within (h ∷ hs) = go (test (round_under rates n h)) (one_within hs)
    where
      self : (x : ℕ) → x ≤ x
      self x = omega arith

      go : (b : Bool) → AreWithin (rate_of rates n) (rates_where test (map (rated rates n) hs ++ []))
          → AreWithin (rate_of rates n) (cond b (rate_of rates n ∷ rates_where test (map (rated rates n) hs ++ [])) (rates_where test (map (rated rates n) hs ++ [])))
      go true more = (some, self (rate_of rates n), more)
      go false more = more

  one_from : (hs : List Held) → changes_from (rate_of rates n) (rates_where test (map (rated rates n) hs ++ [])) ≡ 0
  one_from [] = refl
  one_from (h ∷ hs) = go (test (round_under rates n h)) (one_from hs)
    where
      go : (b : Bool) → changes_from (rate_of rates n) (rates_where test (map (rated rates n) hs ++ [])) ≡ 0
          → changes_from (rate_of rates n) (cond b (rate_of rates n ∷ rates_where test (map (rated rates n) hs ++ [])) (rates_where test (map (rated rates n) hs ++ []))) ≡ 0
      go true more = omega (arith, more, cond-true {A = ℕ} (nat_eq (rate_of rates n) (rate_of rates n)) 0 1 (eq-eqb (rate_of rates n) (rate_of rates n) refl))
      go false more = more

  one_change : (hs : List Held) → changes (rates_where test (map (rated rates n) hs ++ [])) ≡ 0
  one_change [] = refl
  one_change (h ∷ hs) = go (test (round_under rates n h)) (one_change hs) (one_from hs)
    where
      go : (b : Bool) → changes (rates_where test (map (rated rates n) hs ++ [])) ≡ 0 → changes_from (rate_of rates n) (rates_where test (map (rated rates n) hs ++ [])) ≡ 0
          → changes (cond b (rate_of rates n ∷ rates_where test (map (rated rates n) hs ++ [])) (rates_where test (map (rated rates n) hs ++ []))) ≡ 0
      go true more from = from
      go false more from = more

one_rounds : (rates : Rates) (n : Name) (hs : List Held) → map round_of (map (rated rates n) hs ++ []) ≡ rounds_under rates n hs
one_rounds rates n [] = refl
one_rounds rates n (h ∷ hs) = ap (λ (rs : List Round). round_under rates n h ∷ rs) (one_rounds rates n hs)

pub one_stretch_keeps : OneStretchKeeps
one_stretch_keeps rates hs keep = record {
  seconds = λ n some second.
      same (granted_where (is_in second) (rounds_under rates n hs)) (granted_where (is_in second) (map round_of (map (rated rates n) hs ++ []))) (rate_of rates n) (changes (rates_where (is_in second) (map (rated rates n) hs ++ [])))
      (ap (granted_where (is_in second)) (one_rounds rates n hs)) (one_change rates n some (is_in second) hs) (keep.seconds n second (rate_of rates n) (one_within rates n some (is_in second) hs));
  windows = λ n some start. keep.windows.0 n some start;
}
  where
    same : (x y r c : ℕ) → y ≡ x → c ≡ 0 → y ≤ r + c → x ≤ r
    same x y r c a b h = omega arith

-- the rates of a changed pace
rates_from : Rates → Groups → Users → Rates
rates_from r gs us = record { server = r.server; down = r.down; up = r.up; groups = gs; users = us; share_by = r.share_by }

pub changed_rates : ChangedRates
unfolding rates_from
changed_rates rates p q to =
    ap rates_of to.is
    ∙ (λ i. rates_from rates (by_number group_number (back stated_group (changed_group p.groups) (λ x. refl) to.group_rows i)) (by_number user_number (back stated_user (changed_user p.users) (λ x. refl) to.user_rows i)))
    ∙ (λ i. rates_from rates (to.groups_are i) (to.users_are i))
