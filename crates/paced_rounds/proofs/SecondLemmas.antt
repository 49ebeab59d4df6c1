-- The octets of a history, second by second.
use Rattle.std.proofs.Common.{◌≡◌, ◌≢◌, ℕ, ◌+◌, ◌/◌, ◌<◌, ◌≤◌, Bool, true, false, cond, List, [], ◌∷◌, map, inl, inr, sym, refl, ◌∙◌, arith}
use Rattle.std.specs.Prelude.{nat_eq, nat_lt, sum_by}
use Rattle.std.proofs.lemmas.Bool.{eqb-true, eqb-false, cases_lt, lt-ltb, le-ltb, eq-eqb, ne_eqb, cond-true, cond-false}
use Rattle.std.proofs.lemmas.List.Sums.{sum_by-cons, sum_by-append}
use Rattle.line_rates.specs.declared.ask.Name.TheVariants.{Server}
use Rattle.line_rates.specs.Rates.{Rates}
use Rattle.round_pace.specs.Histories.{Held}
use Rattle.round_pace.specs.Rounds.{Round, granted_where, is_in}
use Rattle.round_pace.specs.Stretches.{Stretch, RatedRound, rated, rated_under, round_of, rates_where, changes_from, changes}
use Rattle.paced_rounds.specs.History.{octets_of, octets_in}

-- the octets of a round, and those before a second
pub octets : RatedRound → ℕ
octets r = r.round.granted

pub granted_plain : (rs : List RatedRound) → sum_by (λ (r : RatedRound). r.round.granted) rs ≡ sum_by octets rs
unfolding octets
granted_plain rs = refl

pub before : ℕ → RatedRound → ℕ
before s r = cond (nat_lt (r.round.now / 1000000) s) r.round.granted 0

pub before_none : (s : ℕ) (r : RatedRound) → s ≤ r.round.now / 1000000 → before s r ≡ 0
unfolding before
before_none s r h = cond-false (nat_lt (r.round.now / 1000000) s) r.round.granted 0 (le-ltb (r.round.now / 1000000) s h)

pub before_all : (s : ℕ) (r : RatedRound) → r.round.now / 1000000 < s → before s r ≡ octets r
unfolding before octets
before_all s r h = cond-true (nat_lt (r.round.now / 1000000) s) r.round.granted 0 (lt-ltb (r.round.now / 1000000) s h)

split : (x s o : ℕ) → cond (nat_lt x (s + 1)) o 0 ≡ cond (nat_lt x s) o 0 + cond (nat_eq x s) o 0
split x s o = elim (cases_lt x s) [
  | inl less ↦
      let a : cond (nat_lt x (s + 1)) o 0 ≡ o = cond-true (nat_lt x (s + 1)) o 0 (lt-ltb x (s + 1) (omega (arith, less))) in
      let b : cond (nat_lt x s) o 0 ≡ o = cond-true (nat_lt x s) o 0 (lt-ltb x s less) in
      let c : cond (nat_eq x s) o 0 ≡ 0 = cond-false (nat_eq x s) o 0 (ne_eqb x s (λ e. absurd (omega (arith, less, e)))) in
      omega (arith, a, b, c)
  | inr not ↦ here (nat_eq x s) refl not
]
  where
    here : (b : Bool) → nat_eq x s ≡ b → s ≤ x → cond (nat_lt x (s + 1)) o 0 ≡ cond (nat_lt x s) o 0 + cond (nat_eq x s) o 0
    here true e not =
        let same : x ≡ s = eqb-true x s e in
        let a : cond (nat_lt x (s + 1)) o 0 ≡ o = cond-true (nat_lt x (s + 1)) o 0 (lt-ltb x (s + 1) (omega (arith, same))) in
        let b : cond (nat_lt x s) o 0 ≡ 0 = cond-false (nat_lt x s) o 0 (le-ltb x s not) in
        let c : cond (nat_eq x s) o 0 ≡ o = cond-true (nat_eq x s) o 0 e in
        omega (arith, a, b, c)
    here false e not =
        let other : x ≢ s = eqb-false x s e in
        let past : s + 1 ≤ x = omega (arith, not, other) in
        let a : cond (nat_lt x (s + 1)) o 0 ≡ 0 = cond-false (nat_lt x (s + 1)) o 0 (le-ltb x (s + 1) past) in
        let b : cond (nat_lt x s) o 0 ≡ 0 = cond-false (nat_lt x s) o 0 (le-ltb x s not) in
        let c : cond (nat_eq x s) o 0 ≡ 0 = cond-false (nat_eq x s) o 0 e in
        omega (arith, a, b, c)

split_at : (s : ℕ) (r : RatedRound) → before (s + 1) r ≡ before s r + cond (nat_eq (r.round.now / 1000000) s) r.round.granted 0
unfolding before
split_at s r = split (r.round.now / 1000000) s r.round.granted

-- one second more
pub next : (s : ℕ) (rs : List RatedRound) → sum_by (before (s + 1)) rs ≡ sum_by (before s) rs + granted_where (is_in s) (map round_of rs)
next s [] = refl
next s (r ∷ rs) =
    let a = sum_by-cons (before (s + 1)) r rs in
    let b = sum_by-cons (before s) r rs in
    let c : granted_where (is_in s) (map round_of (r ∷ rs)) ≡ cond (nat_eq (r.round.now / 1000000) s) r.round.granted 0 + granted_where (is_in s) (map round_of rs) =
    sum_by-cons (λ (x : Round). cond (is_in s x) x.granted 0) r.round (map round_of rs) in
    omega (arith, a, b, c, split_at s r, next s rs)

-- each round of a list
abbrev pub Each : (RatedRound → Type 0) → List RatedRound → Type 0
Each P [] = Unit {0}
Each P (r ∷ rs) = P r × Each P rs

-- the octets of all rounds
octets_first : (rates : Rates) (h : Held) (hs : List Held) → sum_by octets (map (rated rates Server) (h ∷ hs)) ≡ octets_of h + sum_by octets (map (rated rates Server) hs)
unfolding octets
octets_first rates h hs = sum_by-cons octets (rated rates Server h) (map (rated rates Server) hs)

octets_stretch : (rates : Rates) (hs : List Held) → sum_by octets (map (rated rates Server) hs) ≡ sum_by octets_of hs
octets_stretch rates [] = refl
octets_stretch rates (h ∷ hs) = omega (arith, octets_first rates h hs, sum_by-cons octets_of h hs, octets_stretch rates hs)

pub octets_all : (ss : List Stretch) → sum_by octets (rated_under Server ss) ≡ sum_by octets_in ss
octets_all [] = refl
octets_all (s ∷ ss) = omega (arith, sum_by-append octets (map (rated s.rates Server) s.rounds) (rated_under Server ss), octets_stretch s.rates s.rounds, octets_all ss, sum_by-cons octets_in s ss)

-- the rates of a second
same_from : (at : ℕ → Bool) (of : Round → Bool) (rate : ℕ) (rs : List RatedRound) → Each (λ r. (at r.round.now ≡ true) × (r.rate ≡ rate)) rs → (x : ℕ) → x ≡ rate → changes_from x (rates_where of rs) ≡ 0
same_from at of rate [] are x is = refl
same_from at of rate (r ∷ rs) are x is = go (of r.round) (same_from at of rate rs are.1 r.rate are.0.1) (same_from at of rate rs are.1 x is)
  where
    go : (b : Bool) → changes_from r.rate (rates_where of rs) ≡ 0 → changes_from x (rates_where of rs) ≡ 0 → changes_from x (cond b (r.rate ∷ rates_where of rs) (rates_where of rs)) ≡ 0
    go true next rest = omega (arith, next, cond-true {A = ℕ} (nat_eq x r.rate) 0 1 (eq-eqb x r.rate (is ∙ sym are.0.1)))
    go false next rest = rest

pub same_rate : (at : ℕ → Bool) (of : Round → Bool) (rate : ℕ) (rs : List RatedRound) → Each (λ r. (at r.round.now ≡ true) × (r.rate ≡ rate)) rs → changes (rates_where of rs) ≡ 0
same_rate at of rate [] are = refl
same_rate at of rate (r ∷ rs) are = go (of r.round) (same_from at of rate rs are.1 r.rate are.0.1) (same_rate at of rate rs are.1)
  where
    go : (b : Bool) → changes_from r.rate (rates_where of rs) ≡ 0 → changes (rates_where of rs) ≡ 0 → changes (cond b (r.rate ∷ rates_where of rs) (rates_where of rs)) ≡ 0
    go true next rest = next
    go false next rest = rest
