-- The octets of a history from its first second to its last.
use Rattle.std.proofs.Common.{◌≡◌, ◌≢◌, ℕ, zero, suc, ◌+◌, ◌*◌, ◌/◌, ◌≤◌, Bool, true, false, cond, max, List, [], ◌∷◌, ◌++◌, map, sym, refl, ap, ◌∙◌, subst, arith}
use Rattle.std.specs.Prelude.{sum_by}
use Rattle.std.proofs.Math.Logic.{∥∥₁_map, ∥∥₁_elim}
use Rattle.std.proofs.Props.{props}
use Rattle.std.proofs.lemmas.List.Sums.{sum_by-cons}
use Rattle.line_rates.specs.declared.ask.Name.{Name}
use Rattle.line_rates.specs.declared.ask.Name.TheVariants.{Server}
use Rattle.line_rates.specs.Rates.{Rates, rate_of}
use Rattle.round_pace.specs.Histories.{Held}
use Rattle.round_pace.specs.Paced.{Paced}
use Rattle.round_pace.specs.Rounds.{Round, granted_where, is_in}
use Rattle.round_pace.specs.Stretches.{Stretch, RatedRound, rated, rated_under, round_of, rates_where, changes, AreWithin, StretchesKeep}
use Rattle.paced_rounds.specs.History.{stretch_under}
use Rattle.paced_rounds.specs.Spans.{AreBetween, AllBetween, HasRate, HasRates, IsWithinRates, SpansAreKept, allowed_at, allowed_from, allowed_in, granted_to, greatest, seconds_from}
use Rattle.paced_rounds.proofs.RunLemmas.{run-seconds, windowed-prop}
use Rattle.paced_rounds.proofs.SecondLemmas.{Each, before, before_all, before_none, granted_plain, next, octets, octets_all, same_rate}

-- ---- the moments of a history

later_between : (first old now : ℕ) → old ≤ now → (hs : List Held) → AreBetween first old hs → AreBetween first now hs
later_between first old now h [] b = tt
later_between first old now h (x ∷ hs) b = (b.0, omega (arith, b.1), later_between first old now h hs b.2)

between_more : (first last : ℕ) (hs : List Held) (h : Held) → AreBetween first last hs → first ≤ h.now → h.now ≤ last → AreBetween first last (hs ++ h ∷ [])
between_more first last [] h b x y = (x, y, tt)
between_more first last (k ∷ hs) h b x y = (b.0, b.1, between_more first last hs h b.2 x y)

all_more : (first old now : ℕ) → old ≤ now → first ≤ now → (ss : List Stretch) (p q : Paced) (hs : List Held) (h : Held) → h.now ≡ now → AllBetween first old (ss ++ stretch_under p hs ∷ []) → AllBetween first now (ss ++ stretch_under q (hs ++ h ∷ []) ∷ [])
all_more first old now x y [] p q hs h e b = (between_more first now hs h (later_between first old now x hs b.0) (omega (arith, e)) (omega (arith, e)), tt)
all_more first old now x y (s ∷ ss) p q hs h e b = (later_between first old now x s.rounds b.0, all_more first old now x y ss p q hs h e b.1)

all_changed : (first last : ℕ) (ss : List Stretch) (q : Paced) → AllBetween first last ss → AllBetween first last (ss ++ stretch_under q [] ∷ [])
all_changed first last [] q b = (tt, tt)
all_changed first last (s ∷ ss) q b = (b.0, all_changed first last ss q b.1)

pub span_more : (first old now : ℕ) (ss new : List Stretch) (p q : Paced) (hs : List Held) (h : Held) → old ≤ now → first ≤ old → h.now ≡ now → new ≡ ss ++ stretch_under q (hs ++ h ∷ []) ∷ [] → ∥ AllBetween first old (ss ++ stretch_under p hs ∷ []) ∥₁ → ∥ AllBetween first now new ∥₁
span_more first old now ss new p q hs h x y e is b = ∥∥₁_map b (λ k. subst (AllBetween first now) (sym is) (all_more first old now x (omega arith) ss p q hs h e k))

pub span_changed : (first last : ℕ) (ss new : List Stretch) (q : Paced) → new ≡ ss ++ stretch_under q [] ∷ [] → ∥ AllBetween first last ss ∥₁ → ∥ AllBetween first last new ∥₁
span_changed first last ss new q is b = ∥∥₁_map b (λ k. subst (AllBetween first last) (sym is) (all_changed first last ss q k))

pub span_new : (now : ℕ) (q : Paced) → AllBetween now now (stretch_under q [] ∷ [])
span_new now q = (tt, tt)

-- ---- the octets of its seconds

each_both : (P : RatedRound → Type 0) (xs ys : List RatedRound) → Each P xs → Each P ys → Each P (xs ++ ys)
each_both P [] ys a b = b
each_both P (x ∷ xs) ys a b = (a.0, each_both P xs ys a.1 b)

-- at most what each second allows
most : (rs : List RatedRound) (b : ℕ → ℕ) (sums : ℕ → ℕ) (first : ℕ) → sums 0 ≡ 0 → ((k : ℕ) → sums (suc k) ≡ sums k + b (first + k)) → ((s : ℕ) → granted_where (is_in s) (map round_of rs) ≤ b s) → sum_by (before first) rs ≡ 0 → (k : ℕ) → sum_by (before (first + k)) rs ≤ sums k
most rs b sums first none more kept start zero =
    let e : sum_by (before (first + 0)) rs ≡ sum_by (before first) rs = ap (λ (s : ℕ). sum_by (before s) rs) (let f : first + 0 ≡ first = omega arith in f) in
    omega (arith, e, start)
most rs b sums first none more kept start (suc k) =
    let e : sum_by (before (first + suc k)) rs ≡ sum_by (before (first + k + 1)) rs = ap (λ (s : ℕ). sum_by (before s) rs) (let f : first + suc k ≡ first + k + 1 = omega arith in f) in
    plain (sum_by (before (first + suc k)) rs) (sum_by (before (first + k + 1)) rs) (sum_by (before (first + k)) rs) (granted_where (is_in (first + k)) (map round_of rs)) (b (first + k)) (sums k) (sums (suc k))
    e (next (first + k) rs) (kept (first + k)) (most rs b sums first none more kept start k) (more k)
  where
    plain : (x y z g b s t : ℕ) → x ≡ y → y ≡ z + g → g ≤ b → z ≤ s → t ≡ s + b → x ≤ t
    plain x y z g b s t e f h k m = omega arith

abbrev IsSpanned : ℕ → ℕ → RatedRound → Type 0
IsSpanned first last r = (first ≤ r.round.now) × (r.round.now ≤ last)

each_rounds : (rates : Rates) (n : Name) (first last : ℕ) (hs : List Held) → AreBetween first last hs → Each (IsSpanned first last) (map (rated rates n) hs)
each_rounds rates n first last [] b = tt
each_rounds rates n first last (h ∷ hs) b = ((b.0, b.1), each_rounds rates n first last hs b.2)

each_all : (n : Name) (first last : ℕ) (ss : List Stretch) → AllBetween first last ss → Each (IsSpanned first last) (rated_under n ss)
each_all n first last [] b = tt
each_all n first last (s ∷ ss) b = each_both (IsSpanned first last) (map (rated s.rates n) s.rounds) (rated_under n ss) (each_rounds s.rates n first last s.rounds b.0) (each_all n first last ss b.1)

none : (first last : ℕ) (rs : List RatedRound) → Each (IsSpanned first last) rs → sum_by (before (first / 1000000)) rs ≡ 0
none first last [] are = refl
none first last (r ∷ rs) are =
    let low : first ≤ r.round.now = are.0.0 in
    omega (arith, sum_by-cons (before (first / 1000000)) r rs, before_none (first / 1000000) r (omega arith), none first last rs are.1)

all : (first last : ℕ) (rs : List RatedRound) → Each (IsSpanned first last) rs → sum_by (before (first / 1000000 + seconds_from first last)) rs ≡ sum_by octets rs
all first last [] are = refl
all first last (r ∷ rs) are =
    let low : first ≤ r.round.now = are.0.0 in
    let high : r.round.now ≤ last = are.0.1 in
    omega (
      arith,
      sum_by-cons (before (first / 1000000 + seconds_from first last)) r rs,
      sum_by-cons octets r rs,
      before_all (first / 1000000 + seconds_from first last) r (omega arith),
      all first last rs are.1,
    )

-- the rates of a second are within the greatest of them
above : (b c : ℕ) (xs : List ℕ) → b ≤ c → AreWithin b xs → AreWithin c xs
above b c [] h w = tt
above b c (x ∷ xs) h w = (w.0, omega (arith, w.1), above b c xs h w.2)

abbrev AreSome : List ℕ → Type 0
AreSome [] = Unit {0}
AreSome (x ∷ xs) = (x ≢ 0) × AreSome xs

within_greatest : (xs : List ℕ) → AreSome xs → AreWithin (greatest xs) xs
within_greatest [] h = tt
within_greatest (x ∷ xs) h = (h.0, omega arith, above (greatest xs) (max x (greatest xs)) xs (omega arith) (within_greatest xs h.1))

some_where : (of : Round → Bool) (rs : List RatedRound) → Each (λ r. r.rate ≢ 0) rs → AreSome (rates_where of rs)
some_where of [] are = tt
some_where of (r ∷ rs) are = go (of r.round) (some_where of rs are.1)
  where
    go : (b : Bool) → AreSome (rates_where of rs) → AreSome (cond b (r.rate ∷ rates_where of rs) (rates_where of rs))
    go true more = (are.0, more)
    go false more = more

rate_rounds : (P : ℕ → Type 0) (rates : Rates) (n : Name) (hs : List Held) → P (rate_of rates n) → Each (λ r. P r.rate) (map (rated rates n) hs)
rate_rounds P rates n [] h = tt
rate_rounds P rates n (x ∷ hs) h = (h, rate_rounds P rates n hs h)

some_rates : (n : Name) (ss : List Stretch) → HasRates n ss → Each (λ r. r.rate ≢ 0) (rated_under n ss)
some_rates n [] h = tt
some_rates n (s ∷ ss) h = each_both (λ r. r.rate ≢ 0) (map (rated s.rates n) s.rounds) (rated_under n ss) (rate_rounds (λ x. x ≢ 0) s.rates n s.rounds h.0) (some_rates n ss h.1)

pub allowed_kept : (n : Name) (ss : List Stretch) (first last : ℕ) → StretchesKeep ss → AllBetween first last ss → HasRates n ss → granted_to n ss ≤ allowed_from n ss first last
allowed_kept n ss first last kept between rates =
    let rs : List RatedRound = rated_under n ss in
    let each : Each (IsSpanned first last) rs = each_all n first last ss between in
    let bounded : sum_by (before (first / 1000000 + seconds_from first last)) rs ≤ allowed_from n ss first last =
    most rs (allowed_at n ss) (allowed_in n ss (first / 1000000)) (first / 1000000) refl (λ k. refl)
    (λ s. kept.seconds n s (greatest (rates_where (is_in s) rs)) (within_greatest (rates_where (is_in s) rs) (some_where (is_in s) rs (some_rates n ss rates))))
    (none first last rs each) (seconds_from first last) in
    plain (granted_to n ss) (sum_by octets rs) (sum_by (before (first / 1000000 + seconds_from first last)) rs) (allowed_from n ss first last) (granted_plain rs) (all first last rs each) bounded
  where
    plain : (g o b m : ℕ) → g ≡ o → b ≡ o → b ≤ m → g ≤ m
    plain g o b m e f h = omega arith

-- with one rate
one_rates : (n : Name) (rate : ℕ) (ss : List Stretch) → HasRate n rate ss → Each (λ r. r.rate ≡ rate) (rated_under n ss)
one_rates n rate [] h = tt
one_rates n rate (s ∷ ss) h = each_both (λ r. r.rate ≡ rate) (map (rated s.rates n) s.rounds) (rated_under n ss) (rate_rounds (λ x. x ≡ rate) s.rates n s.rounds h.0) (one_rates n rate ss h.1)

has_rates : (n : Name) (rate : ℕ) (ss : List Stretch) → rate ≢ 0 → HasRate n rate ss → HasRates n ss
has_rates n rate [] ne h = tt
has_rates n rate (s ∷ ss) ne h = ((λ zero. ne (sym h.0 ∙ zero)), has_rates n rate ss ne h.1)

greatest_one : (of : Round → Bool) (rate : ℕ) (rs : List RatedRound) → Each (λ r. r.rate ≡ rate) rs → greatest (rates_where of rs) ≤ rate
greatest_one of rate [] are = omega arith
greatest_one of rate (r ∷ rs) are = go (of r.round) (greatest_one of rate rs are.1)
  where
    go : (b : Bool) → greatest (rates_where of rs) ≤ rate → greatest (cond b (r.rate ∷ rates_where of rs) (rates_where of rs)) ≤ rate
    go true more = let same : r.rate ≡ rate = are.0 in omega arith
    go false more = more

with_true : (rate : ℕ) (rs : List RatedRound) → Each (λ r. r.rate ≡ rate) rs → Each (λ r. (true ≡ true) × (r.rate ≡ rate)) rs
with_true rate [] are = tt
with_true rate (r ∷ rs) are = ((refl, are.0), with_true rate rs are.1)

allowed_one : (n : Name) (rate : ℕ) (ss : List Stretch) → HasRate n rate ss → (first k : ℕ) → allowed_in n ss first k ≤ k * rate
allowed_one n rate ss h first zero = omega arith
allowed_one n rate ss h first (suc k) =
    let rs : List RatedRound = rated_under n ss in
    let are : Each (λ r. r.rate ≡ rate) rs = one_rates n rate ss h in
    plain (allowed_in n ss first k) (greatest (rates_where (is_in (first + k)) rs)) (changes (rates_where (is_in (first + k)) rs)) rate (k * rate) (suc k * rate)
    (allowed_one n rate ss h first k) (greatest_one (is_in (first + k)) rate rs are) (same_rate (λ _. true) (is_in (first + k)) rate rs (with_true rate rs are)) (times k rate)
  where
    times : (k b : ℕ) → suc k * b ≡ k * b + b
    times k b = omega arith

    plain : (a g c r kr sr : ℕ) → a ≤ kr → g ≤ r → c ≡ 0 → sr ≡ kr + r → a + (g + c) ≤ sr
    plain a g c r kr sr e f h m = omega arith

pub spans_are_kept : SpansAreKept
spans_are_kept ss first last kept between = record {
  allowed = λ n rates. allowed_kept n ss first last kept between rates;
  one_rate = λ n rate ne has.
      let a : granted_to n ss ≤ allowed_from n ss first last = allowed_kept n ss first last kept between (has_rates n rate ss ne has) in
      let b : allowed_from n ss first last ≤ seconds_from first last * rate = allowed_one n rate ss has (first / 1000000) (seconds_from first last) in
      plain (granted_to n ss) (allowed_from n ss first last) (seconds_from first last * rate) a b;
  server = granted_plain (rated_under Server ss) ∙ octets_all ss;
}
  where
    plain : (x y z : ℕ) → x ≤ y → y ≤ z → x ≤ z
    plain x y z a b = omega arith

-- what is hidden in a value is kept too
le_prop : (a b : ℕ) → IsProp (a ≤ b)
le_prop a b = hlevel props

pub within_by : SpansAreKept → (ss : List Stretch) (first last : ℕ) → ∥ StretchesKeep ss × AllBetween first last ss ∥₁ → IsWithinRates ss first last
within_by law ss first last hidden = record {
  allowed = λ n rates. ∥∥₁_elim hidden (le_prop (granted_to n ss) (allowed_from n ss first last)) (λ p. (law ss first last p.0 p.1).allowed n rates);
  one_rate = λ n rate ne has. ∥∥₁_elim hidden (le_prop (granted_to n ss) (seconds_from first last * rate)) (λ p. (law ss first last p.0 p.1).one_rate n rate ne has);
  server = granted_plain (rated_under Server ss) ∙ octets_all ss;
}

pub kept_by : (ss : List Stretch) (first last : ℕ) → ∥ StretchesKeep ss × AllBetween first last ss ∥₁ → StretchesKeep ss
kept_by ss first last hidden = record {
  seconds = ∥∥₁_elim hidden (run-seconds ss) (λ p. p.0.seconds);
  windows = ∥∥₁_elim hidden (windowed-prop ss) (λ p. p.0.windows);
}
