-- What two lanes have had after rounds by turns.
use Rattle.std.proofs.Common.{◌≡◌, ℕ, zero, suc, ◌+◌, ◌-◌, ◌*◌, ◌<◌, ◌≤◌, ◌^◌, Bool, true, false, ◌&&◌, nat_lt, ◌%◌, nat_eq, List, [], ◌∷◌, ◌++◌, length, map, get_or, take, sym, refl, ap, ◌∙◌, subst, arith, inl, inr, min, eq-eqb, ne_eqb, get_or-set_same, get_or-set_other, Result, Ok, Err}
use Rattle.std.specs.Prelude.{slice_index, if◌then◌else◌, IfOk}
use Rattle.std.specs.List.{AllByRecursion}
use Rattle.std.proofs.Math.ListN.{length-set}
use Rattle.std.proofs.Math.Logic.{∥∥₁_elim}
use Rattle.std.proofs.Math.Bridge.{le_prop}
use Rattle.std.proofs.lemmas.Bool.{cases_eq, and_parts, ltb-true}
use Rattle.std.proofs.lemmas.List.{map-append, take_more}
use Rattle.std.proofs.lemmas.List.Elements.{recursion_from_All}
use Rattle.std.proofs.lemmas.List.Sums.{sum_by-cons}
use Rattle.line_rates.specs.declared.ask.Ask.{Ask}
use Rattle.line_rates.specs.Rates.{Rates}
use Rattle.lane_desk.specs.declared.record.RoundRecord.{RoundRecord}
use Rattle.lane_desk.specs.declared.record.RoundFault.{RoundFault}
use Rattle.lane_desk.specs.Peers.{turn_at, IsTurned}
use Rattle.lane_desk.proofs.PeerLemmas.{flipped}
use Rattle.paced_rounds.specs.declared.turns.TheConstants.{RISING, FALLING}
use Rattle.paced_rounds.specs.Evenness.{IsEven}
use Rattle.paced_rounds.specs.Turning.{second_of, starts, had_more, had_all, had_at, had_after}
use Rattle.paced_rounds.specs.LaneTurns.{TurnRound, LeafEntry, TurnEntry, lane_of, ask_of, grant_of, turn_in, turns_in, turns_at, turns_after, AreStarts, LeadTurned, IsSecond, to_lane, octets_to, had_by, AreBothOrNeither, LanesAreEven, RoundsAreEven}
use Rattle.paced_rounds.proofs.Even.{side}

-- the numbers after a round
had_more-length : (lane n : ℕ) (had : List ℕ) → length (had_more lane n had) ≡ length had
had_more-length lane n had = length-set had lane (min (slice_index had lane + 64 * n) (2 ^ 64 - 1))

lane_more : (lane l n : ℕ) (had : List ℕ) → lane < length had → slice_index had lane + 64 * (if nat_eq l lane then n else 0) < 2 ^ 64
    → slice_index (had_more l n had) lane ≡ slice_index had lane + 64 * (if nat_eq l lane then n else 0)
lane_more lane l n had inside few = elim (cases_eq l lane) [
  | inl same ↦
      let own : (if nat_eq l lane then n else 0) ≡ n = ap (λ (b : Bool). if b then n else 0) (eq-eqb l lane same) in
      let here : slice_index (had_more l n had) l ≡ min (slice_index had l + 64 * n) (2 ^ 64 - 1) = get_or-set_same had l (min (slice_index had l + 64 * n) (2 ^ 64 - 1)) 0 (omega arith) in
      omega (arith, own, here, ap (slice_index (had_more l n had)) same, ap (slice_index had) same, few)
  | inr other ↦
      let own : (if nat_eq l lane then n else 0) ≡ 0 = ap (λ (b : Bool). if b then n else 0) (ne_eqb l lane other) in
      let here : slice_index (had_more l n had) lane ≡ slice_index had lane = get_or-set_other had l lane (min (slice_index had l + 64 * n) (2 ^ 64 - 1)) 0 (λ e. other (sym e)) in
      omega (arith, own, here)
]

lane_all : (lane : ℕ) (lanes grants had : List ℕ) → lane < length had → slice_index had lane + 64 * to_lane lane lanes grants < 2 ^ 64 → slice_index (had_all lanes grants had) lane ≡ slice_index had lane + 64 * to_lane lane lanes grants
lane_all lane [] grants had inside few = omega arith
lane_all lane (l ∷ lanes) [] had inside few = omega arith
lane_all lane (l ∷ lanes) (n ∷ grants) had inside few =
    let one = lane_more lane l n had inside (omega (arith, few)) in
    omega (arith, one, lane_all lane lanes grants (had_more l n had) (omega (arith, inside, had_more-length l n had)) (omega (arith, one, few)))

all-length : (lanes grants had : List ℕ) → length (had_all lanes grants had) ≡ length had
all-length [] grants had = refl
all-length (l ∷ lanes) [] had = refl
all-length (l ∷ lanes) (n ∷ grants) had = all-length lanes grants (had_more l n had) ∙ had_more-length l n had

-- the grant to a lane
absent : (lane : ℕ) (lanes grants : List ℕ) → ((i : ℕ) → i < length lanes → slice_index lanes i ≡ lane → ⊥) → to_lane lane lanes grants ≡ 0
absent lane [] grants not = refl
absent lane (l ∷ lanes) [] not = refl
absent lane (l ∷ lanes) (n ∷ grants) not =
    let own : (if nat_eq l lane then n else 0) ≡ 0 = ap (λ (b : Bool). if b then n else 0) (ne_eqb l lane (λ e. not 0 (omega arith) e)) in
    omega (arith, own, absent lane lanes grants (λ i lt e. not (suc i) (omega arith) e))

abbrev Apart : List ℕ → Type 0
Apart lanes = (i j : ℕ) → i < length lanes → j < length lanes → slice_index lanes i ≡ slice_index lanes j → i ≡ j

single : (lanes grants : List ℕ) (i : ℕ) → Apart lanes → length lanes ≡ length grants → i < length lanes → to_lane (slice_index lanes i) lanes grants ≡ slice_index grants i
single [] grants i apart each lt = absurd (omega arith)
single (l ∷ lanes) [] i apart each lt = absurd (omega arith)
single (l ∷ lanes) (n ∷ grants) zero apart each lt =
    let own : (if nat_eq l l then n else 0) ≡ n = ap (λ (b : Bool). if b then n else 0) (eq-eqb l l refl) in
    omega (arith, own, absent l lanes grants (λ j inside e. (let same : 0 ≡ suc j = apart 0 (suc j) (omega arith) (omega arith) (sym e) in omega arith)))
single (l ∷ lanes) (n ∷ grants) (suc i) apart each lt =
    let lane : ℕ = slice_index lanes i in
    let own : (if nat_eq l lane then n else 0) ≡ 0 = ap (λ (b : Bool). if b then n else 0) (ne_eqb l lane (λ e. (let same : 0 ≡ suc i = apart 0 (suc i) (omega arith) lt e in omega arith))) in
    omega (arith, own, single lanes grants i (λ j k in_j in_k e. (let same : suc j ≡ suc k = apart (suc j) (suc k) (omega arith) (omega arith) e in omega arith)) (omega (arith, each)) (omega arith))

-- the grants of a round to two lanes
pub record IsStep (had : List ℕ) (a b c d x y : ℕ) : Type 0 where
  pub one : x ≤ y + 1
  pub other : y ≤ x + 1
  pub less : c < d → y ≤ x
  pub more : d < c → x ≤ y

-- the number of a lane is that of its octets, and less than one more
abbrev HasHad : List ℕ → ℕ → ℕ → Type 0
HasHad had lane c = (64 * c ≤ slice_index had lane) × (slice_index had lane < 64 * c + 64)

step : (had : List ℕ) (r : TurnRound) (a b c d : ℕ) → IsTurned had r.rates r.lanes r.asks r.grants → a < 64 → b < 64 → HasHad had a c → HasHad had b d → AreBothOrNeither a b r → IsStep had a b c d (octets_to a r) (octets_to b r)
step had r a b c d turned in_a in_b had_a had_b (inl none) =
    let x = absent a r.lanes r.grants none.0 in
    let y = absent b r.lanes r.grants none.1 in
    record { one = omega (arith, x); other = omega (arith, y); less = λ l. omega (arith, y); more = λ l. omega (arith, x) }
step had r a b c d turned in_a in_b had_a had_b (inr both) =
    let i = both.0 in
    let j = both.1 in
    let is_a = both.4 in
    let is_b = both.5 in
    let p = both.6 in
    let q = flipped r.rates r.asks r.grants i j p in
    let x : octets_to a r ≡ slice_index r.grants i = ap (λ lane. to_lane lane r.lanes r.grants) (sym is_a) ∙ single r.lanes r.grants i turned.apart turned.each both.2 in
    let y : octets_to b r ≡ slice_index r.grants j = ap (λ lane. to_lane lane r.lanes r.grants) (sym is_b) ∙ single r.lanes r.grants j turned.apart turned.each both.3 in
    let turn_a : turn_at had r.lanes i ≡ slice_index had a * 64 + a = ap (λ n. slice_index had n * 64 + n) is_a in
    let turn_b : turn_at had r.lanes j ≡ slice_index had b * 64 + b = ap (λ n. slice_index had n * 64 + n) is_b in
    record {
      one = omega (arith, x, y, turned.near i j p);
      other = omega (arith, x, y, turned.near j i q);
      less = λ l. omega (arith, x, y, turned.first i j p (omega (arith, turn_a, turn_b, had_a.1, had_b.0, l)));
      more = λ l. omega (arith, x, y, turned.first j i q (omega (arith, turn_a, turn_b, had_b.1, had_a.0, l)));
    }

has_more : (had : List ℕ) (r : TurnRound) (lane c : ℕ) → lane < length had → HasHad had lane c → c + octets_to lane r < 2 ^ 58 → HasHad (had_all r.lanes r.grants had) lane (c + octets_to lane r)
has_more had r lane c inside was few =
    let all = lane_all lane r.lanes r.grants had inside (omega (arith, was.1, few)) in
    (omega (arith, all, was.0), omega (arith, all, was.1))

even_from : (had : List ℕ) (rs : List TurnRound) (now : List ℕ) (a b c d : ℕ) → length had ≡ 64 → a < 64 → b < 64 → HasHad had a c → HasHad had b d → IsEven c d → LeadTurned had rs now → AllByRecursion (AreBothOrNeither a b) rs → c + had_by a rs < 2 ^ 58 → d + had_by b rs < 2 ^ 58
    → IsEven (c + had_by a rs) (d + had_by b rs)
even_from had [] now a b c d wide in_a in_b had_a had_b even lead all few_a few_b = record { one = omega (arith, even.one); other = omega (arith, even.other) }
even_from had (r ∷ rs) now a b c d wide in_a in_b had_a had_b even lead all few_a few_b =
    let x = octets_to a r in
    let y = octets_to b r in
    let sum_a = sum_by-cons (octets_to a) r rs in
    let sum_b = sum_by-cons (octets_to b) r rs in
    let one = step had r a b c d lead.0 in_a in_b had_a had_b all.0 in
    let after : IsEven (c + x) (d + y) = record { one = side c d x y even.one one.one one.more; other = side d c y x even.other one.other one.less } in
    let rest = even_from (had_all r.lanes r.grants had) rs now a b (c + x) (d + y) (all-length r.lanes r.grants had ∙ wide) in_a in_b
    (has_more had r a c (omega (arith, wide)) had_a (omega (arith, sum_a, few_a))) (has_more had r b d (omega (arith, wide)) had_b (omega (arith, sum_b, few_b))) after lead.1 all.1 (omega (arith, sum_a, few_a)) (omega (arith, sum_b, few_b)) in
    record { one = omega (arith, rest.one, sum_a, sum_b); other = omega (arith, rest.other, sum_a, sum_b) }

pub rounds_even : RoundsAreEven
rounds_even had rs second a b in_a in_b all few_a few_b =
    let begun = second.begun in
    let start : (lane : ℕ) → HasHad begun lane 0 = λ lane. (omega arith, omega (arith, second.starts.small lane)) in
    let even = even_from begun rs had a b 0 0 second.starts.wide in_a in_b (start a) (start b) (record { one = omega arith; other = omega arith }) second.lead (recursion_from_All (AreBothOrNeither a b) rs all) (omega (arith, few_a)) (omega (arith, few_b)) in
    record { one = omega (arith, even.one); other = omega (arith, even.other) }

-- as far as it is known
pub lanes_even : RoundsAreEven → (had : List ℕ) (rs : List TurnRound) → ∥ IsSecond had rs ∥₁ → LanesAreEven rs
lanes_even law had rs second a b in_a in_b all few_a few_b = record {
  one = ∥∥₁_elim second le_prop (λ s. (law had rs s a b in_a in_b all few_a few_b).one);
  other = ∥∥₁_elim second le_prop (λ s. (law had rs s a b in_a in_b all few_a few_b).other);
}

-- the numbers as a second begins
all_small : List ℕ → Bool
all_small [] = true
all_small (x ∷ xs) = nat_lt x 64 && all_small xs

small_at : (xs : List ℕ) → all_small xs ≡ true → (i : ℕ) → slice_index xs i < 64
unfolding all_small
small_at [] all i = omega arith
small_at (x ∷ xs) all zero = ltb-true x 64 (and_parts (nat_lt x 64) (all_small xs) all).0
small_at (x ∷ xs) all (suc i) = small_at xs (and_parts (nat_lt x 64) (all_small xs) all).1 i

rising : AreStarts RISING
unfolding all_small
rising = record { wide = refl; small = small_at RISING refl }

falling : AreStarts FALLING
unfolding all_small
falling = record { wide = refl; small = small_at FALLING refl }

pub second_new : (rs : List TurnRound) → rs ≡ [] → IsSecond RISING rs
second_new rs none = subst (IsSecond RISING) (sym none) (record { begun = RISING; starts = rising; lead = refl })

started : (second : ℕ) → AreStarts (starts second)
started second = go (nat_eq (second % 2) 0)
  where
    go : (b : Bool) → AreStarts (if b then RISING else FALLING)
    go true = rising
    go false = falling

pub second_at : (now latest : ℕ) (had : List ℕ) (rs : List TurnRound) → IsSecond had rs → IsSecond (had_at now latest had) (turns_at now latest rs)
second_at now latest had rs was = go (nat_eq (second_of latest) (second_of now))
  where
    go : (b : Bool) → IsSecond (if b then had else starts (second_of now)) (if b then rs else [])
    go true = was
    go false = record { begun = starts (second_of now); starts = started (second_of now); lead = refl }

lead_more : (begun : List ℕ) (rs : List TurnRound) (had : List ℕ) (r : TurnRound) → LeadTurned begun rs had → IsTurned had r.rates r.lanes r.asks r.grants → LeadTurned begun (rs ++ r ∷ []) (had_all r.lanes r.grants had)
lead_more begun [] had r lead turned = subst (λ h. IsTurned h r.rates r.lanes r.asks r.grants × (had_all r.lanes r.grants h ≡ had_all r.lanes r.grants had)) (sym lead) (turned, refl)
lead_more begun (s ∷ rs) had r lead turned = (lead.0, lead_more (had_all s.lanes s.grants begun) rs had r lead.1 turned)

pub second_after : {A : Type 0} (rates : Rates) (out : Result (RoundRecord A) RoundFault) (had : List ℕ) (rs : List TurnRound) → IfOk out (λ r. IsTurned had rates r.lanes.items r.asks.items r.sealed.grants) → IsSecond had rs → IsSecond (had_after out had) (turns_after rates out rs)
second_after rates (Ok r) had rs turned was = record {
  begun = was.begun;
  starts = was.starts;
  lead = lead_more was.begun rs had (record { rates = rates; lanes = r.lanes.items; asks = r.asks.items; grants = r.sealed.grants }) was.lead turned;
}
second_after rates (Err f) had rs turned was = was

-- the leaves of a round, one after another
pub entry_more : {Y : Type 0} (f : LeafEntry → Y) (xs : List Y) (n : ℕ) (old new : List LeafEntry) (x : LeafEntry) → new ≡ old ++ x ∷ [] → map f old ≡ take n xs → n < length xs → ((d : Y) → f x ≡ get_or xs n d) → map f new ≡ take (n + 1) xs
entry_more f xs n old new x is all inside at =
    ap (map f) is ∙ (map-append f old (x ∷ []) ∙ (ap (λ us. us ++ f x ∷ []) all ∙ (ap (λ y. take n xs ++ y ∷ []) (at (f x)) ∙ sym (take_more xs n (f x) inside))))

-- one round more in the log
pub note_more : (items new : List TurnEntry) (x : TurnEntry) (lanes : List ℕ) (asks : List Ask) (grants : List ℕ) → new ≡ items ++ x ∷ [] → map lane_of x.1.items ≡ lanes → map ask_of x.1.items ≡ asks → map grant_of x.1.items ≡ grants
    → turns_in new ≡ turns_in items ++ record { rates = x.0.offered; lanes = lanes; asks = asks; grants = grants } ∷ []
note_more items new x lanes asks grants is one two three =
    ap turns_in is ∙ (map-append turn_in items (x ∷ []) ∙ (λ k. turns_in items ++ record { rates = x.0.offered; lanes = one k; asks = two k; grants = three k } ∷ []))

pub at_any : {X : Type 0} (xs : List X) (i : ℕ) (d e : X) → i < length xs → get_or xs i d ≡ get_or xs i e
at_any [] i d e lt = absurd (omega arith)
at_any (x ∷ xs) zero d e lt = refl
at_any (x ∷ xs) (suc i) d e lt = at_any xs i d e (omega arith)
