-- What is held after a decision, and the amounts that wait to be posted.
use Rattle.std.proofs.Common.{◌≡◌, ◌≢◌, ℕ, zero, suc, ◌+◌, Bool, true, false, cond, nat_eq, eq-eqb, ne_eqb, List, [], ◌∷◌, length, map, set, sym, refl, ap, ◌∙◌, subst, arith, Option, Some, None, slice_get}
use mathlib.Core.Logic.{dite}
use native.Mathlib.Decide.{ℕ_discrete}
use Rattle.line_rates.specs.TickTree.{Asker, lane_in}
use Rattle.world_terms.specs.Lanes.{Hidden, amount, hidden}
use Rattle.grant_ledger.specs.Books.{NamesNot}
use Rattle.lane_desk.specs.Posted.{nothing_for}
use Rattle.round_events.specs.Desk.{NoneDecided, decided_by, grant_on}
use Rattle.round_events.proofs.DeskDecision.{no_grant}
use Rattle.round_events.proofs.Merging.{get_else, get_same, there}

-- the amount decided for each lane is the one that waits there; if none waits, none is decided
abbrev pub Waits : (ℕ → Option ℕ) → List Hidden → Type 0
Waits g xs = (i : ℕ) (y : Hidden) → slice_get xs i ≡ Some y → (amount y.decided ≡ amount (g i)) × (g i ≡ None → y.decided ≡ None)

pub none_decided : (xs : List Hidden) → Waits (λ i. None) xs → NoneDecided xs
none_decided xs w i d less =
    let t = there xs i less in
    subst (λ (y : Hidden). y.decided ≡ None) (sym (t.2 d)) ((w i t.0 t.1).1 refl)

-- a lane after a decision
pub decided_at : (f : ℕ → Option ℕ) (k : ℕ) (xs : List Hidden) (i : ℕ) (y : Hidden) → slice_get (decided_by f k xs) i ≡ Some y → (x : Hidden) × (slice_get xs i ≡ Some x) × (y ≡ hidden x.moved x.back x.hand (f (k + i)))
decided_at f k [] i y e = absurd (cc)
decided_at f k (x ∷ xs) zero y e =
    let same : ◌≡◌ {A = Hidden} (hidden x.moved x.back x.hand (f k)) y = cc in
    let at : k ≡ k + 0 = omega arith in
    (x, refl, sym same ∙ ap (λ (n : ℕ). hidden x.moved x.back x.hand (f n)) at)
decided_at f k (x ∷ xs) (suc i) y e =
    let at : suc k + i ≡ k + suc i = omega arith in
    let r = decided_at f (suc k) xs i y e in
    (r.0, r.1, r.2 ∙ ap (λ (n : ℕ). hidden r.0.moved r.0.back r.0.hand (f n)) at)

pub length-decided : (f : ℕ → Option ℕ) (k : ℕ) (xs : List Hidden) → length (decided_by f k xs) ≡ length xs
length-decided f k [] = refl
length-decided f k (x ∷ xs) = ap suc (length-decided f (suc k) xs)

pub waits_decided : (f : ℕ → Option ℕ) (xs : List Hidden) → Waits f (decided_by f 0 xs)
waits_decided f xs i y e =
    let r = decided_at f 0 xs i y e in
    let at : 0 + i ≡ i = omega arith in
    let is : y.decided ≡ f i = ap (λ (z : Hidden). z.decided) r.2 ∙ ap f at in
    (ap amount is, λ none. is ∙ none)

-- nothing waits but answers of 0
nothing_on : (found : List Asker) (i : ℕ) → amount (grant_on (map lane_in found) (map nothing_for found) i) ≡ 0
nothing_on [] i = refl
nothing_on (x ∷ found) i = by_lane (nat_eq x.0 i) (nothing_on found i)
  where
    by_lane : (b : Bool) → amount (grant_on (map lane_in found) (map nothing_for found) i) ≡ 0 → amount (cond b (Some 0) (grant_on (map lane_in found) (map nothing_for found) i)) ≡ 0
    by_lane true h = refl
    by_lane false h = h

pub waits_nothing : (found : List Asker) (xs : List Hidden) → Waits (λ i. None) xs → Waits (grant_on (map lane_in found) (map nothing_for found)) xs
waits_nothing found xs w i y e =
    let none : y.decided ≡ None = (w i y e).1 refl in
    (ap amount none ∙ sym (nothing_on found i), λ _. none)

pub first_grant : (l m : ℕ) (ls ms : List ℕ) → grant_on (l ∷ ls) (m ∷ ms) l ≡ Some m
first_grant l m ls ms = ap (λ (b : Bool). cond b (Some m) (grant_on ls ms l)) (eq-eqb l l refl)

other_grant : (l m : ℕ) (ls ms : List ℕ) (i : ℕ) → i ≢ l → grant_on (l ∷ ls) (m ∷ ms) i ≡ grant_on ls ms i
other_grant l m ls ms i ne = ap (λ (b : Bool). cond b (Some m) (grant_on ls ms i)) (ne_eqb l i (λ e. ne (sym e)))

-- the first amount is posted
pub waits_posted : (l m : ℕ) (ls ms : List ℕ) (xs : List Hidden) (x : Hidden) → NamesNot l ls → x.decided ≡ None → Waits (grant_on (l ∷ ls) (m ∷ ms)) xs → Waits (grant_on ls ms) (set xs l x)
waits_posted l m ls ms xs x once unset w i y e = dite (ℕ_discrete i l)
    (λ same.
    let is : y ≡ x = get_same xs l x y (subst (λ (n : ℕ). slice_get (set xs l x) n ≡ Some y) same e) in
    let none : y.decided ≡ None = ap (λ (z : Hidden). z.decided) is ∙ unset in
    (ap amount none ∙ sym (ap (λ (n : ℕ). amount (grant_on ls ms n)) same ∙ ap amount (no_grant ls ms l once)), λ _. none))
    (λ ne.
    let r = w i y (sym (get_else xs l i x ne) ∙ e) in
    let other = other_grant l m ls ms i ne in
    (r.0 ∙ ap amount other, λ none. r.1 (other ∙ none)))
