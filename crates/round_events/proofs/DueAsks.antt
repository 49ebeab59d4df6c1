-- The asks that are due: one more is found, or one is answered.
use Rattle.std.proofs.Common.{◌≡◌, ◌≢◌, ℕ, zero, suc, ◌+◌, ◌<◌, inl, inr, List, [], ◌∷◌, ◌++◌, length, get_or, set, sym, refl, ◌∙◌, subst, arith, get_or-set_other, Option, Some, None, IsPermutation}
use Rattle.std.proofs.lemmas.List.Sorted.{IsPermutation-cons, IsPermutation-middle, IsPermutation-push_more, IsPermutation-refl, IsPermutation-trans}
use mathlib.Core.Logic.{dite}
use native.Mathlib.Decide.{ℕ_discrete}
use Rattle.grant_ledger.specs.Books.{NamesNot}
use Rattle.line_rates.specs.declared.ask.Ask.{Ask}
use Rattle.line_rates.specs.TickTree.{Asker}
use Rattle.world_terms.specs.declared.event.LaneState.TheVariants as state
use Rattle.world_terms.specs.Lanes.{Shown}
use Rattle.lane_desk.specs.Tried.{asks_from}
use Rattle.lane_desk.proofs.PostedLemmas.{names_other}
use Rattle.round_events.proofs.DeskDecision.{IsDueOn}
use Rattle.round_events.proofs.Found.{AreFound}

-- one ask is due on a lane, or none
pub one_due_on : (o p : Option Ask) (x : Shown) → IsDueOn o x → IsDueOn p x → o ≡ p
one_due_on o p x (inl d) (inl e) = d.1 ∙ sym e.1
one_due_on o p x (inl d) (inr e) = absurd (e.0 d.0)
one_due_on o p x (inr d) (inl e) = absurd (d.0 e.0)
one_due_on o p x (inr d) (inr e) = d.1 ∙ sym e.1

pub none_is_due : (o : Option Ask) (x : Shown) → IsDueOn o x → x.state ≢ state.Round → o ≡ None
none_is_due o x (inl d) ne = absurd (ne d.0)
none_is_due o x (inr d) ne = d.1

-- a lane that is not with the round before and after has nothing due
pub still_none : (o : Option Ask) (x y : Shown) → IsDueOn o x → x.state ≢ state.Round → y.state ≢ state.Round → IsDueOn o y
still_none o x y d ne ne' = inr (ne', none_is_due o x d ne)

one_found : (k : ℕ) (os : List (Option Ask)) (i : ℕ) (a : Ask) → i < length os → get_or os i None ≡ None → IsPermutation ((k + i, a) ∷ asks_from k os) (asks_from k (set os i (Some a)))
one_found k [] i a less e = absurd (omega arith)
one_found k (None ∷ os) zero a less e =
    let at : k + 0 ≡ k = omega arith in
    subst (λ (n : ℕ). IsPermutation ((n, a) ∷ asks_from (k + 1) os) ((k, a) ∷ asks_from (k + 1) os)) (sym at) (IsPermutation-refl ((k, a) ∷ asks_from (k + 1) os))
one_found k (Some b ∷ os) zero a less e = absurd (cc)
one_found k (None ∷ os) (suc i) a less e =
    let at : k + 1 + i ≡ k + suc i = omega arith in
    subst (λ (n : ℕ). IsPermutation ((n, a) ∷ asks_from (k + 1) os) (asks_from (k + 1) (set os i (Some a)))) at (one_found (k + 1) os i a (omega arith) e)
one_found k (Some b ∷ os) (suc i) a less e =
    let at : k + 1 + i ≡ k + suc i = omega arith in
    let rest : IsPermutation ((k + suc i, a) ∷ asks_from (k + 1) os) (asks_from (k + 1) (set os i (Some a))) =
    subst (λ (n : ℕ). IsPermutation ((n, a) ∷ asks_from (k + 1) os) (asks_from (k + 1) (set os i (Some a)))) at (one_found (k + 1) os i a (omega arith) e) in
    IsPermutation-trans _ _ _ (IsPermutation-middle ((k + suc i, a) ∷ []) (k, b) (asks_from (k + 1) os)) (IsPermutation-cons (k, b) _ _ rest)

-- the asks found and due, with one more
pub found_more : (had : List Asker) (os : List (Option Ask)) (i : ℕ) (a : Ask) → IsPermutation had (asks_from 0 os) → i < length os → get_or os i None ≡ None → IsPermutation (had ++ (i, a) ∷ []) (asks_from 0 (set os i (Some a)))
found_more had os i a p less e =
    let at : 0 + i ≡ i = omega arith in
    IsPermutation-push_more had (asks_from 0 os) (asks_from 0 (set os i (Some a))) (i, a) p
    (subst (λ (n : ℕ). IsPermutation ((n, a) ∷ asks_from 0 os) (asks_from 0 (set os i (Some a)))) at (one_found 0 os i a less e))

pub set_none : (os : List (Option Ask)) (i : ℕ) → get_or (set os i None) i None ≡ None
set_none [] i = refl
set_none (o ∷ os) zero = refl
set_none (o ∷ os) (suc i) = set_none os i

later_place : (l : ℕ) (ls : List ℕ) (i j : ℕ) → i ≢ l → j < length (l ∷ ls) → get_or (l ∷ ls) j 0 ≡ i → (m : ℕ) × (m < length ls) × (get_or ls m 0 ≡ i)
later_place l ls i zero ne less e = absurd (ne (sym e))
later_place l ls i (suc j) ne less e = (j, omega (arith, less), e)

-- the lanes that are due, once the first is answered
pub found_less : (os : List (Option Ask)) (l : ℕ) (ls : List ℕ) → AreFound os (l ∷ ls) → AreFound (set os l None) ls
found_less os l ls f =
    let else : (i : ℕ) → i ≢ l → get_or (set os l None) i None ≡ get_or os i None = λ i ne. get_or-set_other os l i None None ne in
    record {
      once = f.once.1;
      some = λ j less. let k = f.some (suc j) (omega (arith, less)) in (k.0, else (get_or ls j 0) (names_other l ls j f.once.0 less) ∙ k.1);
      none = λ i e. dite (ℕ_discrete i l)
          (λ same. subst (λ (n : ℕ). NamesNot n ls) (sym same) f.once.0)
          (λ ne. (f.none i (sym (else i ne) ∙ e)).1);
      place = λ i a e. dite (ℕ_discrete i l)
          (λ same. let bad : None ≡ Some a = sym (set_none os l) ∙ subst (λ (n : ℕ). get_or (set os l None) n None ≡ Some a) same e in absurd (cc))
          (λ ne. let k = f.place i a (sym (else i ne) ∙ e) in later_place l ls i k.0 ne k.1 k.2);
    }

none_left : (os : List (Option Ask)) (k : ℕ) → ((i : ℕ) (a : Ask) → get_or os i None ≡ Some a → ⊥) → asks_from k os ≡ []
none_left [] k h = refl
none_left (None ∷ os) k h = none_left os (k + 1) (λ i a e. h (suc i) a e)
none_left (Some a ∷ os) k h = absurd (h 0 a refl)

-- once all lanes are answered, nothing is due
pub all_answered : (os : List (Option Ask)) → AreFound os [] → asks_from 0 os ≡ []
all_answered os f = none_left os 0 (λ i a e. let k = f.place i a e in let less = k.1 in omega (arith, less))
