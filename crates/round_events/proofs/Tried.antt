-- The lanes after the tries of a round.
use Rattle.std.proofs.Common.{◌≡◌, ◌≢◌, ℕ, zero, suc, ◌+◌, ◌≤◌, ◌||◌, Bool, false, le-ltb, List, [], ◌∷◌, ◌++◌, map, length, get_or, refl, ap, ◌∙◌, subst, arith, All, Option, Some, None, IsPermutation, slice_get}
use Rattle.std.specs.List.{list_any}
use Rattle.std.proofs.lemmas.List.Elements.{All-cons, All-head, All-nil, All-tail}
use Rattle.std.proofs.lemmas.List.Sorted.{list_any-IsPermutation}
use Rattle.limit_tree.specs.declared.bounds.TheConstants.{MAX_WANT}
use Rattle.line_rates.specs.declared.ask.Ask.{Ask}
use Rattle.line_rates.specs.Names.{want_of}
use Rattle.line_rates.specs.TickTree.{Asker, ask_in}
use Rattle.world_terms.specs.declared.event.LaneState.TheVariants as state
use Rattle.world_terms.specs.Decisions.{asker_of, in_round_from, wants_too_much}
use Rattle.world_terms.specs.Lanes.{Lane}
use Rattle.lane_desk.specs.Tried.{asks_from}
use Rattle.round_events.specs.Worlds.{IsFoundOn}
use Rattle.round_events.proofs.Collects.{EachFound, collected, got}
use Rattle.round_events.proofs.Decided.{none_asks}
use Rattle.share_world.specs.Performed.{HasAsk}

abbrev pub IsIdle : Lane → Type 0
IsIdle l = l.shown.state ≢ state.Round

pub each_found : (given : ℕ → Bool) (f : ℕ → Option Ask) (k : ℕ) (ls : List Lane) → ((i : ℕ) (l : Lane) → slice_get ls i ≡ Some l → IsFoundOn (given (k + i)) (f (k + i)) l) → EachFound given f k ls
each_found given f k [] h = tt
each_found given f k (l ∷ ls) h = (
  subst (λ (n : ℕ). IsFoundOn (given n) (f n) l) (let e : k + 0 ≡ k = omega arith in e) (h 0 l refl),
  each_found given f (suc k) ls (λ i m e. subst (λ (n : ℕ). IsFoundOn (given n) (f n) m) (let e : k + suc i ≡ suc k + i = omega arith in e) (h (suc i) m e)),
)

one_asked : (given : Bool) (o : Option Ask) (l : Lane) → IsIdle l → IsFoundOn given o l → HasAsk (collected o l)
one_asked given None l idle h e = absurd (idle e)
one_asked given (Some a) l idle h e = (a, h.1)

pub asked_got : (given : ℕ → Bool) (f : ℕ → Option Ask) (k : ℕ) (ls : List Lane) → All IsIdle ls → EachFound given f k ls → All HasAsk (got f k ls)
asked_got given f k [] idle h = All-nil HasAsk
asked_got given f k (l ∷ ls) idle h = All-cons HasAsk (collected (f k) l) (got f (suc k) ls) (one_asked (given k) (f k) l (All-head IsIdle l ls idle) h.0) (asked_got given f (suc k) ls (All-tail IsIdle l ls idle) h.1)

one_asker : (given : Bool) (o : Option Ask) (k : ℕ) (l : Lane) (fs : List (Option Ask)) → IsIdle l → IsFoundOn given o l → asker_of k (collected o l).shown.state (collected o l).shown.ask ++ asks_from (k + 1) fs ≡ asks_from k (o ∷ fs)
one_asker given None k l fs idle h = ap (λ (xs : List Asker). xs ++ asks_from (k + 1) fs) (none_asks k l.shown.state l.shown.ask idle)
one_asker given (Some a) k l fs idle h = ap (λ (o : Option Ask). asker_of k state.Round o ++ asks_from (k + 1) fs) h.1

-- the asks in Round are those found
pub in_round_got : (given : ℕ → Bool) (f : ℕ → Option Ask) (k : ℕ) (fs : List (Option Ask)) (ls : List Lane) → length fs ≡ length ls → ((i : ℕ) → f (k + i) ≡ get_or fs i None) → All IsIdle ls → EachFound given f k ls → in_round_from k (got f k ls) ≡ asks_from k fs
in_round_got given f k [] [] e is idle h = refl
in_round_got given f k [] (l ∷ ls) e is idle h = absurd (omega (arith, e))
in_round_got given f k (o ∷ fs) [] e is idle h = absurd (omega (arith, e))
in_round_got given f k (o ∷ fs) (l ∷ ls) e is idle h =
    let first : f k ≡ o = (let z : k ≡ k + 0 = omega arith in ap f z) ∙ is 0 in
    let rest : in_round_from (suc k) (got f (suc k) ls) ≡ asks_from (suc k) fs =
    in_round_got given f (suc k) fs ls (omega (arith, e)) (λ i. (let z : suc k + i ≡ k + suc i = omega arith in ap f z) ∙ is (suc i)) (All-tail IsIdle l ls idle) h.1 in
    let next : suc k ≡ k + 1 = omega arith in
    ap (λ (xs : List Asker). asker_of k (collected (f k) l).shown.state (collected (f k) l).shown.ask ++ xs) (rest ∙ ap (λ (n : ℕ). asks_from n fs) next)
    ∙ one_asker (given k) (f k) k l fs (All-head IsIdle l ls idle) h.0 ∙ ap (λ (p : Option Ask). asks_from k (p ∷ fs)) first

-- no ask wants too much
none_large : (order : List Asker) → All (λ (n : ℕ). n ≤ MAX_WANT) (map want_of (map ask_in order)) → list_any wants_too_much order ≡ false
none_large [] h = refl
none_large (x ∷ order) h =
    let fits = λ (n : ℕ). n ≤ MAX_WANT in
    let wants : List ℕ = map want_of (map ask_in order) in
    ap (λ (b : Bool). b || list_any wants_too_much order) (le-ltb MAX_WANT x.1.want (All-head fits x.1.want wants h)) ∙ none_large order (All-tail fits x.1.want wants h)

pub none_wants : (asks order : List Asker) → IsPermutation asks order → All (λ (n : ℕ). n ≤ MAX_WANT) (map want_of (map ask_in order)) → list_any wants_too_much asks ≡ false
none_wants asks order p h = list_any-IsPermutation wants_too_much asks order p ∙ none_large order h

-- ---- lane by lane

pub got_at : (f : ℕ → Option Ask) (k : ℕ) (ls : List Lane) (i : ℕ) (l : Lane) → slice_get ls i ≡ Some l → slice_get (got f k ls) i ≡ Some (collected (f (k + i)) l)
got_at f k [] i l e = absurd (cc)
got_at f k (x ∷ ls) zero l e = let same : x ≡ l = cc in (λ q. Some (collected (f (let z : k ≡ k + 0 = omega arith in z q)) (same q)))
got_at f k (x ∷ ls) (suc i) l e = got_at f (suc k) ls i l e ∙ (let z : suc k + i ≡ k + suc i = omega arith in ap (λ (n : ℕ). Some (collected (f n) l)) z)

pub length-got : (f : ℕ → Option Ask) (k : ℕ) (ls : List Lane) → length (got f k ls) ≡ length ls
length-got f k [] = refl
length-got f k (l ∷ ls) = ap suc (length-got f (suc k) ls)
