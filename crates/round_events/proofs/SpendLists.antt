-- The octets moved of the grants taken on a lane, read from the front.
use Rattle.std.proofs.Common.{◌≡◌, ◌≢◌, ℕ, suc, ◌+◌, ◌≤◌, Bool, true, false, cond, nat_eq, eq-eqb, ◌∙◌, List, [], ◌∷◌, length, sym, refl, ap, subst, arith, Some}
use mathlib.Core.Logic.{dite}
use native.Mathlib.Decide.{ℕ_discrete}
use Rattle.world_terms.specs.declared.event.Event.TheVariants as event
use Rattle.world_terms.specs.declared.event.EventAnswer.TheVariants as answer
use Rattle.desk_rule.specs.Steps.{Done}
use Rattle.round_events.specs.Spends.{AreMovedOf, SpendsFit, in_hand, taken_on}

abbrev pub tail_of : List ℕ → List ℕ
tail_of [] = []
tail_of (m ∷ ms) = ms

-- 1 if nothing is moved of the next grant
abbrev pub unspent : List ℕ → ℕ
unspent [] = 1
unspent (m ∷ ms) = 0

-- These octets are moved of the grants taken on lane i by these steps. `kept` is 1 if a grant was
-- taken before that is in hand to the end; `last` is 1 if the last step of the worker was a take.
pub record LaneFits (moved : List ℕ) (kept last i : ℕ) (ds : List Done) : Type 0 where
  pub moves : AreMovedOf (taken_on i ds) moved
  pub all : kept + length (taken_on i ds) ≤ length moved + in_hand i last ds
  pub one : kept ≢ 0 → length moved ≡ 0

more_taken : (b : Bool) (i n m : ℕ) (ds : List Done) → in_hand i 1 ds ≤ 1 + length (taken_on i ds) → in_hand i n ds ≤ n + length (taken_on i ds) → in_hand i (cond b 1 n) ds ≤ n + length (cond b (m ∷ taken_on i ds) (taken_on i ds))
more_taken true i n m ds h k = omega (arith, h)
more_taken false i n m ds h k = k

not_more : (b : Bool) (i n : ℕ) (ds : List Done) → in_hand i 0 ds ≤ 0 + length (taken_on i ds) → in_hand i n ds ≤ n + length (taken_on i ds) → in_hand i (cond b 0 n) ds ≤ n + length (taken_on i ds)
not_more true i n ds h k = omega (arith, h)
not_more false i n ds h k = k

hand_few : (i n : ℕ) (ds : List Done) → in_hand i n ds ≤ n + length (taken_on i ds)
hand_few i n [] = omega arith
hand_few i n (Some (event.Taken j, answer.Taken m) ∷ ds) = more_taken (nat_eq j i) i n m ds (hand_few i 1 ds) (hand_few i n ds)
hand_few i n (Some (event.Asked j b, a) ∷ ds) = not_more (nat_eq j i) i n ds (hand_few i 0 ds) (hand_few i n ds)
hand_few i n (Some (event.Rise j, a) ∷ ds) = not_more (nat_eq j i) i n ds (hand_few i 0 ds) (hand_few i n ds)
hand_few i n (d ∷ ds) = hand_few i n ds

-- a step of a worker on lane j that takes a grant, seen from lane i: `b` says whether they are one
pub taken_fits : (b : Bool) (n : ℕ) (ms : List ℕ) (kept last i : ℕ) (ds : List Done) → AreMovedOf (cond b (n ∷ taken_on i ds) (taken_on i ds)) ms
    → kept + length (cond b (n ∷ taken_on i ds) (taken_on i ds)) ≤ length ms + in_hand i (cond b 1 last) ds → (kept ≢ 0 → length ms ≡ 0)
    → LaneFits (cond b (tail_of ms) ms) (cond b (unspent ms) kept) (cond b 1 last) i ds
taken_fits false n ms kept last i ds h few one = record { moves = h; all = few; one = one }
taken_fits true n [] kept last i ds h few one = record { moves = record { many = omega arith; each = λ k less. absurd (omega (arith, less)) }; all = omega (arith, few); one = λ ne. refl }
taken_fits true n (m ∷ ms) kept last i ds h few one = record {
  moves = record { many = omega (arith, h.many); each = λ k less. h.each (suc k) (omega (arith, less)) };
  all = omega (arith, few);
  one = λ ne. absurd (ne refl);
}

few_kept : (kept moved taken hand : ℕ) → kept + taken ≤ moved + hand → hand ≤ 0 + taken → (kept ≢ 0 → moved ≡ 0) → kept ≡ 0
few_kept kept moved taken hand few h one = dite (ℕ_discrete kept 0) (λ e. e) (λ ne. let none = one ne in omega (arith, few, h, none))

-- a worker that asks or rises has nothing in hand
pub none_kept : (ms : List ℕ) (kept last i : ℕ) (ds : List Done) → kept + length (taken_on i ds) ≤ length ms + in_hand i (cond (nat_eq i i) 0 last) ds → (kept ≢ 0 → length ms ≡ 0) → kept ≡ 0
none_kept ms kept last i ds few one =
    few_kept kept (length ms) (length (taken_on i ds)) (in_hand i 0 ds)
    (subst (λ (b : Bool). kept + length (taken_on i ds) ≤ length ms + in_hand i (cond b 0 last) ds) (eq-eqb i i refl) few) (hand_few i 0 ds) one

pub all_fit : (spent : ℕ → List ℕ) (ds : List Done) → SpendsFit spent ds → (i : ℕ) → LaneFits (spent i) 0 0 i ds
all_fit spent ds f i = record { moves = f.moved i; all = omega (arith, f.all i); one = λ ne. absurd (ne refl) }

no_moves : (ms : List ℕ) → length ms ≤ 0 → ms ≡ []
no_moves [] h = refl
no_moves (m ∷ ms) h = absurd (omega (arith, h))

-- after the last step nothing is left to move
pub at_the_end : (ms : List ℕ) (kept last i : ℕ) → LaneFits ms kept last i [] → ms ≡ []
at_the_end ms kept last i f = no_moves ms (omega (arith, f.moves.many))

-- the octets moved of a grant, before those of the later ones
pub with_moved : (b : Bool) (m : ℕ) (xs : List ℕ) → (b ≡ true → xs ≡ m ∷ tail_of xs) → cond b (m ∷ cond b (tail_of xs) xs) (cond b (tail_of xs) xs) ≡ xs
with_moved true m xs h = sym (h refl)
with_moved false m xs h = refl

pub with_none : (b : Bool) (xs : List ℕ) → (b ≡ true → xs ≡ []) → cond b (tail_of xs) xs ≡ xs
with_none true xs h = ap tail_of (h refl) ∙ sym (h refl)
with_none false xs h = refl
