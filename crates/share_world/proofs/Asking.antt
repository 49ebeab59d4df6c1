-- What lanes ask.
use Rattle.std.proofs.Common.{◌≡◌, ℕ, zero, suc, ◌+◌, ◌<◌, ◌≤◌, Bool, true, false, List, [], ◌∷◌, ◌++◌, length, drop, take, get_or, take_all, sym, refl, ap, ◌∙◌, subst, arith, append_assoc, Option, Some, None}
use Rattle.std.specs.Prelude.{All}
use Rattle.std.proofs.lemmas.List.{take_more}
use Rattle.std.proofs.lemmas.List.Elements.{All-append}
use Rattle.line_rates.specs.declared.ask.Ask.{Ask}
use Rattle.line_rates.specs.TickTree.{Asker}
use Rattle.world_terms.specs.declared.event.LaneState.{LaneState}
use Rattle.world_terms.specs.declared.event.LaneState.TheVariants as state
use Rattle.world_terms.specs.Decisions.{AllPosted, asker_of, in_round, in_round_from}
use Rattle.world_terms.specs.Lanes.{Lane}
use Rattle.share_world.specs.Kept.{IsSound, IsUnasked}
use Rattle.share_world.specs.Performed.{HasAsk, due_ask, due_in}

pub has_ask : (l : Lane) → IsSound l → HasAsk l
has_ask l s here = by_ask l.shown.ask refl
  where
    by_ask : (o : Option Ask) → l.shown.ask ≡ o → (a : Ask) × (l.shown.ask ≡ Some a)
    by_ask (Some a) e = (a, e)
    by_ask None e = absurd (subst IsUnasked here (s.unasked e).1)

-- the asks from lane i on begin with the ask of that lane
abbrev pub asker_if : ℕ → Option Ask → List Asker
asker_if i (Some a) = (i, a) ∷ []
asker_if i None = []

due_is : (i : ℕ) (s : LaneState) (o : Option Ask) → asker_of i s o ≡ asker_if i (due_in s o)
due_is i state.Free o = refl
due_is i state.Worker o = refl
due_is i state.Asked o = refl
due_is i state.Round (Some a) = refl
due_is i state.Round None = refl
due_is i state.Granted o = refl

pub drop_here : {X : Type 0} (xs : List X) (i : ℕ) (x : X) → i < length xs → x ≡ get_or xs i x → drop i xs ≡ x ∷ drop (suc i) xs
drop_here [] i x less here = absurd (omega arith)
drop_here (y ∷ xs) zero x less here = ap (λ z. z ∷ xs) (sym here)
drop_here (y ∷ xs) (suc i) x less here = drop_here xs i x (omega arith) here

asks_here : (ls : List Lane) (i k : ℕ) (l : Lane) (o : Option Ask) → k ≡ i + 1 → i < length ls → l ≡ get_or ls i l → o ≡ due_ask l
    → in_round_from i (drop i ls) ≡ asker_if i o ++ in_round_from k (drop k ls)
asks_here ls i k l o next less here due =
    ap (in_round_from i) (drop_here ls i l less here)
    ∙ ap (λ (xs : List Asker). xs ++ in_round_from (suc i) (drop (suc i) ls)) (due_is i l.shown.state l.shown.ask ∙ ap (asker_if i) (sym due))
    ∙ ap (λ (n : ℕ). asker_if i o ++ in_round_from n (drop n ls)) (let e : suc i ≡ k = omega arith in e)

pub asks_step : (ls : List Lane) (i k : ℕ) (l : Lane) (o : Option Ask) (old new : List Asker) → k ≡ i + 1 → i < length ls → l ≡ get_or ls i l → o ≡ due_ask l
    → new ≡ old ++ asker_if i o → old ++ in_round_from i (drop i ls) ≡ in_round ls → new ++ in_round_from k (drop k ls) ≡ in_round ls
asks_step ls i k l o old new next less here due more all =
    ap (λ (xs : List Asker). xs ++ in_round_from k (drop k ls)) more
    ∙ append_assoc old (asker_if i o) (in_round_from k (drop k ls))
    ∙ ap (λ (xs : List Asker). old ++ xs) (sym (asks_here ls i k l o next less here due))
    ∙ all

single : (P : Lane → Type 0) (l : Lane) → P l → All P (l ∷ [])
single P l h zero d less = h
single P l h (suc k) d less = absurd (omega arith)

pub all_more : (P : Lane → Type 0) (ls : List Lane) (i k : ℕ) (l : Lane) → k ≡ i + 1 → i < length ls → l ≡ get_or ls i l → All P (take i ls) → P l → All P (take k ls)
all_more P ls i k l next less here old h =
    subst (λ (n : ℕ). All P (take n ls)) (sym next)
    (subst (All P) (sym (take_more ls i l less)) (All-append P (take i ls) (get_or ls i l ∷ []) old (single P (get_or ls i l) (subst P here h))))

pub all_whole : (P : Lane → Type 0) (ls : List Lane) (n : ℕ) → length ls ≤ n → All P (take n ls) → All P ls
all_whole P ls n less h = subst (All P) (take_all n ls less) h

-- what tells that all are posted tells it of the same lanes
pub none_left : (xs ys : List Lane) (b : Bool) → (AllPosted xs → b ≡ true) → b ≡ false → xs ≡ ys → AllPosted ys → ⊥
none_left xs ys b reports false_is same all = let true_is : b ≡ true = reports (subst AllPosted (sym same) all) in absurd (cc)

pub all_left : (xs ys : List Lane) (b : Bool) → (b ≡ true → AllPosted xs) → b ≡ true → xs ≡ ys → AllPosted ys
all_left xs ys b reports true_is same = subst AllPosted same (reports true_is)
