-- Lanes that were tried.
use Rattle.std.proofs.Common.{◌≡◌, ◌≢◌, ℕ, zero, suc, ◌+◌, ◌<◌, ◌^◌, List, [], ◌∷◌, ◌++◌, length, get_or, set, sum, sym, refl, ap, ◌∙◌, subst, arith, bit_or, Bool, true, false, Option, Some, None, append-nil}
use mathlib.Core.Logic.{dite}
use native.Mathlib.Decide.{ℕ_discrete}
use Rattle.std.specs.Int.{bit_at}
use Rattle.std.proofs.lemmas.Nat.Bits.{bit_at_or, bit_at-pow_same, bit_at-pow_other}
use Rattle.line_rates.specs.declared.ask.Ask.{Ask}
use Rattle.line_rates.specs.TickTree.{Asker}
use Rattle.desk_rule.specs.declared.view.TraceView.{TraceView}
use Rattle.desk_rule.specs.Lanes.{untraced, posted_in}
use Rattle.lane_desk.specs.Tried.{tried_by, tried, ask_at, asks_from, mark_of, AreMarks, AreOfGiven}

abbrev Find : Type 0
Find = Option Ask

-- one lane more is tried
tried_next : (given : ℕ → Bool) (fs : List Find) (f : Find) (ts : List TraceView) → length fs < length ts → set (tried given fs ts) (length fs) (tried_by (given (length fs)) f (get_or (tried given fs ts) (length fs) untraced)) ≡ tried given (fs ++ f ∷ []) ts
tried_next given [] f [] h = absurd (omega (arith, h))
tried_next given [] f (t ∷ ts) h = refl
tried_next given (g ∷ gs) f [] h = absurd (omega (arith, h))
tried_next given (g ∷ gs) f (t ∷ ts) h = ap (λ (l : List TraceView). tried_by (given 0) g t ∷ l) (tried_next (λ i. given (suc i)) gs f ts (omega (arith, h)))

pub tried_more : (given : ℕ → Bool) (fs : List Find) (f : Find) (ts us vs : List TraceView) (n : ℕ) → length fs ≡ n → n < length ts → us ≡ tried given fs ts → vs ≡ set us n (tried_by (given n) f (get_or us n untraced)) → vs ≡ tried given (fs ++ f ∷ []) ts
tried_more given fs f ts us vs n e h is next =
    next ∙ ap (λ (l : List TraceView). set l n (tried_by (given n) f (get_or l n untraced))) is
    ∙ ap (λ (m : ℕ). set (tried given fs ts) m (tried_by (given m) f (get_or (tried given fs ts) m untraced))) (sym e)
    ∙ tried_next given fs f ts (omega (arith, e, h))

-- what each lane is after it was tried, if it is given
pub tried_at : (given : ℕ → Bool) (fs : List Find) (ts : List TraceView) (i : ℕ) → length fs ≡ length ts → i < length ts → get_or (tried given fs ts) i untraced ≡ tried_by (given i) (get_or fs i None) (get_or ts i untraced)
tried_at given [] [] i e h = absurd (omega (arith, h))
tried_at given [] (t ∷ ts) i e h = absurd (omega (arith, e))
tried_at given (f ∷ fs) [] i e h = absurd (omega (arith, h))
tried_at given (f ∷ fs) (t ∷ ts) zero e h = refl
tried_at given (f ∷ fs) (t ∷ ts) (suc i) e h = tried_at (λ j. given (suc j)) fs ts i (omega (arith, e)) (omega (arith, h))

pub length-tried : (given : ℕ → Bool) (fs : List Find) (ts : List TraceView) → length (tried given fs ts) ≡ length ts
length-tried given [] ts = refl
length-tried given (f ∷ fs) [] = refl
length-tried given (f ∷ fs) (t ∷ ts) = ap suc (length-tried (λ i. given (suc i)) fs ts)

pub posted_same : (given : Bool) (f : Find) (t : TraceView) → (tried_by given f t).posted ≡ t.posted
posted_same true None t = refl
posted_same false None t = refl
posted_same given (Some a) t = refl

-- trying posts nothing
pub posted_in-tried : (given : ℕ → Bool) (fs : List Find) (ts : List TraceView) → posted_in (tried given fs ts) ≡ posted_in ts
posted_in-tried given [] ts = refl
posted_in-tried given (f ∷ fs) [] = refl
posted_in-tried given (f ∷ fs) (t ∷ ts) =
    ap (λ (l : List ℕ). sum l + posted_in (tried (λ i. given (suc i)) fs ts)) (posted_same (given 0) f t)
    ∙ ap (λ (n : ℕ). sum t.posted + n) (posted_in-tried (λ i. given (suc i)) fs ts)

asks_next : (fs : List Find) (f : Find) (k : ℕ) → asks_from k (fs ++ f ∷ []) ≡ asks_from k fs ++ ask_at (k + length fs) f
asks_next [] None k = refl
asks_next [] (Some a) k = let e : k ≡ k + 0 = omega arith in ap (λ (n : ℕ). (n, a) ∷ []) e
asks_next (None ∷ fs) f k = let e : k + 1 + length fs ≡ k + suc (length fs) = omega arith in asks_next fs f (k + 1) ∙ ap (λ (n : ℕ). asks_from (k + 1) fs ++ ask_at n f) e
asks_next (Some b ∷ fs) f k = let e : k + 1 + length fs ≡ k + suc (length fs) = omega arith in ap (λ (l : List Asker). (k, b) ∷ l) (asks_next fs f (k + 1) ∙ ap (λ (n : ℕ). asks_from (k + 1) fs ++ ask_at n f) e)

pub asks_more : (fs : List Find) (f : Find) (n : ℕ) → length fs ≡ n → asks_from 0 (fs ++ f ∷ []) ≡ asks_from 0 fs ++ ask_at n f
asks_more fs f n e = let z : 0 + length fs ≡ n = omega (arith, e) in asks_next fs f 0 ∙ ap (λ (m : ℕ). asks_from 0 fs ++ ask_at m f) z

pub none_more : (fs : List Find) (n : ℕ) → length fs ≡ n → asks_from 0 (fs ++ None ∷ []) ≡ asks_from 0 fs
none_more fs n e = asks_more fs None n e ∙ append-nil (asks_from 0 fs)

get_snoc : (fs : List Find) (f : Find) → get_or (fs ++ f ∷ []) (length fs) None ≡ f
get_snoc [] f = refl
get_snoc (g ∷ gs) f = get_snoc gs f

get_past : (fs : List Find) → get_or fs (length fs) None ≡ None
get_past [] = refl
get_past (g ∷ gs) = get_past gs

get_other : (fs : List Find) (f : Find) (i : ℕ) → i ≢ length fs → get_or (fs ++ f ∷ []) i None ≡ get_or fs i None
get_other [] f zero ne = absurd (ne refl)
get_other [] f (suc i) ne = refl
get_other (g ∷ gs) f zero ne = refl
get_other (g ∷ gs) f (suc i) ne = get_other gs f i (λ e. ne (ap suc e))

get_none : (fs : List Find) (i : ℕ) → get_or (fs ++ None ∷ []) i None ≡ get_or fs i None
get_none [] zero = refl
get_none [] (suc i) = refl
get_none (g ∷ gs) zero = refl
get_none (g ∷ gs) (suc i) = get_none gs i

-- no ask was found yet
pub none_given : (given : ℕ → Bool) → AreOfGiven given []
none_given given zero h = refl
none_given given (suc i) h = refl

-- one lane more, and nothing was found there
pub given_missed : (given : ℕ → Bool) (fs : List Find) → AreOfGiven given fs → AreOfGiven given (fs ++ None ∷ [])
given_missed given fs only i h = get_none fs i ∙ only i h

-- one given lane more
pub given_found : (given : ℕ → Bool) (fs : List Find) (a : Ask) (k : ℕ) → length fs ≡ k → given k ≡ true → AreOfGiven given fs → AreOfGiven given (fs ++ Some a ∷ [])
given_found given fs a k e is only i h = dite (ℕ_discrete i (length fs))
    (λ same. absurd (differ (sym is ∙ ap given (sym (same ∙ e)) ∙ h)))
    (λ ne. get_other fs (Some a) i ne ∙ only i h)
  where
    differ : true ≡ false → ⊥
    differ q = cc

pub no_marks : AreMarks [] 0
no_marks i = Rattle.std.proofs.lemmas.Nat.Bits.bit_at-zero i ∙ nothing i
  where
    nothing : (i : ℕ) → 0 ≡ mark_of (get_or [] i None)
    nothing zero = refl
    nothing (suc i) = refl

pub marks_missed : (fs : List Find) (n : ℕ) → AreMarks fs n → AreMarks (fs ++ None ∷ []) n
marks_missed fs n m i = m i ∙ ap mark_of (sym (get_none fs i))

pub marks_found : (fs : List Find) (a : Ask) (n n' k : ℕ) → length fs ≡ k → AreMarks fs n → n' ≡ bit_or n (2 ^ k) → AreMarks (fs ++ Some a ∷ []) n'
marks_found fs a n n' k e m is i = ap (λ (x : ℕ). bit_at x i) is ∙ bit_at_or n (2 ^ k) i ∙ dite (ℕ_discrete i k)
    (λ same.
    let old : bit_at n i ≡ 0 = m i ∙ ap (λ (x : ℕ). mark_of (get_or fs x None)) (same ∙ sym e) ∙ ap mark_of (get_past fs) in
    let bit : bit_at (2 ^ k) i ≡ 1 = ap (bit_at (2 ^ k)) same ∙ bit_at-pow_same k in
    let new : mark_of (get_or (fs ++ Some a ∷ []) i None) ≡ 1 = ap (λ (x : ℕ). mark_of (get_or (fs ++ Some a ∷ []) x None)) (same ∙ sym e) ∙ ap mark_of (get_snoc fs (Some a)) in
    omega (arith, old, bit, new))
    (λ ne.
    let old : bit_at n i ≡ mark_of (get_or fs i None) = m i in
    let bit : bit_at (2 ^ k) i ≡ 0 = bit_at-pow_other k i ne in
    let new : mark_of (get_or (fs ++ Some a ∷ []) i None) ≡ mark_of (get_or fs i None) = ap mark_of (get_other fs (Some a) i (λ s. ne (s ∙ e))) in
    omega (arith, old, bit, new))
