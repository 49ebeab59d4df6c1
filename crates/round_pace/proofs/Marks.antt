-- Marks of rows.
use Rattle.std.proofs.Common.{◌≡◌, ℕ, zero, suc, ◌+◌, ◌<◌, Bool, true, false, List, [], ◌∷◌, ◌++◌, length, take, drop, map, get_or, replicate, set, refl, sym, ap, ◌∙◌, subst, arith, inl, inr}
use Rattle.std.proofs.lemmas.Bool.{cases_eq}
use Rattle.std.proofs.lemmas.List.{get_or-map, get_or-set_other, length-map}
use Rattle.line_rates.proofs.RowLemmas.{at_any}
use Rattle.round_pace.specs.Quiet.{mark_at, AllMarked, KeepMarked, AreOfSecond}

unmarked : (n k : ℕ) → get_or (replicate n false) k false ≡ false
unmarked zero k = refl
unmarked (suc n) zero = refl
unmarked (suc n) (suc k) = unmarked n k

-- there are no marks
pub none_marked : {X : Type 0} (P : X → Type 0) (n : ℕ) (marks : List Bool) (rows : List X) → marks ≡ replicate n false → AllMarked P marks rows
none_marked P n marks rows e k d lt m =
    let u : get_or (replicate n false) k false ≡ false = unmarked n k in
    let f : get_or marks k false ≡ false = ap (λ (ms : List Bool). get_or ms k false) e ∙ u in
    absurd (cc)

-- rows with marks keep a property if they are the same
pub marked_kept : {X : Type 0} (P : X → Type 0) (old : List Bool) (rows : List X) (new : List Bool) (changed : List X) → KeepMarked old rows new changed → AllMarked P old rows → AllMarked P new changed
marked_kept P old rows new changed keep all k d lt m =
    let s = keep k d lt m in
    subst P (sym s.2) (all k d s.0 s.1)

-- fewer marks
pub marked_second : {X : Type 0} (P : X → Type 0) (begun tick : ℕ) (old new : List Bool) (rows : List X) → AreOfSecond begun tick old new → AllMarked P old rows → AllMarked P new rows
marked_second P begun tick old new rows of all k d lt m = let s = of k m in all k d lt s.0

-- a change of all rows that leaves those with marks as they are
pub marked_same : {X : Type 0} (P : X → Type 0) (f : X → X) (marks : List Bool) (rows changed : List X) → changed ≡ map f rows → AllMarked (λ x. f x ≡ x) marks rows → AllMarked P marks rows → AllMarked P marks changed
marked_same {X} P f marks rows changed e same all k d lt m =
    let within : k < length rows = subst (λ (n : ℕ). k < n) (ap length e ∙ length-map rows f) lt in
    let at : get_or changed k d ≡ get_or rows k d = ap (λ (xs : List X). get_or xs k d) e ∙ (get_or-map f rows k d d within ∙ same k d within m) in
    subst P (sym at) (all k d within m)

set_mark : (marks : List Bool) (i : ℕ) (b : Bool) → get_or (set marks i b) i false ≡ true → b ≡ true
set_mark [] i b h = absurd (cc)
set_mark (m ∷ marks) zero b h = h
set_mark (m ∷ marks) (suc i) b h = set_mark marks i b h

-- one mark is set
pub marked_set : {X : Type 0} (P : X → Type 0) (marks new : List Bool) (i : ℕ) (b : Bool) (rows : List X) (e : X) → new ≡ set marks i b → (b ≡ true → P (get_or rows i e)) → AllMarked P marks rows → AllMarked P new rows
marked_set {X} P marks new i b rows e is one all k d lt m =
    let n : get_or (set marks i b) k false ≡ true = sym (ap (λ (ms : List Bool). get_or ms k false) is) ∙ m in
    elim (cases_eq k i) [
      | inl same ↦
          let within : i < length rows = subst (λ (j : ℕ). j < length rows) same lt in
          let set_here : b ≡ true = set_mark marks i b (subst (λ (j : ℕ). get_or (set marks i b) j false ≡ true) same n) in
          subst (λ (j : ℕ). P (get_or rows j d)) (sym same) (subst P (at_any rows i e d within) (one set_here))
      | inr other ↦ all k d lt (sym (get_or-set_other marks i k b false other) ∙ n)
    ]

pub set_before : (marks new : List Bool) (i k : ℕ) (b : Bool) → new ≡ set marks i b → i < k → mark_at new k ≡ mark_at marks k
set_before marks new i k b is later =
    ap (λ (ms : List Bool). get_or ms k false) is ∙ get_or-set_other marks i k b false (λ e. let f : k ≡ i = e in omega arith)

-- a loop that changes rows, at one that the change leaves as it is
skip : {X : Type 0} (f : X → X) (xs : List X) (i : ℕ) → i < length xs → ((d : X) → f (get_or xs i d) ≡ get_or xs i d) → map f (take i xs) ++ drop i xs ≡ map f (take (suc i) xs) ++ drop (suc i) xs
skip f [] i lt same = absurd (omega arith)
skip f (x ∷ xs) zero lt same = ap (λ y. y ∷ xs) (sym (same x))
skip f (x ∷ xs) (suc i) lt same = ap (λ ys. f x ∷ ys) (skip f xs i (omega arith) same)

pub map_over_same : {X : Type 0} (f : X → X) (xs ys : List X) (marks : List Bool) (i : ℕ) → i < length xs → ys ≡ map f (take i xs) ++ drop i xs → AllMarked (λ x. f x ≡ x) marks xs → mark_at marks i ≡ true → ys ≡ map f (take (i + 1) xs) ++ drop (i + 1) xs
map_over_same {X} f xs ys marks i lt is same m =
    let next : suc i ≡ i + 1 = omega arith in
    is ∙ (skip f xs i lt (λ d. same i d lt m) ∙ ap (λ (n : ℕ). map f (take n xs) ++ drop n xs) next)
