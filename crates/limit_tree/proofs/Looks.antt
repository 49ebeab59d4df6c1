-- One node more for a look.
use Rattle.std.proofs.Common.{◌≡◌, ℕ, zero, suc, ◌<◌, List, [], ◌∷◌, ◌++◌, length, refl, sym, ap, ◌∙◌, subst, arith, ◌⊎◌, inl, inr, Option, Some, None, append-nil}
use Rattle.std.specs.Prelude.{slice_get}
use Rattle.std.specs.List.{cons_option}
use Rattle.std.specs.Option.{option_and_then, option_map}
use Rattle.std.proofs.lemmas.Bool.{cases_lt, cases_eq}
use Rattle.std.proofs.lemmas.Option.{slice_get_past}
use Rattle.std.proofs.lemmas.List.Elements.{filter_map-append}
use Rattle.limit_tree.specs.Sharing.{Branch as SharedBranch, IsBranch, IsFull, IsFullAbove, IsDeepestFull, sum_over}
use Rattle.limit_tree.specs.Outline.{leaf_want, leaf_floor, leaf_range, branch_of, limits, IsFullPlace, IsFullOver}
use Rattle.limit_tree.specs.declared.place.NodeKind.{NodeKind}
use Rattle.limit_tree.specs.declared.place.NodeKind.TheVariants.{Branch, Leaf}
use Rattle.limit_tree.specs.declared.place.Place.{Place}
use Rattle.limit_tree.proofs.Nested.{range_of}

-- an element at the end of a list
pub slice_get-last : {X : Type 0} (xs : List X) (x : X) (n : ℕ) → length xs ≡ n → slice_get (xs ++ x ∷ []) n ≡ Some x
slice_get-last [] x zero e = refl
slice_get-last [] x (suc n) e = absurd (omega arith)
slice_get-last (y ∷ xs) x zero e = absurd (omega arith)
slice_get-last (y ∷ xs) x (suc n) e = slice_get-last xs x n (omega arith)

pub slice_get-other : {X : Type 0} (xs : List X) (x : X) (k : ℕ) → (length xs ≡ k → ⊥) → slice_get (xs ++ x ∷ []) k ≡ slice_get xs k
slice_get-other [] x zero e = absurd (e refl)
slice_get-other [] x (suc k) e = refl
slice_get-other (y ∷ xs) x zero e = refl
slice_get-other (y ∷ xs) x (suc k) e = slice_get-other xs x k (λ p. e (omega arith))

-- a leaf more, and a branch more
pub wants-leaf : (seen : List Place) (p : Place) (want floor : ℕ) → p.kind ≡ Leaf want floor → (limits (seen ++ p ∷ [])).wants ≡ (limits seen).wants ++ want ∷ []
wants-leaf seen p want floor e = filter_map-append (λ (x : Place). leaf_want x.kind) seen (p ∷ []) ∙ ap (λ (k : NodeKind). (limits seen).wants ++ cons_option (leaf_want k) []) e

pub floors-leaf : (seen : List Place) (p : Place) (want floor : ℕ) → p.kind ≡ Leaf want floor → (limits (seen ++ p ∷ [])).floors ≡ (limits seen).floors ++ floor ∷ []
floors-leaf seen p want floor e = filter_map-append (λ (x : Place). leaf_floor x.kind) seen (p ∷ []) ∙ ap (λ (k : NodeKind). (limits seen).floors ++ cons_option (leaf_floor k) []) e

pub wants-branch : (seen : List Place) (p : Place) (limit : Option ℕ) → p.kind ≡ Branch limit → (limits (seen ++ p ∷ [])).wants ≡ (limits seen).wants
wants-branch seen p limit e = filter_map-append (λ (x : Place). leaf_want x.kind) seen (p ∷ []) ∙ (ap (λ (k : NodeKind). (limits seen).wants ++ cons_option (leaf_want k) []) e ∙ append-nil (limits seen).wants)

pub floors-branch : (seen : List Place) (p : Place) (limit : Option ℕ) → p.kind ≡ Branch limit → (limits (seen ++ p ∷ [])).floors ≡ (limits seen).floors
floors-branch seen p limit e = filter_map-append (λ (x : Place). leaf_floor x.kind) seen (p ∷ []) ∙ (ap (λ (k : NodeKind). (limits seen).floors ++ cons_option (leaf_floor k) []) e ∙ append-nil (limits seen).floors)

-- a branch of the nodes seen and one more is one of those seen, or that one
pub branch_either : (seen : List Place) (p : Place) (k : ℕ) (b : SharedBranch) → IsBranch (limits (seen ++ p ∷ [])) k b → IsBranch (limits seen) k b ⊎ ((k ≡ length seen) × (branch_of p.kind p.first p.leaves ≡ Some b))
branch_either seen p k b is = elim (cases_eq (length seen) k) [
  | inl e ↦ inr (sym e, sym (ap (option_and_then (λ (x : Place). branch_of x.kind x.first x.leaves)) (slice_get-last seen p k e)) ∙ is)
  | inr ne ↦ inl (sym (ap (option_and_then (λ (x : Place). branch_of x.kind x.first x.leaves)) (slice_get-other seen p k ne)) ∙ is)
]

pub branch_seen : (seen : List Place) (p : Place) (k : ℕ) (b : SharedBranch) → IsBranch (limits seen) k b → IsBranch (limits (seen ++ p ∷ [])) k b
branch_seen seen p k b is = ap (option_and_then (λ (x : Place). branch_of x.kind x.first x.leaves)) (slice_get-other seen p k (λ e. absurd (not_past e))) ∙ is
  where
    not_past : length seen ≡ k → ⊥
    not_past e = absurd (none_is_some (sym (ap (option_and_then (λ (x : Place). branch_of x.kind x.first x.leaves)) (slice_get_past seen k (omega arith))) ∙ is))
      where
        none_is_some : None ≡ Some b → ⊥
        none_is_some h = cc

branch_last : (seen : List Place) (p : Place) (b : SharedBranch) → branch_of p.kind p.first p.leaves ≡ Some b → IsBranch (limits (seen ++ p ∷ [])) (length seen) b
branch_last seen p b is = ap (option_and_then (λ (x : Place). branch_of x.kind x.first x.leaves)) (slice_get-last seen p (length seen) refl) ∙ is

pub full-place : (p : Place) (limit sum : ℕ) (g : List ℕ) → p.kind ≡ Branch (Some limit) → sum ≡ sum_over (leaf_range p.first p.leaves) g → sum ≡ limit → IsFullPlace p g
full-place p limit sum g kind is same = (
  record { limit = Some limit; holds = leaf_range p.first p.leaves },
  ap (λ (k : NodeKind). branch_of k p.first p.leaves) kind,
  ap (λ (n : ℕ). Some n) (sym same ∙ is),
)

some_nat : (a b : ℕ) → Some a ≡ Some b → a ≡ b
some_nat a b e = cc

pub full-place-sum : (p : Place) (limit sum : ℕ) (g : List ℕ) → p.kind ≡ Branch (Some limit) → sum ≡ sum_over (leaf_range p.first p.leaves) g → IsFullPlace p g → sum ≡ limit
full-place-sum p limit sum g kind is full =
    go full.0 (sym (ap (λ (k : NodeKind). branch_of k p.first p.leaves) kind) ∙ full.1) full.2
  where
    limit_in : Option SharedBranch → Option ℕ
    limit_in o = option_and_then (λ (b : SharedBranch). b.limit) o

    sum_in_branch : Option SharedBranch → Option ℕ
    sum_in_branch o = option_map (λ (b : SharedBranch). sum_over b.holds g) o

    go : (b : SharedBranch) → branch_of (Branch (Some limit)) p.first p.leaves ≡ Some b → IsFull b g → sum ≡ limit
    go b e h = is ∙ sym (some_nat limit (sum_over (leaf_range p.first p.leaves) g) (ap (λ (o : Option SharedBranch). limit_in o) e ∙ (h ∙ ap (λ (o : Option SharedBranch). sum_in_branch o) (sym e))))

-- a branch holds the leaves of its range
pub holds-range : (p : Place) (b : SharedBranch) (i : ℕ) → branch_of p.kind p.first p.leaves ≡ Some b → b.holds i ≡ leaf_range p.first p.leaves i
holds-range p b i is = (range_of p.kind p.first p.leaves b is).0 i

pub branch_number : (seen : List Place) (k : ℕ) (b : SharedBranch) → IsBranch (limits seen) k b → k < length seen
branch_number seen k b is = elim (cases_lt k (length seen)) [
  | inl l ↦ l
  | inr past ↦ absurd (none_is_some (sym (ap (option_and_then (λ (x : Place). branch_of x.kind x.first x.leaves)) (slice_get_past seen k past)) ∙ is))
]
  where
    none_is_some : None ≡ Some b → ⊥
    none_is_some h = cc

-- that one is full over the leaf, and so the last that is
pub deepest-last : (seen : List Place) (p : Place) (g : List ℕ) (i n : ℕ) → length seen ≡ n → IsFullOver p g i → IsDeepestFull (limits (seen ++ p ∷ [])) g i (Some n)
deepest-last seen p g i n count full = subst (λ (m : ℕ). IsDeepestFull (limits (seen ++ p ∷ [])) g i (Some m)) count (
  (full.0, branch_last seen p full.0 full.1, full.2, full.3),
  λ k above. elim (branch_either seen p k above.0 above.1) [
    | inl was ↦ let l : k < length seen = branch_number seen k above.0 was in omega arith
    | inr is ↦ let e : k ≡ length seen = is.0 in omega arith
  ],
)

above_either : (seen : List Place) (p : Place) (g : List ℕ) (i k : ℕ) → (IsFullOver p g i → ⊥) → IsFullAbove (limits (seen ++ p ∷ [])) g i k → IsFullAbove (limits seen) g i k
above_either seen p g i k not above = elim (branch_either seen p k above.0 above.1) [
  | inl was ↦ (above.0, was, above.2, above.3)
  | inr is ↦ absurd (not (above.0, is.1, above.2, above.3))
]

-- that one is not, and the last that is stays
pub deepest-stays : (seen : List Place) (p : Place) (g : List ℕ) (i : ℕ) (found : Option ℕ) → (IsFullOver p g i → ⊥) → IsDeepestFull (limits seen) g i found → IsDeepestFull (limits (seen ++ p ∷ [])) g i found
deepest-stays seen p g i None not deepest = λ k above. deepest k (above_either seen p g i k not above)
deepest-stays seen p g i (Some m) not deepest = (
  (deepest.0.0, branch_seen seen p m deepest.0.0 deepest.0.1, deepest.0.2, deepest.0.3),
  λ k above. deepest.1 k (above_either seen p g i k not above),
)

-- nothing above a leaf where no node was seen
pub deepest-nothing : (g : List ℕ) (i : ℕ) → IsDeepestFull (limits []) g i None
deepest-nothing g i k above = absurd (past (branch_number [] k above.0 above.1))
  where
    past : k < 0 → ⊥
    past l = absurd (omega arith)

pub some_within : {X : Type 0} (xs : List X) (k : ℕ) → k < length xs → slice_get xs k ≡ None → ⊥
some_within [] k l e = absurd (omega arith)
some_within (x ∷ xs) zero l e = absurd (cc)
some_within (x ∷ xs) (suc k) l e = some_within xs k (omega arith) e
