-- One node more for a look.
use Rattle.std.proofs.Common.{◌≡◌, ℕ, ◌<◌, false, List, [], ◌∷◌, ◌++◌, length, refl, sym, ap, ◌∙◌, subst, arith, ◌⊎◌, inl, inr, Option, Some, None, replicate}
use Rattle.std.specs.Prelude.{slice_get}
use Rattle.std.proofs.lemmas.List.{get_or-replicate, get_or_past, length-replicate}
use Rattle.std.specs.Option.{option_and_then}
use Rattle.std.proofs.lemmas.Bool.{cases_lt, false≢true}
use Rattle.limit_tree.specs.Sharing.{Branch as SharedBranch, IsBranch}
use Rattle.limit_tree.specs.Outline.{branch_of, limits, IsFullPlace}
use Rattle.limit_tree.specs.declared.place.Place.{Place}
use Rattle.limit_tree.proofs.Looks.{slice_get-last, holds-range, branch_number, branch_either, branch_seen}
use Rattle.grant_certificate.specs.Flaws.{IsOver, IsFirstOver}
use Rattle.grant_certificate.specs.Ranges.{IsOverPlace, IsMarked, IsHeld, IsHeldWithin}

-- the node seen last is that branch
branch_last : (seen : List Place) (p : Place) (n : ℕ) (b : SharedBranch) → length seen ≡ n → branch_of p.kind p.first p.leaves ≡ Some b → IsBranch (limits (seen ++ p ∷ [])) n b
branch_last seen p n b count is = ap (option_and_then (λ (x : Place). branch_of x.kind x.first x.leaves)) (slice_get-last seen p n count) ∙ is

-- a branch over its limit is one of those seen, or that one
over_either : (seen : List Place) (p : Place) (g : List ℕ) (k : ℕ) → IsOver (limits (seen ++ p ∷ [])) g k → IsOver (limits seen) g k ⊎ ((k ≡ length seen) × IsOverPlace p g)
over_either seen p g k over = elim (branch_either seen p k over.0 over.2) [
  | inl was ↦ inl (over.0, over.1, was, over.3, over.4)
  | inr is ↦ inr (is.0, (over.0, over.1, is.1, over.3, over.4))
]

pub over-nothing : (g : List ℕ) → IsFirstOver (limits []) g None
over-nothing g k over = let l : k < 0 = branch_number [] k over.0 over.2 in absurd (omega arith)

over-found : (seen : List Place) (p : Place) (g : List ℕ) (m : ℕ) → IsFirstOver (limits seen) g (Some m) → IsFirstOver (limits (seen ++ p ∷ [])) g (Some m)
over-found seen p g m first =
    let l : m < length seen = branch_number seen m first.0.0 first.0.2 in (
      (first.0.0, first.0.1, branch_seen seen p m first.0.0 first.0.2, first.0.3, first.0.4),
      λ k less over. elim (over_either seen p g k over) [
        | inl was ↦ first.1 k less was
        | inr is ↦ absurd (omega (arith, is.0))
      ],
    )

pub over-last : (seen : List Place) (p : Place) (g : List ℕ) (n : ℕ) → length seen ≡ n → IsFirstOver (limits seen) g None → IsOverPlace p g → IsFirstOver (limits (seen ++ p ∷ [])) g (Some n)
over-last seen p g n count none over = (
  (over.0, over.1, branch_last seen p n over.0 count over.2, over.3, over.4),
  λ k less is. elim (over_either seen p g k is) [
    | inl was ↦ none k was
    | inr here ↦ absurd (omega (arith, here.0))
  ],
)

over-not : (seen : List Place) (p : Place) (g : List ℕ) → IsFirstOver (limits seen) g None → (IsOverPlace p g → ⊥) → IsFirstOver (limits (seen ++ p ∷ [])) g None
over-not seen p g none not k is = elim (over_either seen p g k is) [
  | inl was ↦ none k was
  | inr here ↦ not here.1
]

pub over-stays : (seen : List Place) (p : Place) (g : List ℕ) (found : Option ℕ) → (found ≡ None → IsOverPlace p g → ⊥) → IsFirstOver (limits seen) g found → IsFirstOver (limits (seen ++ p ∷ [])) g found
over-stays seen p g None not first = over-not seen p g first (not refl)
over-stays seen p g (Some m) not first = over-found seen p g m first

-- a leaf that is held stays so
pub held-seen : (seen : List Place) (p : Place) (g floors : List ℕ) (c : List (Option ℕ)) (i : ℕ) → IsHeld (limits seen) g floors c i → IsHeld (limits (seen ++ p ∷ [])) g floors c i
held-seen seen p g floors c i h = record {
  node = h.node;
  branch = h.branch;
  named = h.named;
  is = branch_seen seen p h.node h.branch h.is;
  full = h.full;
  holds = h.holds;
  greatest = h.greatest;
}

-- a leaf that a full branch holds, by its place
pub held-last : (seen : List Place) (p : Place) (n : ℕ) (g floors : List ℕ) (c : List (Option ℕ)) (i : ℕ) → length seen ≡ n → IsFullPlace p g → IsHeldWithin n p.first p.leaves g floors c i → IsHeld (limits (seen ++ p ∷ [])) g floors c i
held-last seen p n g floors c i count full h = record {
  node = n;
  branch = full.0;
  named = h.named;
  is = branch_last seen p n full.0 count full.1;
  full = full.2;
  holds = holds-range p full.0 i full.1 ∙ h.holds;
  greatest = λ j holds. h.greatest j (sym (holds-range p full.0 j full.1) ∙ holds);
}

-- a leaf that is held by a branch of the nodes seen and one more is held by one of those seen, or by that one
pub held-either : (seen : List Place) (p : Place) (n : ℕ) (g floors : List ℕ) (c : List (Option ℕ)) (i : ℕ) → length seen ≡ n → IsHeld (limits (seen ++ p ∷ [])) g floors c i → IsHeld (limits seen) g floors c i ⊎ (IsFullPlace p g × IsHeldWithin n p.first p.leaves g floors c i)
held-either seen p n g floors c i count h = elim (branch_either seen p h.node h.branch h.is) [
  | inl was ↦ inl (record {
    node = h.node;
    branch = h.branch;
    named = h.named;
    is = was;
    full = h.full;
    holds = h.holds;
    greatest = h.greatest;
  })
  | inr here ↦ inr (
    (h.branch, here.1, h.full),
    record {
      named = subst (λ (k : ℕ). slice_get c i ≡ Some (Some k)) (here.0 ∙ count) h.named;
      holds = sym (holds-range p h.branch i here.1) ∙ h.holds;
      greatest = λ j within. h.greatest j (holds-range p h.branch j here.1 ∙ within);
    },
  )
]

-- no leaf is held where no node was seen
pub held-nothing : (g floors : List ℕ) (c : List (Option ℕ)) (i : ℕ) → IsHeld (limits []) g floors c i → ⊥
held-nothing g floors c i h = let l : h.node < 0 = branch_number [] h.node h.branch h.is in absurd (omega arith)

-- none of so many marks is set
pub none_marked : (n i : ℕ) → IsMarked (replicate n false) i → ⊥
none_marked n i marked = elim (cases_lt i n) [
  | inl l ↦ false≢true (sym (get_or-replicate n i false false l) ∙ marked)
  | inr past ↦ false≢true (sym (get_or_past (replicate n false) i false (omega (arith, length-replicate n false))) ∙ marked)
]
