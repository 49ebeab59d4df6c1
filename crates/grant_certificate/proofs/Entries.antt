-- What the entry of a leaf names.
use Rattle.std.proofs.Common.{◌≡◌, ℕ, zero, suc, get_or, [], ◌∷◌, List, refl, sym, ap, ◌∙◌, subst, Option, Some, None}
use Rattle.std.specs.Prelude.{slice_get, slice_index, IsTrue, IsFalse}
use Rattle.std.specs.Option.{option_and_then}
use Rattle.limit_tree.specs.Sharing.{Branch as SharedBranch, IsBranch, IsFull}
use Rattle.limit_tree.specs.Outline.{branch_of, leaf_range, limits, IsFullPlace}
use Rattle.limit_tree.specs.declared.place.NodeKind.{NodeKind}
use Rattle.limit_tree.specs.declared.place.NodeKind.TheVariants.{Branch}
use Rattle.limit_tree.specs.declared.place.Place.{Place}
use Rattle.grant_certificate.specs.Flaws.{IsLeafFlaw}
use Rattle.grant_certificate.specs.Ranges.{IsHeld, IsFirstGreater, IsNoneGreater}
use Rattle.grant_certificate.specs.declared.flaw.Flaw.TheVariants.{NotAbove, NotFull, TooGreat}

-- the entry of a leaf
pub named_at : (c : List (Option ℕ)) (i n : ℕ) → get_or c i None ≡ Some n → slice_get c i ≡ Some (Some n)
named_at [] i n e = absurd (cc)
named_at (x ∷ xs) zero n e = ap (λ (o : Option ℕ). Some o) e
named_at (x ∷ xs) (suc i) n e = named_at xs i n e

pub named_back : (c : List (Option ℕ)) (i n : ℕ) → slice_get c i ≡ Some (Some n) → get_or c i None ≡ Some n
named_back [] i n e = absurd (cc)
named_back (x ∷ xs) zero n e = cc
named_back (x ∷ xs) (suc i) n e = named_back xs i n e

-- the branch of a place
abbrev branch_here : Option ℕ → Place → SharedBranch
branch_here limit p = record { limit = limit; holds = leaf_range p.first p.leaves }

is_here : (outline : List Place) (n : ℕ) (p : Place) (limit : Option ℕ) → slice_get outline n ≡ Some p → p.kind ≡ Branch limit → IsBranch (limits outline) n (branch_here limit p)
is_here outline n p limit at kind = ap (option_and_then (λ (x : Place). branch_of x.kind x.first x.leaves)) at ∙ ap (λ (x : NodeKind). branch_of x p.first p.leaves) kind

full_here : (p : Place) (limit : Option ℕ) (g : List ℕ) → p.kind ≡ Branch limit → IsFullPlace p g → IsFull (branch_here limit p) g
full_here p limit g kind full = subst (λ (b : SharedBranch). IsFull b g) (sym (same (sym (ap (λ (x : NodeKind). branch_of x p.first p.leaves) kind) ∙ full.1))) full.2
  where
    same : Some (branch_here limit p) ≡ Some full.0 → branch_here limit p ≡ full.0
    same e = cc

pub not_above-here : (outline : List Place) (g : List ℕ) (c : List (Option ℕ)) (i n : ℕ) (p : Place) (limit : Option ℕ) → slice_get c i ≡ Some (Some n) → slice_get outline n ≡ Some p → p.kind ≡ Branch limit → IsFalse (leaf_range p.first p.leaves i) → IsLeafFlaw (limits outline) g c i (NotAbove i n)
not_above-here outline g c i n p limit got at kind not = (refl, branch_here limit p, (got, is_here outline n p limit at kind), not)

pub not_full-here : (outline : List Place) (g : List ℕ) (c : List (Option ℕ)) (i n : ℕ) (p : Place) (limit : Option ℕ) → slice_get c i ≡ Some (Some n) → slice_get outline n ≡ Some p → p.kind ≡ Branch limit → IsTrue (leaf_range p.first p.leaves i) → (IsFullPlace p g → ⊥) → IsLeafFlaw (limits outline) g c i (NotFull i n)
not_full-here outline g c i n p limit got at kind holds not = (
  refl,
  branch_here limit p,
  (got, is_here outline n p limit at kind),
  holds,
  λ full. not (branch_here limit p, ap (λ (x : NodeKind). branch_of x p.first p.leaves) kind, full),
)

pub too_great-here : (outline : List Place) (g floors : List ℕ) (c : List (Option ℕ)) (i n other : ℕ) (p : Place) (limit : Option ℕ) → floors ≡ (limits outline).floors → slice_get c i ≡ Some (Some n) → slice_get outline n ≡ Some p → p.kind ≡ Branch limit → IsTrue (leaf_range p.first p.leaves i) → IsFullPlace p g → IsFirstGreater p.first p.leaves g floors (slice_index g i) other → IsLeafFlaw (limits outline) g c i (TooGreat i other)
too_great-here outline g floors c i n other p limit same got at kind holds full first =
    let here : IsFirstGreater p.first p.leaves g (limits outline).floors (slice_index g i) other = subst (λ (fs : List ℕ). IsFirstGreater p.first p.leaves g fs (slice_index g i) other) same first in (
      refl,
      n,
      branch_here limit p,
      (got, is_here outline n p limit at kind),
      holds,
      full_here p limit g kind full,
      here,
    )

-- a leaf in whose full branch no other is too great is held
pub held-here : (outline : List Place) (g floors : List ℕ) (c : List (Option ℕ)) (i n : ℕ) (p : Place) (limit : Option ℕ) → slice_get c i ≡ Some (Some n) → slice_get outline n ≡ Some p → p.kind ≡ Branch limit → IsTrue (leaf_range p.first p.leaves i) → IsFullPlace p g → IsNoneGreater p.first p.leaves g floors (slice_index g i) → IsHeld (limits outline) g floors c i
held-here outline g floors c i n p limit got at kind holds full none = record {
  node = n;
  branch = branch_here limit p;
  named = got;
  is = is_here outline n p limit at kind;
  full = full_here p limit g kind full;
  holds = holds;
  greatest = none;
}
