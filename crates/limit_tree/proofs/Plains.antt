-- Without floors the definitions are the plain ones.
use Rattle.std.proofs.Common.{ℕ, List, Option, arith, inl, inr}
use Rattle.std.specs.Prelude.{◌↔◌}
use Rattle.limit_tree.specs.Sharing.{Branch, LimitTree, IsWithin, IsBest, IsBottleneck, IsBackedBy}
use Rattle.limit_tree.specs.Plain.{HasNoFloors, IsPlainWithin, IsPlainBest, IsPlainBottleneck, IsPlainBackedBy, IsPlain}

-- every grant is at least a floor of 0
pub within-plain : (t : LimitTree) (g : List ℕ) → HasNoFloors t → IsWithin t g ↔ IsPlainWithin t g
within-plain t g none = (
  λ within. record { wanted = within.wanted; limits = within.limits },
  λ plain. record { wanted = plain.wanted; floors = λ i l. omega (arith, none i); limits = plain.limits },
)

pub best-plain : (t : LimitTree) (g : List ℕ) → HasNoFloors t → IsBest t g ↔ IsPlainBest t g
best-plain t g none = (
  λ best. record {
    within = (within-plain t g none).0 best.within;
    greatest = λ h a b within. best.greatest h a b ((within-plain t h none).1 within);
  },
  λ plain. record {
    within = (within-plain t g none).1 plain.within;
    greatest = λ h a b within. plain.greatest h a b ((within-plain t h none).0 within);
  },
)

-- a grant that is no more than a floor of 0 is not too great
pub bottleneck-plain : (t : LimitTree) (b : Branch) (g : List ℕ) (i : ℕ) → HasNoFloors t → IsBottleneck t b g i ↔ IsPlainBottleneck b g i
bottleneck-plain t b g i none = (
  λ bottle. record {
    full = bottle.full;
    holds = bottle.holds;
    greatest = λ j held. elim (bottle.greatest j held) [
      | inl less ↦ less
      | inr floor ↦ omega (arith, none j)
    ];
  },
  λ plain. record { full = plain.full; holds = plain.holds; greatest = λ j held. inl (plain.greatest j held) },
)

pub backed-plain : (t : LimitTree) (g : List ℕ) (c : List (Option ℕ)) → HasNoFloors t → IsBackedBy t g c ↔ IsPlainBackedBy t g c
backed-plain t g c none = (
  λ backed. record {
    leaves = backed.leaves;
    backed = λ i l unmet.
        let at = backed.backed i l unmet in
        (at.0, at.1, at.2, at.3, (bottleneck-plain t at.1 g i none).0 at.4);
  },
  λ plain. record {
    leaves = plain.leaves;
    backed = λ i l unmet.
        let at = plain.backed i l unmet in
        (at.0, at.1, at.2, at.3, (bottleneck-plain t at.1 g i none).1 at.4);
  },
)

pub no_floors-plain : (t : LimitTree) (g : List ℕ) → HasNoFloors t → IsPlain t g
no_floors-plain t g none = record {
  within = within-plain t g none;
  best = best-plain t g none;
  backed = λ c. backed-plain t g c none;
}
