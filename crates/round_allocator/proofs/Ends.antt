-- The grants of a whole tree are within, and each unmet leaf has a bottleneck.
use Rattle.std.proofs.Common.{◌≡◌, ℕ, ◌+◌, List, length, ap, ◌∙◌, arith, inl, inr, Option, Some}
use Rattle.std.specs.Prelude.{slice_index}
use Rattle.std.proofs.lemmas.Bool.{and_parts, leb-true, ltb-true, cases_lt}
use Rattle.std.proofs.lemmas.Option.{slice_get_within}
use Rattle.std.proofs.lemmas.List.{get_or_past}
use Rattle.limit_tree.specs.Sharing.{Branch as SharedBranch, IsBranch, IsWithin, IsBottleneck, sum_over}
use Rattle.limit_tree.specs.Outline.{limits, leaf_range}
use Rattle.limit_tree.specs.Flat.{IsFlat, IsRow}
use Rattle.limit_tree.specs.declared.bounds.TheConstants.{MAX_WANT}
use Rattle.limit_tree.specs.declared.place.NodeKind.TheVariants.{Branch}
use Rattle.limit_tree.specs.declared.place.Place.{Place}
use Rattle.limit_tree.proofs.Sums.{sum_in-same}
use Rattle.limit_tree.proofs.RangeSums.{leaf_range-inside}
use Rattle.limit_tree.proofs.Nested.{branch_place}
use Rattle.limit_tree.proofs.Rows.{sum_over-ends, is_branch}
use Rattle.round_allocator.specs.Rounds.{HasBottlenecks}
use Rattle.round_allocator.specs.Levels.{IsPouring, HasNeck, upto}
use Rattle.round_allocator.specs.declared.level.LevelShare.{LevelShare}

-- all leaves of a tree have their grants
abbrev pub IsPoured : List Place → LevelShare → List ℕ → ℕ → List ℕ → Type 0
IsPoured outline share old rest g = IsPouring outline 0 1 0 share old (length outline) 0 (length (limits outline).wants) rest g

-- in whichever row the tree stands
abbrev pub ArePoured : List Place → LevelShare → List ℕ → ℕ → List ℕ → Type 0
ArePoured outline share old rest g = (begin last past : ℕ) → IsRow outline 0 begin 1 last past → IsPouring outline 0 1 begin share old last 0 past rest g

pub poured-within : (outline : List Place) (share : LevelShare) (old : List ℕ) (rest : ℕ) (g : List ℕ) → IsFlat outline → length old ≡ length (limits outline).wants → IsPoured outline share old rest g → IsWithin (limits outline) g
poured-within outline share old rest g flat leaves poured =
    let size : length g ≡ length (limits outline).wants = poured.size ∙ leaves in
    record {
      wanted = record { leaves = size; wants = λ i l. poured.filled.wanted i (omega arith) (omega (arith, size)) };
      floors = λ i l. poured.filled.floored i (omega arith) (omega (arith, size));
      limits = λ k most b is limit.
          let at = branch_place outline k b is in
          let p = at.place in
          let keeps = poured.filled.limited k (omega arith) (slice_get_within outline k p at.found) p most at.found (at.kind ∙ ap (λ (o : Option ℕ). Branch o) limit) in
          let same : sum_over b.holds g ≡ sum_over (leaf_range p.first p.leaves) g = sum_in-same (length g) b.holds (leaf_range p.first p.leaves) (λ i. slice_index g i) at.holds in
          omega (arith, keeps.0, keeps.1, same, sum_over-ends p.first p.leaves g (omega (arith, size, keeps.0)));
    }

pub poured-bottlenecks : (outline : List Place) (share : LevelShare) (old : List ℕ) (rest : ℕ) (g : List ℕ) → IsFlat outline → length old ≡ length (limits outline).wants → share.level ≡ MAX_WANT → IsPoured outline share old rest g → HasBottlenecks (limits outline) g
poured-bottlenecks outline share old rest g flat leaves top poured i unmet = elim (cases_lt i (length (limits outline).wants)) [
  | inr past ↦ absurd (omega (arith, get_or_past (limits outline).wants i 0 past, unmet))
  | inl inside ↦ elim (poured.filled.settled i (omega arith) inside unmet) [
    | inl level ↦ absurd (omega (arith, flat.few_each i inside, unmet, level, top))
    | inr neck ↦ bottleneck i neck
  ]
]
  where
    bottleneck : (i : ℕ) → HasNeck outline g (length (limits outline).wants) i → (k : ℕ) × (b : SharedBranch) × IsBranch (limits outline) k b × IsBottleneck (limits outline) b g i
    bottleneck i neck =
        let most = neck.1 in
        let q = neck.2 in
        let at = neck.4 in
        let ends : sum_over (leaf_range q.first q.leaves) g + upto g q.first ≡ upto g (q.first + q.leaves) = sum_over-ends q.first q.leaves g (omega (arith, neck.3, poured.size, leaves)) in
        let sums : most ≡ sum_over (leaf_range q.first q.leaves) g = omega (arith, ends, at.full) in (
          neck.0,
          record { limit = Some most; holds = leaf_range q.first q.leaves },
          is_branch outline neck.0 q most at.got at.kind,
          record {
            full = ap (λ (n : ℕ). Some n) sums;
            holds = leaf_range-inside q.first q.leaves i at.low at.high;
            greatest = λ j held. let both = and_parts _ _ held in at.greatest j (leb-true q.first j both.0) (ltb-true j (q.first + q.leaves) both.1);
          },
        )

-- no leaf wants more than the level at which the pass begins
abbrev pub top_share : LevelShare
top_share = record { level = MAX_WANT; spare = 0 }
