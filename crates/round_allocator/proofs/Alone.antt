-- What a tree of one leaf takes in: what the leaf would, or no less than the limit of one of its branches.
use Rattle.std.proofs.Common.{◌≡◌, ℕ, zero, suc, ◌+◌, ◌<◌, ◌≤◌, List, length, min, max, refl, sym, ap, ◌∙◌, subst, arith, ◌⊎◌, inl, inr, Option, Some, None}
use Rattle.std.specs.Prelude.{slice_get, slice_index}
use Rattle.std.proofs.lemmas.Bool.{cases_lt, cases_eq}
use Rattle.limit_tree.specs.Outline.{limits, absorbed, cut}
use Rattle.limit_tree.specs.Flat.{IsRow, IsShaped, taken_in}
use Rattle.limit_tree.specs.declared.place.NodeKind.{NodeKind}
use Rattle.limit_tree.specs.declared.place.NodeKind.TheVariants.{Branch, Leaf}
use Rattle.limit_tree.specs.declared.place.Place.{Place}
use Rattle.limit_tree.proofs.Hops.{absorbed-leaf, absorbed-branch, taken-more, row-last}
use Rattle.limit_tree.proofs.Rows.{leaf_numbers}

-- what a leaf takes in by itself
abbrev pub own_part : ℕ → List Place → ℕ → ℕ
own_part level ps i = min (slice_index (limits ps).wants i) (max (slice_index (limits ps).floors i) level)

-- a branch over this leaf alone, among some nodes, whose limit is at most an amount
pub record HasCap (ps : List Place) (low high i amount : ℕ) : Type 0 where
  pub number : ℕ
  pub most : ℕ
  pub place : Place
  pub after : low ≤ number
  pub before : number < high
  pub got : slice_get ps number ≡ Some place
  pub kind : place.kind ≡ Branch (Some most)
  pub first : place.first ≡ i
  pub alone : place.leaves ≡ 1
  pub fits : most ≤ amount

-- the amount that nodes take in which have at most one leaf
pub record IsAlone (level : ℕ) (ps : List Place) (low high first leaves amount : ℕ) : Type 0 where
  pub none : leaves ≡ 0 → amount ≡ 0
  pub least : leaves ≡ 1 → amount ≤ own_part level ps first
  pub most : leaves ≡ 1 → (own_part level ps first ≤ amount) ⊎ HasCap ps low high first amount

abbrev AreAlone : ℕ → List Place → ℕ → Type 0
AreAlone level ps fuel = (k : ℕ) (p : Place) → slice_get ps k ≡ Some p → p.nodes ≤ fuel → IsAlone level ps k (k + p.nodes) p.first p.leaves (absorbed level ps k)

row-leaves : (ps : List Place) (n at first last past : ℕ) → IsRow ps at first n last past → first ≤ past
row-leaves ps zero at first last past row = omega (arith, row.1)
row-leaves ps (suc n) at first last past row = omega (arith, row-leaves ps n (at + row.0.nodes) (first + row.0.leaves) last past row.3)

-- a wider range, and another amount
cap-wide : (ps : List Place) (low high lower higher i j amount more : ℕ) → lower ≤ low → high ≤ higher → i ≡ j → amount ≤ more → HasCap ps low high i amount → HasCap ps lower higher j more
cap-wide ps low high lower higher i j amount more l h same le c = record {
  number = c.number;
  most = c.most;
  place = c.place;
  after = omega (arith, c.after);
  before = omega (arith, c.before);
  got = c.got;
  kind = c.kind;
  first = c.first ∙ same;
  alone = c.alone;
  fits = omega (arith, c.fits);
}

row_alone : (level : ℕ) (ps : List Place) (fuel : ℕ) → IsShaped ps → AreAlone level ps fuel → (n at first last past leaves : ℕ) → IsRow ps at first n last past → last ≤ at + fuel → first + leaves ≡ past → IsAlone level ps at last first leaves (taken_in level ps at n)
row_alone level ps fuel shaped are zero at first last past leaves row fits ends = record {
  none = λ e. refl;
  least = λ e. absurd (omega (arith, row.1));
  most = λ e. absurd (omega (arith, row.1));
}
row_alone level ps fuel shaped are (suc n) at first last past leaves row fits ends =
    let p = row.0 in
    let next = row-last ps (at + p.nodes) (first + p.leaves) n last past row.3 in
    let more = row-leaves ps n (at + p.nodes) (first + p.leaves) last past row.3 in
    let one = are at p row.1 (omega (arith, next)) in
    let sum = taken-more level ps at n p shaped row.1 in
    let begins : p.first ≡ first = row.2 in
    let same : own_part level ps p.first ≡ own_part level ps first = ap (own_part level ps) begins in
    let others : (m : ℕ) → first + p.leaves + m ≡ past → IsAlone level ps (at + p.nodes) last (first + p.leaves) m (taken_in level ps (at + p.nodes) n) =
    λ m e. row_alone level ps fuel shaped are n (at + p.nodes) (first + p.leaves) last past m row.3 (omega arith) e in
    record {
      none = λ e. (let rest = (others 0 (omega arith)).none refl in let here = one.none (omega arith) in omega (arith, sum, rest, here));
      least = λ e. elim (cases_eq p.leaves 0) [
        | inl nothing ↦
            let here = one.none nothing in
            let rest = (others 1 (omega arith)).least refl in
            let at_first : own_part level ps (first + p.leaves) ≡ own_part level ps first = ap (own_part level ps) (let e : first + p.leaves ≡ first = omega arith in e) in
            omega (arith, sum, here, rest, at_first)
        | inr some ↦
            let here = one.least (omega arith) in
            let rest = (others 0 (omega arith)).none refl in
            omega (arith, sum, here, rest, same)
      ];
      most = λ e. elim (cases_eq p.leaves 0) [
        | inl nothing ↦
            let here = one.none nothing in
            let at_is : first + p.leaves ≡ first = omega arith in
            let at_first : own_part level ps (first + p.leaves) ≡ own_part level ps first = ap (own_part level ps) at_is in
            elim ((others 1 (omega arith)).most refl) [
              | inl all ↦ inl (omega (arith, sum, here, all, at_first))
              | inr cap ↦ inr (cap-wide ps (at + p.nodes) last at last (first + p.leaves) first (taken_in level ps (at + p.nodes) n) (taken_in level ps at (suc n)) (omega arith) (omega arith) at_is (omega (arith, sum)) cap)
            ]
        | inr some ↦
            elim (one.most (omega arith)) [
              | inl all ↦ inl (omega (arith, sum, all, same))
              | inr cap ↦ inr (cap-wide ps at (at + p.nodes) at last p.first first (absorbed level ps at) (taken_in level ps at (suc n)) (omega arith) (omega (arith, next)) begins (omega (arith, sum)) cap)
            ]
      ];
    }

kind_alone : (level : ℕ) (ps : List Place) (fuel : ℕ) → IsShaped ps → AreAlone level ps fuel → (k : ℕ) (p : Place) → slice_get ps k ≡ Some p → p.nodes ≤ suc fuel → (kind : NodeKind) → p.kind ≡ kind → IsAlone level ps k (k + p.nodes) p.first p.leaves (absorbed level ps k)
kind_alone level ps fuel shaped are k p got fits (Leaf want floor) is =
    let one = (shaped k p got).leaf want floor is in
    let numbers = leaf_numbers ps k p want floor shaped got is in
    let whole = absorbed-leaf level ps k p want floor got is in
    record {
      none = λ e. absurd (omega (arith, one.1));
      least = λ e. omega (arith, numbers.0, numbers.1, whole);
      most = λ e. inl (omega (arith, numbers.0, numbers.1, whole));
    }
kind_alone level ps fuel shaped are k p got fits (Branch limit) is =
    let kids = row_alone level ps fuel shaped are p.kids (k + 1) p.first (k + p.nodes) (p.first + p.leaves) p.leaves ((shaped k p got).branch limit is) (omega arith) refl in
    by_limit limit is (absorbed-branch level ps k p limit got is) kids
  where
    by_limit : (limit : Option ℕ) → p.kind ≡ Branch limit → absorbed level ps k ≡ cut limit (taken_in level ps (k + 1) p.kids) → IsAlone level ps (k + 1) (k + p.nodes) p.first p.leaves (taken_in level ps (k + 1) p.kids)
        → IsAlone level ps k (k + p.nodes) p.first p.leaves (absorbed level ps k)
    by_limit None is all kids = record {
      none = λ e. all ∙ kids.none e;
      least = λ e. omega (arith, all, kids.least e);
      most = λ e. elim (kids.most e) [
        | inl whole ↦ inl (omega (arith, all, whole))
        | inr cap ↦ inr (cap-wide ps (k + 1) (k + p.nodes) k (k + p.nodes) p.first p.first (taken_in level ps (k + 1) p.kids) (absorbed level ps k) (omega arith) (omega arith) refl (omega (arith, all)) cap)
      ];
    }
    by_limit (Some most) is all kids = record {
      none = λ e. omega (arith, all, kids.none e);
      least = λ e. omega (arith, all, kids.least e);
      most = λ e. elim (cases_lt most (taken_in level ps (k + 1) p.kids)) [
        | inl less ↦ inr (record {
          number = k;
          most = most;
          place = p;
          after = omega arith;
          before = omega (arith, (shaped k p got).some);
          got = got;
          kind = is;
          first = refl;
          alone = e;
          fits = omega (arith, all);
        })
        | inr fits ↦ elim (kids.most e) [
          | inl whole ↦ inl (omega (arith, all, whole))
          | inr cap ↦ inr (cap-wide ps (k + 1) (k + p.nodes) k (k + p.nodes) p.first p.first (taken_in level ps (k + 1) p.kids) (absorbed level ps k) (omega arith) (omega arith) refl (omega (arith, all)) cap)
        ]
      ];
    }

are_alone : (level : ℕ) (ps : List Place) (fuel : ℕ) → IsShaped ps → AreAlone level ps fuel
are_alone level ps zero shaped = λ k p got fits. absurd (omega (arith, (shaped k p got).some))
are_alone level ps (suc fuel) shaped = λ k p got fits. kind_alone level ps fuel shaped (are_alone level ps fuel shaped) k p got fits p.kind refl

pub is_alone : (level : ℕ) (ps : List Place) (k : ℕ) (p : Place) → IsShaped ps → slice_get ps k ≡ Some p → IsAlone level ps k (k + p.nodes) p.first p.leaves (absorbed level ps k)
is_alone level ps k p shaped got = are_alone level ps p.nodes shaped k p got (omega arith)
