-- A tree without leaves absorbs nothing.
use Rattle.std.proofs.Common.{◌≡◌, ℕ, zero, suc, ◌+◌, ◌≤◌, List, refl, ap, ◌∙◌, arith, Option, Some, None}
use Rattle.std.specs.Prelude.{slice_get}
use Rattle.limit_tree.specs.Outline.{absorbed, cut}
use Rattle.limit_tree.specs.Flat.{IsRow, IsShaped, IsTreeAt, taken_in}
use Rattle.limit_tree.specs.declared.place.NodeKind.{NodeKind}
use Rattle.limit_tree.specs.declared.place.NodeKind.TheVariants.{Branch, Leaf}
use Rattle.limit_tree.specs.declared.place.Place.{Place}
use Rattle.limit_tree.proofs.Hops.{absorbed-branch, row-last, taken-more}

row-past : (ps : List Place) (at first n last past : ℕ) → IsRow ps at first n last past → first ≤ past
row-past ps at first zero last past row = omega (arith, row.1)
row-past ps at first (suc n) last past row = omega (arith, row-past ps (at + row.0.nodes) (first + row.0.leaves) n last past row.3)

cut-zero : (limit : Option ℕ) → cut limit 0 ≡ 0
cut-zero None = refl
cut-zero (Some most) = omega arith

-- rows of at most so many nodes and without leaves take in nothing
abbrev AreBare : ℕ → List Place → ℕ → Type 0
AreBare level ps fuel = (n at first last past : ℕ) → IsRow ps at first n last past → past ≤ first → last ≤ at + fuel → taken_in level ps at n ≡ 0

bare-kind : (level : ℕ) (ps : List Place) (fuel : ℕ) → AreBare level ps fuel → (k : ℕ) (p : Place) → slice_get ps k ≡ Some p → p.leaves ≡ 0 → p.nodes ≤ suc fuel → IsTreeAt ps k p → (kind : NodeKind) → p.kind ≡ kind → absorbed level ps k ≡ 0
bare-kind level ps fuel bare k p got none fits tree (Leaf want floor) is = absurd (omega (arith, none, (tree.leaf want floor is).1))
bare-kind level ps fuel bare k p got none fits tree (Branch limit) is =
    absorbed-branch level ps k p limit got is
    ∙ ap (cut limit) (bare p.kids (k + 1) p.first (k + p.nodes) (p.first + p.leaves) (tree.branch limit is) (omega (arith, none)) (omega (arith, fits)))
    ∙ cut-zero limit

pub bare-row : (level : ℕ) (ps : List Place) (fuel : ℕ) → IsShaped ps → AreBare level ps fuel
bare-row level ps fuel shaped zero at first last past row none fits = refl
bare-row level ps zero shaped (suc n) at first last past row none fits =
    absurd (omega (arith, fits, (shaped at row.0 row.1).some, row-last ps (at + row.0.nodes) (first + row.0.leaves) n last past row.3))
bare-row level ps (suc fuel) shaped (suc n) at first last past row none fits =
    let p = row.0 in
    let tree = shaped at p row.1 in
    let ends = row-last ps (at + p.nodes) (first + p.leaves) n last past row.3 in
    let leaves = row-past ps (at + p.nodes) (first + p.leaves) n last past row.3 in
    let own = bare-kind level ps fuel (bare-row level ps fuel shaped) at p row.1 (omega (arith, leaves, none)) (omega (arith, ends, fits)) tree p.kind refl in
    let rest = bare-row level ps fuel shaped n (at + p.nodes) (first + p.leaves) last past row.3 (omega (arith, none, leaves)) (omega (arith, fits, tree.some)) in
    taken-more level ps at n p shaped row.1 ∙ omega (arith, own, rest)

pub absorbed-bare : (level : ℕ) (ps : List Place) (k : ℕ) (p : Place) → IsShaped ps → slice_get ps k ≡ Some p → p.leaves ≡ 0 → absorbed level ps k ≡ 0
absorbed-bare level ps k p shaped got none = bare-kind level ps p.nodes (bare-row level ps p.nodes shaped) k p got none (omega arith) (shaped k p got) p.kind refl
