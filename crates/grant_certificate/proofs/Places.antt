-- A branch by its place.
use Rattle.std.proofs.Common.{◌≡◌, ℕ, ◌<◌, refl, sym, ap, ◌∙◌, subst, List, Option, Some}
use Rattle.std.specs.Option.{option_and_then, option_map}
use Rattle.limit_tree.specs.Sharing.{Branch as SharedBranch, sum_over}
use Rattle.limit_tree.specs.Outline.{branch_of, leaf_range}
use Rattle.limit_tree.specs.declared.place.NodeKind.{NodeKind}
use Rattle.limit_tree.specs.declared.place.NodeKind.TheVariants.{Branch}
use Rattle.limit_tree.specs.declared.place.Place.{Place}
use Rattle.grant_certificate.specs.Ranges.{IsOverPlace}

pub over-place : (p : Place) (limit sum : ℕ) (g : List ℕ) → p.kind ≡ Branch (Some limit) → sum ≡ sum_over (leaf_range p.first p.leaves) g → limit < sum → IsOverPlace p g
over-place p limit sum g kind is less = (
  record { limit = Some limit; holds = leaf_range p.first p.leaves },
  limit,
  ap (λ (k : NodeKind). branch_of k p.first p.leaves) kind,
  refl,
  subst (λ (n : ℕ). limit < n) is less,
)

some_nat : (a b : ℕ) → Some a ≡ Some b → a ≡ b
some_nat a b e = cc

pub over-place-less : (p : Place) (limit sum : ℕ) (g : List ℕ) → p.kind ≡ Branch (Some limit) → sum ≡ sum_over (leaf_range p.first p.leaves) g → IsOverPlace p g → limit < sum
over-place-less p limit sum g kind is over =
    go over.0 over.1 (sym (ap (λ (k : NodeKind). branch_of k p.first p.leaves) kind) ∙ over.2) over.3 over.4
  where
    go : (b : SharedBranch) (most : ℕ) → branch_of (Branch (Some limit)) p.first p.leaves ≡ Some b → b.limit ≡ Some most → most < sum_over b.holds g → limit < sum
    go b most e l less =
        let same : limit ≡ most = some_nat limit most (ap (λ (o : Option SharedBranch). option_and_then (λ (b : SharedBranch). b.limit) o) e ∙ l) in
        let sums : sum_over (leaf_range p.first p.leaves) g ≡ sum_over b.holds g = some_nat _ _ (ap (λ (o : Option SharedBranch). option_map (λ (b : SharedBranch). sum_over b.holds g) o) e) in
        subst (λ (n : ℕ). n < sum) (sym same) (subst (λ (n : ℕ). most < n) (sym (is ∙ sums)) less)
