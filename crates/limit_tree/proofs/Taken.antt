-- What nodes absorb is what they take in.
use Rattle.std.proofs.Common.{◌≡◌, ℕ, zero, suc, ◌+◌, List, refl, sym, ap, ◌∙◌, Option, Some}
use Rattle.std.specs.Prelude.{slice_get, unwrap_or}
use Rattle.std.specs.Option.{option_map}
use Rattle.limit_tree.specs.Outline.{absorbed, cut}
use Rattle.limit_tree.specs.Flat.{IsRow, IsShaped, taken_in}
use Rattle.limit_tree.specs.Absorbing.{nodes_at, sum_of_trees, TakesIn}
use Rattle.limit_tree.specs.declared.place.Place.{Place}
use Rattle.limit_tree.proofs.Hops.{absorbed-leaf, absorbed-branch, taken-more}

nodes_at-is : (ps : List Place) (k : ℕ) (p : Place) → slice_get ps k ≡ Some p → nodes_at ps k ≡ p.nodes
nodes_at-is ps k p got = ap (λ (o : Option Place). unwrap_or (option_map (λ (q : Place). q.nodes) o) 0) got

-- what trees side by side absorb is the sum over them
taken-trees : (level : ℕ) (ps : List Place) → IsShaped ps → (n at first last past : ℕ) → IsRow ps at first n last past → taken_in level ps at n ≡ sum_of_trees (absorbed level ps) ps at n
taken-trees level ps shaped zero at first last past row = refl
taken-trees level ps shaped (suc n) at first last past row =
    taken-more level ps at n row.0 shaped row.1 ∙
    (ap (λ (m : ℕ). absorbed level ps at + m) (taken-trees level ps shaped n (at + row.0.nodes) (first + row.0.leaves) last past row.3) ∙
    ap (λ (m : ℕ). absorbed level ps at + sum_of_trees (absorbed level ps) ps (at + m) n) (sym (nodes_at-is ps at row.0 row.1)))

pub takes-in : (level : ℕ) (ps : List Place) → IsShaped ps → TakesIn level ps (absorbed level ps)
takes-in level ps shaped = record {
  leaf = λ k want floor p got is. absorbed-leaf level ps k p want floor got is;
  branch = λ k limit p got is.
      absorbed-branch level ps k p limit got is ∙
      ap (cut limit) (taken-trees level ps shaped p.kids (k + 1) p.first (k + p.nodes) (p.first + p.leaves) ((shaped k p got).branch limit is));
}
