use Rattle.std.proofs.Common.{arith, ◌∙◌, ◌++◌, List, ℕ, ap, length, map}
use Rattle.limit_tree.specs.Outline.{places, limits, moved}
use Rattle.limit_tree.specs.declared.place.Place.{Place}
use Rattle.limit_tree.proofs.Leaves.{sum-floors_in}
use Rattle.limit_tree.proofs.Moves.{map_moved-here}
use Rattle.limit_tree.proofs.tree.Tree.copy_into.Goals as goal

pub copy_tree-requires-clause-floors : goal.copy_tree-requires-clause-floors
copy_tree-requires-clause-floors g c = omega (arith, sum-floors_in (places c.self.inside.root), c.self.invariant.few_floors, c.self.invariant.few_octets, c.self.invariant.few_leaves)

pub returns : goal.returns
returns g c =
    let root = c.self.inside.root in
    let copied = c.in_ok-_floors.ensures.copied in
    record {
      copied = record {
        nodes = copied.nodes ∙ (ap (λ (ps : List Place). ps ++ map (moved 0 (length c.args.copy.now.wants.items)) (places root)) c.requires.places ∙
            (ap (λ (ws : List ℕ). map (moved 0 (length ws)) (places root)) c.requires.wants ∙ (map_moved-here (places root) ∙ c.self.view_is)));
        wants_are = copied.wants_are ∙ (ap (λ (ws : List ℕ). ws ++ (limits (places root)).wants) c.requires.wants ∙ ap (λ (ps : List Place). (limits ps).wants) c.self.view_is);
        floors_are = copied.floors_are ∙ (ap (λ (fs : List ℕ). fs ++ (limits (places root)).floors) c.requires.floors ∙ ap (λ (ps : List Place). (limits ps).floors) c.self.view_is);
      };
    }
