use Rattle.std.proofs.Common.{arith, ◌∙◌, List, subst, refl}
use Rattle.limit_tree.specs.Outline.{places}
use Rattle.limit_tree.specs.declared.place.Place.{Place}
use Rattle.limit_tree.proofs.Leaves.{sum-floors_in}
use Rattle.limit_tree.proofs.Moves.{map_moved-here}
use Rattle.limit_tree.proofs.tree.Tree.walk.Goals as goal

pub walk_tree-passed-requires-clause-floors : goal.walk_tree-passed-requires-clause-floors
walk_tree-passed-requires-clause-floors g c = omega (arith, sum-floors_in (places c.self.inside.root), c.self.invariant.few_floors, c.self.invariant.few_octets, c.self.invariant.few_leaves)

pub returns-clause-saw : goal.returns-clause-saw
returns-clause-saw g c = λ start was. subst (λ (ps : List Place). g.V.Visitor.Saw start ps c.walk_tree-passed.new.visitor) (map_moved-here (places c.self.inside.root) ∙ c.self.view_is) (c.walk_tree-passed.ensures.saw start _ refl refl was)

pub size_of_tree-size-requires-clause-floors : goal.size_of_tree-size-requires-clause-floors
size_of_tree-size-requires-clause-floors g c = omega (arith, sum-floors_in (places c.self.inside.root), c.self.invariant.few_floors, c.self.invariant.few_octets, c.self.invariant.few_leaves)
