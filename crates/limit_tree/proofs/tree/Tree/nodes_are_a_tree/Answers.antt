use Rattle.std.proofs.Common.{◌≡◌, subst, List, None}
use Rattle.limit_tree.specs.Depths.{HaveDepths, LaterIsDeeper}
use Rattle.limit_tree.specs.Faults.{tree_fault}
use Rattle.limit_tree.specs.Flat.{IsFlat}
use Rattle.limit_tree.specs.declared.place.Place.{Place}
use Rattle.limit_tree.proofs.Deeper.{later_is_deeper}
use Rattle.limit_tree.proofs.DepthsByKids.{have-depths}
use Rattle.limit_tree.proofs.Shapes.{flat-sound}
use Rattle.limit_tree.proofs.tree.Tree.nodes_are_a_tree.Goals as goal

pub returns : goal.returns
returns g c = record {
  flat = subst (λ (ps : List Place). IsFlat ps) c.self.view_is (flat-sound c.self.inside.root c.self.inside.nodes c.self.inside.leaves c.self.invariant);
  deeper = subst (λ (ps : List Place). LaterIsDeeper ps) c.self.view_is (later_is_deeper c.self.inside.root);
  depths = subst (λ (ps : List Place). HaveDepths ps) c.self.view_is (have-depths c.self.inside.root);
  sound = subst (λ (ps : List Place). tree_fault ps ≡ None) c.self.view_is c.self.invariant.sound;
}
