use Rattle.std.proofs.Common.{arith, ◌∙◌, sym}
use Rattle.limit_tree.specs.Outline.{places}
use Rattle.limit_tree.proofs.Sound.{sound_outline, few_floors}
use Rattle.limit_tree.proofs.tree.Tree.new.Goals as goal

pub floors_of-requires-clause-floors : goal.floors_of-requires-clause-floors
floors_of-requires-clause-floors g c = few_floors (places c.args.root) c.in_ok-passed.ensures.fault (omega (arith, c.in_ok-passed.ensures.leaves, c.in_ok-passed.ensures.few_leaves))

pub invariant_of-result : goal.invariant_of-result
invariant_of-result g c =
    sound_outline c.args.root c.in_ok-passed.passed.nodes c.in_ok-passed.passed.leaves c.in_ok-passed.ensures.fault (sym c.floors_of.ensures.over ∙ c.in-None.is) (omega (arith, c.in_ok-passed.ensures.nodes)) (omega (arith, c.in_ok-passed.ensures.leaves)) c.in_ok-passed.ensures.few_nodes c.in_ok-passed.ensures.few_leaves
