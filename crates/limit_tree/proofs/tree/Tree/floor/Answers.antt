use Rattle.std.proofs.Common.{arith, ◌∙◌, sym}
use Rattle.std.proofs.lemmas.Option.{get_or_from_slice_get}
use Rattle.limit_tree.specs.Outline.{limits}
use Rattle.limit_tree.proofs.Leaves.{length-floors_in, length-wants_in}
use Rattle.limit_tree.proofs.Looks.{some_within}
use Rattle.limit_tree.proofs.tree.Tree.floor.Goals as goal

pub unreachable-requires : goal.unreachable-requires
unreachable-requires g c = some_within (limits c.args.self.now).floors c.args.leaf (omega (arith, c.requires.leaf, length-floors_in c.args.self.now, length-wants_in c.args.self.now)) (sym c.leaf.ensures.floor ∙ c.in-None.is)

pub returns : goal.returns
returns g c = record { floor = sym (get_or_from_slice_get (limits c.args.self.now).floors c.args.leaf c.in-Some.floor 0 (sym c.leaf.ensures.floor ∙ c.in-Some.is)) }
