use Rattle.std.proofs.Common.{arith, ◌∙◌, sym}
use Rattle.std.proofs.lemmas.Option.{get_or_from_slice_get}
use Rattle.limit_tree.specs.Outline.{limits}
use Rattle.limit_tree.proofs.Looks.{some_within}
use Rattle.limit_tree.proofs.tree.Tree.want.Goals as goal

pub unreachable-requires : goal.unreachable-requires
unreachable-requires g c = some_within (limits c.args.self.now).wants c.args.leaf (omega (arith, c.requires)) (sym c.leaf.ensures.want ∙ c.in-None.is)

pub returns : goal.returns
returns g c = record { want = sym (get_or_from_slice_get (limits c.args.self.now).wants c.args.leaf c.in-Some.want 0 (sym c.leaf.ensures.want ∙ c.in-Some.is)) }
