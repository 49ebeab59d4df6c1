use Rattle.std.proofs.Common.{sym, ap, ◌∙◌}
use Rattle.std.specs.FinMap as map
use Rattle.memory_store.specs.Tree.{Tree, total}
use Rattle.memory_store.proofs.Trees.{one_put, one_taken, shift_total}
use Rattle.memory_store.proofs.files.Files.shift.Goals as goal

pub returns-clause-ok : goal.returns-clause-ok
returns-clause-ok g c =
    one_taken c.insert.new.self.entries c.remove.new.self.entries c.args.from.now c.remove.ensures.updates.0
    ∙ ap (λ (tree : Tree). map.remove tree c.args.from.now)
    (one_put c.self.inside.nodes.entries c.insert.new.self.entries c.args.to c.args.entry c.in_ok-insert.ensures.updates.0
    ∙ ap (λ (tree : Tree). map.insert tree c.args.to c.args.entry) c.self.view_is)

pub invariant_of-self-2 : goal.invariant_of-self-2
invariant_of-self-2 g c =
    c.self.invariant ∙ ap total c.self.view_is
    ∙ shift_total c.args.self.now c.args.from.now c.args.to c.args.entry c.requires.stands c.requires.vacant
    ∙ sym (ap total
    (one_taken c.insert.new.self.entries c.remove.new.self.entries c.args.from.now c.remove.ensures.updates.0
    ∙ ap (λ (tree : Tree). map.remove tree c.args.from.now)
    (one_put c.self.inside.nodes.entries c.insert.new.self.entries c.args.to c.args.entry c.in_ok-insert.ensures.updates.0
    ∙ ap (λ (tree : Tree). map.insert tree c.args.to c.args.entry) c.self.view_is)))
