use Rattle.std.proofs.Common.{sym, ap, ◌∙◌}
use Rattle.std.specs.FinMap as map
use Rattle.memory_store.proofs.Trees.{get_key}
use Rattle.memory_store.proofs.files.Files.get.Goals as goal

pub returns : goal.returns
returns g c = c.get.ensures.value ∙ sym (get_key c.self.inside.nodes.entries c.args.key.now) ∙ ap (λ tree. map.get tree c.args.key.now) c.self.view_is
