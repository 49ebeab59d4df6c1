use Rattle.memory_store.proofs.Moves.{begins_if_beneath}
use Rattle.memory_store.proofs.renaming.begins_with.Goals as goal

pub returns : goal.returns
returns g c = begins_if_beneath c.args.path.now c.args.front.now c.starts_with.result c.starts_with.ensures.beneath
