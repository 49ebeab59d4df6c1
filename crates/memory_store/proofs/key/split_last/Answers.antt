use Rattle.virtual_path.proofs.LastSlash.{split_answer}
use Rattle.memory_store.proofs.key.split_last.Goals as goal

pub returns : goal.returns
returns c = record { parts = split_answer c.args.text.now c.rsplit_once.result c.rsplit_once.ensures.cases }
