use Rattle.memory_store.proofs.UploadLaws.{finish_puts_what_came}
use Rattle.memory_store.proofs.laws.finish_puts_what_came.Goals as goal

pub returns : goal.returns
returns c = record { written = finish_puts_what_came }
