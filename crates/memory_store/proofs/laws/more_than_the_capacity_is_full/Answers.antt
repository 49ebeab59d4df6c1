use Rattle.memory_store.proofs.UploadLaws.{more_is_full}
use Rattle.memory_store.proofs.laws.more_than_the_capacity_is_full.Goals as goal

pub returns : goal.returns
returns c = record { full = more_is_full }
