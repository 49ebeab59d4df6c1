use Rattle.std.proofs.Common.{refl}
use Rattle.folder_store.proofs.RealMachine.{closed_shows}
use Rattle.folder_store.proofs.files_machine.AnyFolderMachine.close.Goals as goal

pub returns : goal.returns
returns g c = (refl, closed_shows _ c.args.file _ c.closed.result c.closed.ensures.error)
