use Rattle.std.specs.declared.fs.File.{File}
use Rattle.std.proofs.Common.{refl}
use Rattle.folder_store.proofs.RealMachine.{read_shows}
use Rattle.folder_store.proofs.files_machine.AnyFolderMachine.read_names.Goals as goal

pub returns-clause-did : goal.returns-clause-did
returns-clause-did g c = (refl, read_shows File c.args.directory.now c.read_dir-count.new.buf _ c.names_count.result c.names_count.ensures.refused c.names_count.ensures.error)
