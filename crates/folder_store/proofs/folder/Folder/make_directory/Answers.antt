use Rattle.std.proofs.Common.{Ok}
use Rattle.folder_store.specs.MachineCalls.MachineCall.{MakesDirectory}
use Rattle.folder_store.specs.Walks.{walker}
use Rattle.folder_store.proofs.Walking.{at_place, on_ok}
use Rattle.folder_store.proofs.folder.Folder.make_directory.Goals as goal

pub returns-clause-made : goal.returns-clause-made
returns-clause-made g c =
    on_ok c.make_at.result (λ done. at_place g.M.FolderMachine.Does (λ directory. g.M.Directory.AsRawFd.raw_fd directory) _ _ (walker c.make_at.new.self.machine c.make_at.new.self.has_proc) _ _ _ _ (λ here place after. g.M.FolderMachine.Does here (MakesDirectory place (Ok tt)) after) c.in_ok-place.ensures.walked c.text.ensures.text c.make_at.ensures.proc done) c.make_at.ensures.made
