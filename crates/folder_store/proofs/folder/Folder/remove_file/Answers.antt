use Rattle.folder_store.specs.Served.{RemovesThatFile}
use Rattle.folder_store.specs.Walks.{walker}
use Rattle.folder_store.proofs.Walking.{at_place, on_ok}
use Rattle.folder_store.proofs.folder.Folder.remove_file.Goals as goal

pub returns-clause-removed : goal.returns-clause-removed
returns-clause-removed g c =
    on_ok c.remove_that.result (λ done. at_place g.M.FolderMachine.Does (λ directory. g.M.Directory.AsRawFd.raw_fd directory) _ _ (walker c.remove_that.new.self.machine c.remove_that.new.self.has_proc) _ _ _ _ (λ here place after. RemovesThatFile g.M.FolderMachine.Does here place after) c.in_ok-place.ensures.walked c.text.ensures.text c.remove_that.ensures.proc done) c.remove_that.ensures.removed
