use Rattle.std.proofs.Common.{refl}
use Rattle.folder_store.specs.Opening.{OpensToWrite}
use Rattle.folder_store.specs.Walks.{walker}
use Rattle.folder_store.proofs.Walking.{at_place, if_ok}
use Rattle.folder_store.proofs.folder.Folder.write_by.Goals as goal

pub returns-clause-opened : goal.returns-clause-opened
returns-clause-opened g c =
    if_ok c.write_at.result (λ x done. at_place g.M.FolderMachine.Does (λ directory. g.M.Directory.AsRawFd.raw_fd directory) _ _ (walker c.write_at.new.machine c.place_for.new.self.has_proc) _ _ _ _ (λ here place after. OpensToWrite g.M.FolderMachine.Does c.args.mode here place x after) c.in_ok-place.ensures.walked c.text.ensures.text refl done) c.write_at.ensures.opened
