use Rattle.std.proofs.Common.{refl}
use Rattle.folder_store.specs.Opening.{OpensToRead}
use Rattle.folder_store.specs.Walks.{walker}
use Rattle.folder_store.proofs.Walking.{at_place, if_ok}
use Rattle.folder_store.proofs.folder.Folder.read_from.Goals as goal

pub returns-clause-opened : goal.returns-clause-opened
returns-clause-opened g c =
    if_ok c.read_at.result (λ x done. at_place g.M.FolderMachine.Does (λ directory. g.M.Directory.AsRawFd.raw_fd directory) _ _ (walker c.read_at.new.machine c.found_file.new.self.has_proc) _ _ _ _ (λ here place after. OpensToRead g.M.FolderMachine.Does here place c.args.offset x.file x.left after) c.in_ok-place.ensures.walked c.text.ensures.text refl done) c.read_at.ensures.opened
