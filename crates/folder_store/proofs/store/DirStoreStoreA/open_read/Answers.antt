use Rattle.std.proofs.Common.{ap, string_bytes, subst, sym, Ok, refl}
use Rattle.virtual_tree.specs.Calls.Exchange.{OpenRead}
use Rattle.folder_store.specs.Honest.{FolderStep}
use Rattle.folder_store.specs.Opening.{OpensToRead}
use Rattle.folder_store.specs.Served.{AtPlace}
use Rattle.folder_store.specs.Walks.{walker}
use Rattle.folder_store.proofs.Serving.{honest_ok}
use Rattle.folder_store.proofs.store.DirStoreStoreA.open_read.Goals as goal

pub returns-in-Ok-read_from : goal.returns-in-Ok-read_from
returns-in-Ok-read_from g c = subst (λ s. FolderStep g.M.FolderMachine.Does (λ directory. g.M.Directory.AsRawFd.raw_fd directory) s (OpenRead c.args.path.now c.args.offset (Ok c.read_rest.result)) (record { machine = c.read_from.new.self.machine; numbered = c.read_from.new.self.has_proc; folder = string_bytes c.read_from.new.self.path; syncs = c.self.inside.syncs; faults = c.self.inside.faults })) c.self.view_is (record {
  honest = honest_ok _;
  folder = ap string_bytes c.in-Ok-read_from.ensures.path;
  syncs = refl;
  serves = (
    c.read_rest.ensures.none,
    subst (λ f. AtPlace g.M.FolderMachine.Does (λ directory. g.M.Directory.AsRawFd.raw_fd directory) (walker c.self.inside.folder.machine c.self.inside.folder.has_proc) (string_bytes c.self.inside.folder.path) c.args.path.now (λ here place after. OpensToRead g.M.FolderMachine.Does here place c.args.offset f c.read_rest.result.left after) (walker c.read_from.new.self.machine c.read_from.new.self.has_proc)) (sym c.read_rest.ensures.file)
        (subst (λ n. AtPlace g.M.FolderMachine.Does (λ directory. g.M.Directory.AsRawFd.raw_fd directory) (walker c.self.inside.folder.machine c.self.inside.folder.has_proc) (string_bytes c.self.inside.folder.path) c.args.path.now (λ here place after. OpensToRead g.M.FolderMachine.Does here place c.args.offset c.in-Ok-read_from.rest.file n after) (walker c.read_from.new.self.machine c.read_from.new.self.has_proc)) (sym c.read_rest.ensures.left) c.in-Ok-read_from.ensures.opened),
  );
})
