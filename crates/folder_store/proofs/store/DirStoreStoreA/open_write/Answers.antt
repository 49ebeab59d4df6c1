use Rattle.std.proofs.Common.{ap, string_bytes, subst, sym, Ok, refl}
use Rattle.virtual_tree.specs.Calls.Exchange.{OpenWrite}
use Rattle.folder_store.specs.Honest.{FolderStep}
use Rattle.folder_store.specs.Opening.{OpensToWrite}
use Rattle.folder_store.specs.Served.{AtPlace}
use Rattle.folder_store.specs.Walks.{walker}
use Rattle.folder_store.proofs.Serving.{honest_ok}
use Rattle.folder_store.proofs.store.DirStoreStoreA.open_write.Goals as goal

pub returns-in-Ok-write_by : goal.returns-in-Ok-write_by
returns-in-Ok-write_by g c = subst (λ s. FolderStep g.M.FolderMachine.Does (λ directory. g.M.Directory.AsRawFd.raw_fd directory) s (OpenWrite c.args.path.now c.args.mode c.args._moment (Ok c.write_new.result)) (record { machine = c.write_by.new.self.machine; numbered = c.write_by.new.self.has_proc; folder = string_bytes c.write_by.new.self.path; syncs = c.self.inside.syncs; faults = c.self.inside.faults })) c.self.view_is (record {
  honest = honest_ok _;
  folder = ap string_bytes c.in-Ok-write_by.ensures.path;
  syncs = refl;
  serves = (
    ap (λ sink. sink.calls) c.write_new.ensures.file,
    subst (λ f. AtPlace g.M.FolderMachine.Does (λ directory. g.M.Directory.AsRawFd.raw_fd directory) (walker c.self.inside.folder.machine c.self.inside.folder.has_proc) (string_bytes c.self.inside.folder.path) c.args.path.now (λ here place after. OpensToWrite g.M.FolderMachine.Does c.args.mode here place f after) (walker c.write_by.new.self.machine c.write_by.new.self.has_proc)) (sym (ap (λ sink. sink.file) c.write_new.ensures.file)) c.in-Ok-write_by.ensures.opened,
  );
})
