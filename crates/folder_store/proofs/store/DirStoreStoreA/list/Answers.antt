use Rattle.std.proofs.Common.{ap, string_bytes, subst, Ok, refl}
use Rattle.virtual_tree.specs.Calls.Exchange.{Listing}
use Rattle.virtual_tree.specs.Calls.{entries_of}
use Rattle.folder_store.specs.Honest.{FolderStep}
use Rattle.folder_store.proofs.Serving.{honest_ok}
use Rattle.folder_store.proofs.store.DirStoreStoreA.list.Goals as goal

pub returns-in-Ok-clause-step : goal.returns-in-Ok-clause-step
returns-in-Ok-clause-step g c = subst (λ s. FolderStep g.M.FolderMachine.Does (λ directory. g.M.Directory.AsRawFd.raw_fd directory) s (Listing c.args.path.now (Ok (entries_of c.in-Ok.reported))) (record { machine = c.list.new.self.machine; numbered = c.list.new.self.has_proc; folder = string_bytes c.list.new.self.path; syncs = c.self.inside.syncs; faults = c.self.inside.faults })) c.self.view_is (record {
  honest = honest_ok _;
  folder = ap string_bytes c.in-Ok.ensures.path;
  syncs = refl;
  serves = c.in-Ok.ensures.listed;
})
