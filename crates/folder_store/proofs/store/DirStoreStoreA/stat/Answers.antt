use Rattle.std.proofs.Common.{ap, string_bytes, subst, Ok, refl}
use Rattle.virtual_tree.specs.Calls.Exchange.{Stat}
use Rattle.folder_store.specs.Honest.{FolderStep}
use Rattle.folder_store.proofs.Serving.{honest_ok}
use Rattle.folder_store.proofs.store.DirStoreStoreA.stat.Goals as goal

pub returns-in-Ok : goal.returns-in-Ok
returns-in-Ok g c = subst (λ s. FolderStep g.M.FolderMachine.Does (λ directory. g.M.Directory.AsRawFd.raw_fd directory) s (Stat c.args.path.now (Ok c.in-Ok.reported)) (record { machine = c.look_at.new.self.machine; numbered = c.look_at.new.self.has_proc; folder = string_bytes c.look_at.new.self.path; syncs = c.self.inside.syncs; faults = c.self.inside.faults })) c.self.view_is (record {
  honest = honest_ok _;
  folder = ap string_bytes c.in-Ok.ensures.path;
  syncs = refl;
  serves = c.in-Ok.ensures.shown;
})
