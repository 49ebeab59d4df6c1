use Rattle.std.proofs.Common.{◌≡◌, drop, false, map, string_bytes, take, List, ℕ}
use Rattle.folder_store.specs.Places.{LeadsTo}
use Rattle.folder_store.specs.Walks.{Walker, Walks, walker}
use Rattle.folder_store.proofs.folder.Folder.directory.Given as goal

abbrev pub invariant-loop-name : goal.invariant-loop-name
invariant-loop-name g l = record {
  place : LeadsTo (string_bytes l.fn.self.path) (map (λ name. name.now) (take l.name-index l.names)) l.place;
  path : l.self.path ≡ l.fn.self.path;
  walked : l.is_file ≡ false → (end : List ℕ) (new : Walker g.row.M.Denot)
      → Walks g.M.FolderMachine.Does (λ directory. g.M.Directory.AsRawFd.raw_fd directory) (walker l.self.machine l.self.has_proc) l.place (map (λ name. name.now) (drop l.name-index l.names)) end new
      → Walks g.M.FolderMachine.Does (λ directory. g.M.Directory.AsRawFd.raw_fd directory) (walker l.fn.self.machine l.fn.self.has_proc) (string_bytes l.fn.self.path) (map (λ name. name.now) l.names) end new;
}
