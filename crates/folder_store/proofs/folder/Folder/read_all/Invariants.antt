use Rattle.std.proofs.Common.{◌≡◌, [], List, ℕ, map, string_bytes}
use Rattle.folder_store.specs.Listings.{ReadsNames}
use Rattle.folder_store.proofs.folder.Folder.read_all.Given as goal

abbrev pub invariant-reads : goal.invariant-reads
invariant-reads g l = record {
  path : l.self.path ≡ l.fn.self.path;
  proc : l.self.has_proc ≡ l.fn.self.has_proc;
  given : (texts names : List (List ℕ)) (new : g.row.M.Denot) → ReadsNames g.M.FolderMachine.Does l.self.machine l.directory texts (map string_bytes l.names.items) names new
      → (all : List (List ℕ)) × ReadsNames g.M.FolderMachine.Does l.fn.self.machine l.directory all [] names new;
}
