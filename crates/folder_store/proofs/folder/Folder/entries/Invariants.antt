use Rattle.std.proofs.Common.{◌≡◌, [], List, map, string_bytes}
use Rattle.std.specs.Cmp.Lexicographic.{slice_cmp}
use Rattle.std.specs.List.Sorted.{IsStrictlySortedBy}
use Rattle.std.specs.Ordering.{nat_cmp}
use Rattle.virtual_tree.specs.Calls.{Entry, entries_of, names_of}
use Rattle.folder_store.specs.Listings.{ListsNames}
use Rattle.folder_store.proofs.folder.Folder.entries.Given as goal

abbrev pub invariant-loop-name : goal.invariant-loop-name
invariant-loop-name g l = record {
  rises : IsStrictlySortedBy (slice_cmp nat_cmp) (names_of l.listed);
  path : l.self.path ≡ l.fn.self.path;
  proc : l.self.has_proc ≡ l.fn.self.has_proc;
  lists : (entries : List Entry) (new : g.row.M.Denot) → ListsNames g.M.FolderMachine.Does l.self.machine l.directory (map string_bytes l.name-iterator.rest.items) (entries_of l.listed) entries new
      → ListsNames g.M.FolderMachine.Does l.fn.self.machine l.directory (map string_bytes l.fn.names.items) [] entries new;
}
