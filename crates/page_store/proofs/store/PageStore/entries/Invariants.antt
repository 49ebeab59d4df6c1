use Rattle.std.proofs.Common.{◌≡◌, map}
use Rattle.std.specs.Cmp.Lexicographic.{slice_cmp}
use Rattle.std.specs.List.{All}
use Rattle.std.specs.List.Sorted.{IsStrictlySortedBy}
use Rattle.std.specs.Ordering.{nat_cmp}
use Rattle.virtual_tree.specs.Calls.{entry_of, names_of}
use Rattle.page_store.specs.Pages.{IsShownEntry}
use Rattle.page_store.proofs.store.PageStore.entries.Given as goal

abbrev pub invariant-loop-name : goal.invariant-loop-name
invariant-loop-name g l = record {
  rises : IsStrictlySortedBy (slice_cmp nat_cmp) (names_of l.listed);
  shown : All (IsShownEntry g.P.Pages.Shows) (map entry_of l.listed.items);
  count : l.self.count ≡ l.fn.self.count;
}
