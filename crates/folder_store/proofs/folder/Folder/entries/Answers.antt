use Rattle.std.proofs.Common.{rules, ◌≡◌, ◌++◌, [], ◌∷◌, Some, inl, inr, map, refl, string_bytes, sym, ap, subst, ◌∙◌}
use Rattle.std.proofs.lemmas.List.{map-append}
use Rattle.std.specs.Cmp.Lexicographic.{slice_cmp}
use Rattle.std.specs.List.Sorted.{IsStrictlySortedBy}
use Rattle.std.specs.Option.{IfSome, option_map}
use Rattle.std.specs.Ordering.{nat_cmp}
use Rattle.virtual_tree.specs.Calls.{entries_of, entry_of, names_of}
use Rattle.folder_store.specs.Listings.{ComesLast, IsListedBefore, ListsNames, ShowsEntry}
use Rattle.folder_store.proofs.Rising.{rising_none, rising_push}
use Rattle.folder_store.proofs.folder.Folder.entries.Goals as goal

pub loop-name-init : goal.loop-name-init
loop-name-init g c = record {
  rises = rising_none _ c.new-listed.ensures.items;
  path = refl;
  proc = refl;
  lists = λ entries new rest.
      subst (λ ns. ListsNames g.M.FolderMachine.Does c.args.self.now.machine c.args.directory.now (map string_bytes ns) [] entries new) c.into_iter-name-iterator.ensures.into_iter_gives.0
      (subst (λ ls. ListsNames g.M.FolderMachine.Does c.args.self.now.machine c.args.directory.now (map string_bytes c.into_iter-name-iterator.result.rest.items) (map entry_of ls) entries new) c.new-listed.ensures.items rest);
}

pub loop-name-preserved-else-is_err : goal.loop-name-preserved-else-is_err
loop-name-preserved-else-is_err g c =
    let was = c.loop-name.invariant in
    let pushed : c.push.new.self.items ≡ c.loop-name.listed.items ++ c.in-Some-2.entry ∷ [] = search rules in
    let all : map entry_of c.push.new.self.items ≡ map entry_of c.loop-name.listed.items ++ entry_of c.in-Some-2.entry ∷ [] = ap (map entry_of) pushed ∙ map-append entry_of c.loop-name.listed.items (c.in-Some-2.entry ∷ []) in
    let named : string_bytes c.in-Some-2.entry.name ≡ string_bytes c.in-Some.name =
    subst (λ found. IfSome found (λ entry. string_bytes entry.name ≡ string_bytes c.in-Some.name)) c.in-Some-2.is c.in_ok-entry.ensures.name in
    let last : ComesLast c.loop-name.listed.items (string_bytes c.in-Some-2.entry.name) =
    subst (λ listed. ComesLast listed (string_bytes c.in-Some-2.entry.name)) c.as_slice.ensures.value
    (subst (λ name. ComesLast c.as_slice.result.now name) (c.as_str.ensures.value ∙ sym named) (c.comes_last.ensures.last c.if-comes_last.true)) in
    let rises : IsStrictlySortedBy (slice_cmp nat_cmp) (names_of c.push.new.self) =
    subst (λ items. IsStrictlySortedBy (slice_cmp nat_cmp) (map (λ entry. string_bytes entry.name) items)) (sym pushed) (rising_push c.loop-name.listed.items c.in-Some-2.entry was.rises last) in
    record {
      rises = rises;
      path = c.in_ok-entry.ensures.path ∙ was.path;
      proc = c.in_ok-entry.ensures.proc ∙ was.proc;
      lists = λ entries new rest. was.lists entries new
          (subst (λ ns. ListsNames g.M.FolderMachine.Does c.loop-name.self.machine c.args.directory.now (map string_bytes ns) (entries_of c.loop-name.listed) entries new) (sym c.in-Some.ensures.steps.0)
          (inr (
            Some (entry_of c.in-Some-2.entry),
            c.entry.new.self.machine,
            subst (λ found. ShowsEntry g.M.FolderMachine.Does c.loop-name.self.machine c.args.directory.now (string_bytes c.in-Some.name) (option_map entry_of found) c.entry.new.self.machine) c.in-Some-2.is c.in_ok-entry.ensures.shown,
            subst (λ listed. ListsNames g.M.FolderMachine.Does c.entry.new.self.machine c.args.directory.now (map string_bytes c.next.new.self.rest.items) listed entries new) all rest,
          )));
    }

pub loop-name-preserved : goal.loop-name-preserved
loop-name-preserved g c =
    let was = c.loop-name.invariant in
    let before : IsListedBefore (map entry_of c.loop-name.listed.items) (string_bytes c.in-Some.name) =
    subst (λ listed. IsListedBefore (map entry_of listed) (string_bytes c.in-Some.name)) c.as_slice.ensures.value
    (subst (λ name. IsListedBefore (map entry_of c.as_slice.result.now) name) c.as_str.ensures.value (c.comes_last.ensures.before c.if-comes_last.false)) in
    record {
      rises = was.rises;
      path = was.path;
      proc = was.proc;
      lists = λ entries new rest. was.lists entries new
          (subst (λ ns. ListsNames g.M.FolderMachine.Does c.loop-name.self.machine c.args.directory.now (map string_bytes ns) (entries_of c.loop-name.listed) entries new) (sym c.in-Some.ensures.steps.0) (inl (before, rest)));
    }
