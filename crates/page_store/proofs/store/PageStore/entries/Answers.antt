use Rattle.std.proofs.Common.{rules, ◌≡◌, ◌++◌, [], ◌∷◌, List, map, refl, string_bytes, sym, subst, ap, ◌∙◌}
use Rattle.std.specs.Cmp.Lexicographic.{slice_cmp}
use Rattle.std.specs.List.{All}
use Rattle.std.specs.List.Sorted.{IsStrictlySortedBy}
use Rattle.std.proofs.lemmas.List.Elements.{All-nil, All-push}
use Rattle.std.specs.Option.{IfSome}
use Rattle.std.specs.Ordering.{nat_cmp}
use Rattle.virtual_tree.specs.Calls.{Entry, entry_of, names_of}
use Rattle.page_store.specs.Pages.{ComesLast, IsShownEntry}
use Rattle.page_store.proofs.Rising.{entries_push, rising_none, rising_push}
use Rattle.page_store.proofs.store.PageStore.entries.Goals as goal

pub loop-name-init : goal.loop-name-init
loop-name-init g c = record {
  rises = rising_none _ c.new-listed.ensures.items;
  shown = subst (λ items. All (IsShownEntry g.P.Pages.Shows) (map entry_of items)) (sym c.new-listed.ensures.items) (All-nil (IsShownEntry g.P.Pages.Shows));
  count = refl;
}

pub loop-name-preserved-else-is_err : goal.loop-name-preserved-else-is_err
loop-name-preserved-else-is_err g c =
    let was = c.loop-name.invariant in
    let pushed : c.push.new.self.items ≡ c.loop-name.listed.items ++ c.in-Some-2.entry ∷ [] = search rules in
    let named : string_bytes c.in-Some-2.entry.name ≡ string_bytes c.in-Some.name =
    subst (λ found. IfSome found (λ entry. string_bytes entry.name ≡ string_bytes c.in-Some.name)) c.in-Some-2.is c.in_ok-entry.ensures.name in
    let last : ComesLast c.loop-name.listed.items (string_bytes c.in-Some-2.entry.name) =
    subst (λ listed. ComesLast listed (string_bytes c.in-Some-2.entry.name)) c.as_slice.ensures.value
    (subst (λ name. ComesLast c.as_slice.result.now name) (c.as_str.ensures.value ∙ sym named) (c.comes_last.ensures.last c.if-comes_last.true)) in
    let rises : IsStrictlySortedBy (slice_cmp nat_cmp) (names_of c.push.new.self) =
    subst (λ items. IsStrictlySortedBy (slice_cmp nat_cmp) (map (λ entry. string_bytes entry.name) items)) (sym pushed) (rising_push c.loop-name.listed.items c.in-Some-2.entry was.rises last) in
    let entry : IsShownEntry g.P.Pages.Shows (entry_of c.in-Some-2.entry) =
    subst (λ found. IfSome found (λ entry. IsShownEntry g.P.Pages.Shows (entry_of entry))) c.in-Some-2.is c.in_ok-entry.ensures.shown in
    let shown : All (IsShownEntry g.P.Pages.Shows) (map entry_of c.push.new.self.items) =
    subst (λ (entries : List Entry). All (IsShownEntry g.P.Pages.Shows) entries) (sym (ap (map entry_of) pushed ∙ entries_push c.loop-name.listed.items c.in-Some-2.entry))
    (All-push (IsShownEntry g.P.Pages.Shows) (map entry_of c.loop-name.listed.items) (entry_of c.in-Some-2.entry) was.shown entry) in
    record {
      rises = rises;
      shown = shown;
      count = c.in_ok-entry.ensures.count ∙ was.count;
    }
