-- Names that rise.
use Rattle.std.proofs.Common.{◌≡◌, ℕ, suc, ◌-◌, List, [], ◌∷◌, ◌++◌, length, map, Some, refl, sym, ap, subst, ◌∙◌, arith}
use Rattle.std.specs.Cmp.Lexicographic.{slice_cmp, nat_list_cmp_total}
use Rattle.std.specs.List.{AllByRecursion, slice_get}
use Rattle.std.specs.List.Sorted.{IsStrictlySortedBy}
use Rattle.std.specs.Ordering.{nat_cmp}
use Rattle.std.specs.String.{string_bytes}
use Rattle.std.specs.declared.cmp.Ordering.TheVariants.{Less}
use Rattle.virtual_tree.specs.Calls.{entry_of}
use Rattle.virtual_tree.specs.declared.listed.ListedEntry.{ListedEntry}
use Rattle.page_store.specs.Pages.{ComesLast}

abbrev names_in : {A : Type 0} → List (ListedEntry A) → List (List ℕ)
names_in listed = map (λ entry. string_bytes entry.name) listed

abbrev IsBelow : List ℕ → List ℕ → Type 0
IsBelow name other = slice_cmp nat_cmp name other ≡ Less

each_more : (name other : List ℕ) (names : List (List ℕ)) → AllByRecursion (IsBelow name) names → IsBelow name other → AllByRecursion (IsBelow name) (names ++ other ∷ [])
each_more name other [] all one = (one, tt)
each_more name other (first ∷ names) all one = (all.0, each_more name other names all.1 one)

at_last : (name other : List ℕ) (names : List (List ℕ)) → AllByRecursion (IsBelow name) (names ++ other ∷ []) → IsBelow name other
at_last name other [] all = all.0
at_last name other (first ∷ names) all = at_last name other names all.1

last_of_more : {A : Type 0} (first next : ListedEntry A) (listed : List (ListedEntry A)) (last : ListedEntry A) → slice_get (next ∷ listed) (length (next ∷ listed) - 1) ≡ Some last
    → slice_get (first ∷ next ∷ listed) (length (first ∷ next ∷ listed) - 1) ≡ Some last
last_of_more first next listed last is =
    let outer : suc (suc (length listed)) - 1 ≡ suc (length listed) = omega arith in
    let inner : length listed ≡ suc (length listed) - 1 = omega arith in
    ap (slice_get (first ∷ next ∷ listed)) outer ∙ ap (slice_get (next ∷ listed)) inner ∙ is

pub rising_push : {A : Type 0} (listed : List (ListedEntry A)) (entry : ListedEntry A) → IsStrictlySortedBy (slice_cmp nat_cmp) (names_in listed) → ComesLast listed (string_bytes entry.name)
    → IsStrictlySortedBy (slice_cmp nat_cmp) (names_in (listed ++ entry ∷ []))
unfolding IsStrictlySortedBy
rising_push [] entry rises last = (tt, (tt))
rising_push (first ∷ []) entry rises last = ((last first refl, tt), (tt, (tt)))
rising_push (first ∷ next ∷ listed) entry rises last =
    let rest = rising_push (next ∷ listed) entry rises.1 (λ at is. last at (last_of_more first next listed at is)) in
    let below : IsBelow (string_bytes first.name) (string_bytes entry.name) =
    nat_list_cmp_total.trans (string_bytes first.name) (string_bytes next.name) (string_bytes entry.name) rises.0.0
    (at_last (string_bytes next.name) (string_bytes entry.name) (names_in listed) (subst (λ names. AllByRecursion (IsBelow (string_bytes next.name)) names) (names_push listed entry) rest.0)) in
    (subst (λ names. AllByRecursion (IsBelow (string_bytes first.name)) names) (sym (names_push (next ∷ listed) entry)) (each_more (string_bytes first.name) (string_bytes entry.name) (names_in (next ∷ listed)) rises.0 below), rest)
  where
    names_push : {A : Type 0} (listed : List (ListedEntry A)) (entry : ListedEntry A) → names_in (listed ++ entry ∷ []) ≡ names_in listed ++ string_bytes entry.name ∷ []
    names_push [] entry = refl
    names_push (first ∷ listed) entry = ap (λ names. string_bytes first.name ∷ names) (names_push listed entry)

empty_rises : IsStrictlySortedBy (slice_cmp nat_cmp) []
unfolding IsStrictlySortedBy
empty_rises = tt

pub rising_none : {A : Type 0} (listed : List (ListedEntry A)) → listed ≡ [] → IsStrictlySortedBy (slice_cmp nat_cmp) (names_in listed)
rising_none listed none = subst (λ names. IsStrictlySortedBy (slice_cmp nat_cmp) (names_in names)) (sym none) empty_rises

pub entries_push : {A : Type 0} (listed : List (ListedEntry A)) (entry : ListedEntry A) → map entry_of (listed ++ entry ∷ []) ≡ map entry_of listed ++ entry_of entry ∷ []
entries_push [] entry = refl
entries_push (first ∷ listed) entry = ap (λ entries. entry_of first ∷ entries) (entries_push listed entry)
