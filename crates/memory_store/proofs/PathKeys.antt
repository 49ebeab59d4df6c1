-- A path as it is kept: the text of its directory, and its last name.
use Rattle.std.proofs.Common.{◌≡◌, ◌≢◌, ℕ, suc, ◌+◌, ◌-◌, ◌≤◌, ◌<◌, false, List, [], ◌∷◌, ◌++◌, length, take, drop, refl, sym, ap, subst, ◌∙◌, arith, length-append, Some, None}
use Rattle.std.proofs.Math.Seq.{take-append_seam}
use Rattle.std.specs.List.{AllByRecursion}
use Rattle.std.specs.Cmp.{tied_itself}
use Rattle.std.specs.Cmp.Lexicographic.{slice_cmp, nat_list_cmp_total}
use Rattle.std.specs.declared.cmp.Ordering.{Ordering}
use Rattle.std.specs.declared.cmp.Ordering.TheVariants.{Less, Equal, Greater}
use Rattle.std.specs.Ordering.{nat_cmp, ordering_then}
use Rattle.virtual_path.specs.Path.{Path, path_text, slashed, names_of, names_in, parent_of, is_slash, HasNoSlash, AllNames}
use Rattle.virtual_path.proofs.Elements.{each-append, each-take, each-drop}
use Rattle.virtual_path.proofs.Parts.{IsCut, cut_plain}
use Rattle.virtual_path.proofs.Splits.{names_of-slashed}
use Rattle.virtual_path.proofs.Texts.{path_text-slashed, slashed-append, slashed-push}
use Rattle.virtual_path.proofs.Walks.{no_slash_in_names}
use Rattle.memory_store.specs.Held.{IsPathKeyText}
use Rattle.memory_store.specs.Tree.{names_cmp, path_cmp, key_of, last_of}
use Rattle.memory_store.proofs.Trees.{exact_names}

-- no name of it has a slash
abbrev pub IsPlain : Path → Type 0
IsPlain path = AllByRecursion HasNoSlash path

-- the names of a path's text are the path's
pub names_back : (path : Path) → IsPlain path → names_in (slashed path) ≡ path
names_back path plain = ap (drop 1) (names_of-slashed path plain)

pub names_of_text : (path : Path) (text : List ℕ) → IsPlain path → text ≡ slashed path → names_in text ≡ path
names_of_text path text plain e = ap names_in e ∙ names_back path plain

pub text_kept : (path : Path) (text : List ℕ) → IsPlain path → text ≡ slashed path → slashed (names_in text) ≡ text
text_kept path text plain e = ap slashed (names_of_text path text plain e) ∙ sym e

pub plain_names : (text : List ℕ) → IsPlain (names_in text)
plain_names text = each-drop HasNoSlash 1 (names_of text) (no_slash_in_names text)

-- before the names of such a text stands an empty one
pub names_after : (text : List ℕ) → slashed (names_in text) ≡ text → names_of text ≡ [] ∷ names_in text
names_after text is = ap names_of (sym is) ∙ names_of-slashed (names_in text) (plain_names text)

pub parent_plain : (path : Path) → IsPlain path → IsPlain (parent_of path)
parent_plain path plain = each-take HasNoSlash (length path - 1) path plain

-- ---- a path and its last name

minus_one : (n : ℕ) → (n + 1) - 1 ≡ n
minus_one n = omega arith

pub parent_of-push : (path : Path) (name : List ℕ) → parent_of (path ++ name ∷ []) ≡ path
parent_of-push path name =
    ap (λ n. take (n - 1) (path ++ name ∷ [])) (length-append path (name ∷ []))
    ∙ ap (λ n. take n (path ++ name ∷ [])) (minus_one (length path))
    ∙ take-append_seam path (name ∷ [])

pub last_of-push : (path : Path) (name : List ℕ) → last_of (path ++ name ∷ []) ≡ name
last_of-push [] name = refl
last_of-push (first ∷ []) name = refl
last_of-push (first ∷ next ∷ path) name = last_of-push (next ∷ path) name

parent_of-cons : (name next : List ℕ) (names : Path) → parent_of (name ∷ next ∷ names) ≡ name ∷ parent_of (next ∷ names)
parent_of-cons name next names =
    let outer : suc (suc (length names)) - 1 ≡ suc (length names) = omega arith in
    let inner : length names ≡ suc (length names) - 1 = omega arith in
    ap (λ k. take k (name ∷ next ∷ names)) outer ∙ ap (λ k. name ∷ take k (next ∷ names)) inner

pub ends_in_last : (name : List ℕ) (names : Path) → name ∷ names ≡ parent_of (name ∷ names) ++ last_of (name ∷ names) ∷ []
ends_in_last name [] = refl
ends_in_last name (next ∷ names) =
    ap (λ (rest : Path). name ∷ rest) (ends_in_last next names)
    ∙ ap (λ (front : Path). front ++ last_of (next ∷ names) ∷ []) (sym (parent_of-cons name next names))

-- ---- the order of paths, by their directories and last names

then_equal : (order : Ordering) → ordering_then order Equal ≡ order
then_equal Less = refl
then_equal Equal = refl
then_equal Greater = refl

-- in one directory paths are in the order of their names
same_directory : (path : Path) (name other : List ℕ) → names_cmp (path ++ name ∷ []) (path ++ other ∷ []) ≡ slice_cmp nat_cmp name other
same_directory [] name other = then_equal (slice_cmp nat_cmp name other)
same_directory (first ∷ path) name other =
    ap (λ order. ordering_then order (names_cmp (path ++ name ∷ []) (path ++ other ∷ []))) (tied_itself nat_list_cmp_total first)
    ∙ same_directory path name other

by_parts : (path front : Path) (name other : List ℕ) → ordering_then (names_cmp path front) (names_cmp (path ++ name ∷ []) (front ++ other ∷ [])) ≡ ordering_then (names_cmp path front) (slice_cmp nat_cmp name other)
by_parts path front name other = elim (names_cmp path front) as (λ order. names_cmp path front ≡ order → ordering_then order (names_cmp (path ++ name ∷ []) (front ++ other ∷ [])) ≡ ordering_then order (slice_cmp nat_cmp name other)) [
  | Less ↦ λ _. refl
  | Equal ↦ λ tie. ap (λ (f : Path). names_cmp (path ++ name ∷ []) (f ++ other ∷ [])) (sym (exact_names path front tie)) ∙ same_directory path name other
  | Greater ↦ λ _. refl
] refl

pub path_cmp-push : (path front : Path) (name other : List ℕ) → path_cmp (path ++ name ∷ []) (front ++ other ∷ []) ≡ ordering_then (names_cmp path front) (slice_cmp nat_cmp name other)
path_cmp-push path front name other =
    ap (λ (p : Path). ordering_then (names_cmp p (parent_of (front ++ other ∷ []))) (names_cmp (path ++ name ∷ []) (front ++ other ∷ []))) (parent_of-push path name)
    ∙ ap (λ (p : Path). ordering_then (names_cmp path p) (names_cmp (path ++ name ∷ []) (front ++ other ∷ []))) (parent_of-push front other)
    ∙ by_parts path front name other

-- as their texts are compared
pub compared : (directory text name other : List ℕ) → slashed (names_in directory) ≡ directory → slashed (names_in text) ≡ text
    → ordering_then (names_cmp (names_of directory) (names_of text)) (slice_cmp nat_cmp name other) ≡ path_cmp (names_in directory ++ name ∷ []) (names_in text ++ other ∷ [])
compared directory text name other is are =
    ap (λ (p : Path). ordering_then (names_cmp p (names_of text)) (slice_cmp nat_cmp name other)) (names_after directory is)
    ∙ ap (λ (p : Path). ordering_then (names_cmp ([] ∷ names_in directory) p) (slice_cmp nat_cmp name other)) (names_after text are)
    ∙ sym (path_cmp-push (names_in directory) (names_in text) name other)

-- ---- the two parts that a cut at the last slash gives

pub root_if_plain : (path : Path) (text : List ℕ) → text ≡ slashed path → HasNoSlash text → path ≡ []
root_if_plain [] text e plain = refl
root_if_plain (name ∷ names) text e plain = let first = subst HasNoSlash e plain in absurd (never first.0)
  where
    never : is_slash 47 ≡ false → ⊥
    never e = cc

pub no_key : (text : List ℕ) → slashed (names_in text) ≡ text → HasNoSlash text → None ≡ key_of (names_in text)
no_key text is plain = ap key_of (sym (root_if_plain (names_in text) text (sym is) plain))

pub text_cut : (text front back : List ℕ) → slashed (names_in text) ≡ text → text ≡ front ++ 47 ∷ back → HasNoSlash back → IsCut (names_in text) front back
text_cut text front back is whole plain = cut_plain text (names_in text) front back (plain_names text) (sym is) whole plain

pub path_cut : (path : Path) (text front back : List ℕ) → IsPlain path → text ≡ slashed path → text ≡ front ++ 47 ∷ back → HasNoSlash back → IsCut path front back
path_cut path text front back plain is whole back_plain = cut_plain text path front back plain is whole back_plain

some_key : (path : Path) → path ≢ [] → Some path ≡ key_of path
some_key [] full = absurd (full refl)
some_key (name ∷ names) full = refl

pub front_names : (path : Path) (front back : List ℕ) → IsPlain path → IsCut path front back → names_in front ≡ parent_of path
front_names path front back plain cut = names_of_text (parent_of path) front (parent_plain path plain) cut.front_is

pub front_kept : (path : Path) (front back : List ℕ) → IsPlain path → IsCut path front back → slashed (names_in front) ≡ front
front_kept path front back plain cut = text_kept (parent_of path) front (parent_plain path plain) cut.front_is

pub key_from_cut : (path : Path) (front back : List ℕ) → IsPlain path → IsCut path front back → Some (names_in front ++ back ∷ []) ≡ key_of path
key_from_cut path front back plain cut =
    ap (λ (p : Path). Some (p ++ back ∷ [])) (front_names path front back plain cut)
    ∙ ap (λ (p : Path). Some p) (sym cut.names)
    ∙ some_key path cut.full

-- ---- a directory's text

pub root_text : (path : Path) → AllNames path → length (path_text path) ≤ 1 → [] ≡ slashed path
root_text [] names short = refl
root_text (name ∷ names) all short = absurd (longer name names all.0.not_empty (subst (λ (t : List ℕ). length t ≤ 1) (path_text-slashed name names) short))
  where
    longer : (name : List ℕ) (names : Path) → name ≢ [] → length (slashed (name ∷ names)) ≤ 1 → ⊥
    longer [] names some short = some refl
    longer (octet ∷ name) names some short = omega arith

pub slashed_if_long : (path : Path) → 1 < length (path_text path) → path_text path ≡ slashed path
slashed_if_long [] long = absurd (omega arith)
slashed_if_long (name ∷ names) long = path_text-slashed name names

-- with a slash behind it
pub names_past : (path : Path) (text : List ℕ) → IsPlain path → text ≡ slashed path ++ 47 ∷ [] → names_in text ≡ path ++ [] ∷ []
names_past path text plain e = names_of_text (path ++ [] ∷ []) text (each-append HasNoSlash path ([] ∷ []) plain (tt, tt)) (e ∙ sym (slashed-push path []))

pub past_kept : (path : Path) (text : List ℕ) → IsPlain path → text ≡ slashed path ++ 47 ∷ [] → slashed (names_in text) ≡ text
past_kept path text plain e = text_kept (path ++ [] ∷ []) text (each-append HasNoSlash path ([] ∷ []) plain (tt, tt)) (e ∙ sym (slashed-push path []))

-- ---- the text of a directory in another one

pub joined_text : (front rest text : List ℕ) → slashed (names_in front) ≡ front → slashed (names_in rest) ≡ rest → text ≡ front ++ rest → text ≡ slashed (names_in front ++ names_in rest)
joined_text front rest text is are e =
    e ∙ ap (λ t. t ++ rest) (sym is) ∙ ap (λ t. slashed (names_in front) ++ t) (sym are) ∙ sym (slashed-append (names_in front) (names_in rest))

pub joined_plain : (front rest : List ℕ) → IsPlain (names_in front ++ names_in rest)
joined_plain front rest = each-append HasNoSlash (names_in front) (names_in rest) (plain_names front) (plain_names rest)

-- ---- what is kept of a path key

pub key_text : (directory name : List ℕ) (kept_directory kept_name : List ℕ) → slashed (names_in directory) ≡ directory → HasNoSlash name → kept_directory ≡ directory → kept_name ≡ name → IsPathKeyText kept_directory kept_name
key_text directory name kept_directory kept_name is plain same_directory same_name = record {
  slashes = subst (λ t. slashed (names_in t) ≡ t) (sym same_directory) is;
  no_slash = subst HasNoSlash (sym same_name) plain;
}

pub key_text_from_cut : (path : Path) (front back kept_front kept_back : List ℕ) → IsPlain path → IsCut path front back → HasNoSlash back → kept_front ≡ front → kept_back ≡ back → IsPathKeyText kept_front kept_back
key_text_from_cut path front back kept_front kept_back plain cut name_plain = key_text front back kept_front kept_back (front_kept path front back plain cut) name_plain
