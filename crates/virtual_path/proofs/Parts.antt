-- What a path's stored text says of the path.
use Rattle.std.proofs.Common.{◌≡◌, ◌≢◌, ℕ, suc, ◌<◌, ◌≤◌, ◌+◌, ◌-◌, Bool, true, false, cond, not, ◌||◌, List, [], ◌∷◌, ◌++◌, length, drop, refl, sym, ap, subst, ◌∙◌, Ok, Err, nat_eq, bytes_eq, codes, arith, length-append}
use Rattle.std.proofs.lemmas.Bool.{true≢false, eqb-true, eqb-false, lt-ltb, le-ltb}
use Rattle.std.proofs.lemmas.List.Splits.{length-slice_split}
use Rattle.std.specs.List.{list_any, count_by, AllByRecursion}
use Rattle.ftp_terms.specs.Lines.{is_control}
use Rattle.virtual_path.specs.declared.TheConstants.{LONGEST_NAME, LONGEST_PATH}
use Rattle.virtual_path.specs.declared.fault.PathFault.TheVariants.{BadName, TooLong}
use Rattle.virtual_path.specs.Path.{Path, path_text, parent_of, names_of, names_in, slashed, is_slash, is_long_name, is_long, is_one_name, child_of, joined, HasNoSlash, IsName, AllNames, IsPathText}
use Rattle.virtual_path.proofs.Elements.{each-append, each-take, none_passes}
use Rattle.virtual_path.proofs.Texts.{slashed-append, slashed-push, path_text-slashed, last_name}
use Rattle.virtual_path.proofs.Walks.{no_slash_in_path, names_in-slashed, is_path_text, length-path_text, short-path_text}

pub record IsTextOf (text : List ℕ) (path : Path) : Type 0 where
  pub names : AllNames path
  pub slashes : text ≡ slashed path
  pub short : length text ≤ LONGEST_PATH

-- from what a `VPath` keeps
pub is_text_of : (text stored : List ℕ) (path : Path) → IsPathText stored → names_in stored ≡ path → text ≡ stored → IsTextOf text path
is_text_of text stored path is view same = record {
  names = subst AllNames view is.names;
  slashes = same ∙ sym is.slashes ∙ ap slashed view;
  short = subst (λ t. length t ≤ LONGEST_PATH) (sym same) is.short;
}

-- to what a `VPath` keeps
pub kept : (text : List ℕ) (path : Path) → IsTextOf text path → IsPathText text
kept text path is = is_path_text text path is.names is.slashes is.short

pub names_in_text : (text : List ℕ) (path : Path) → IsTextOf text path → names_in text ≡ path
names_in_text text path is = names_in-slashed text path is.names is.slashes

pub no_slash_of : (text : List ℕ) (path : Path) → IsTextOf text path → AllByRecursion HasNoSlash path
no_slash_of text path is = no_slash_in_path path is.names

pub root_of : (text : List ℕ) (path : Path) → IsTextOf text path → HasNoSlash text → path ≡ []
root_of text [] is none = refl
root_of text (name ∷ names) is none = let h = subst HasNoSlash is.slashes none in absurd (slash_is_slash h.0)
  where
    slash_is_slash : is_slash 47 ≡ false → ⊥
    slash_is_slash e = cc

slash_inside : (front name : List ℕ) → HasNoSlash (front ++ 47 ∷ name) → ⊥
slash_inside [] name h = let e = h.0 in cc
slash_inside (octet ∷ front) name h = slash_inside front name h.1

-- only one `/` is the last
pub same_ends : (xs ys a b : List ℕ) → xs ++ 47 ∷ a ≡ ys ++ 47 ∷ b → HasNoSlash a → HasNoSlash b → (xs ≡ ys) × (a ≡ b)
same_ends [] [] a b e h k = let same : a ≡ b = cc in (refl, same)
same_ends [] (y ∷ ys) a b e h k = let same : a ≡ ys ++ 47 ∷ b = cc in absurd (slash_inside ys b (subst HasNoSlash same h))
same_ends (x ∷ xs) [] a b e h k = let same : b ≡ xs ++ 47 ∷ a = cc in absurd (slash_inside xs a (subst HasNoSlash same k))
same_ends (x ∷ xs) (y ∷ ys) a b e h k =
    let first : x ≡ y = cc in
    let ends : xs ++ 47 ∷ a ≡ ys ++ 47 ∷ b = cc in
    let rest = same_ends xs ys a b ends h k in
    (ap (λ o. o ∷ xs) first ∙ ap (λ zs. y ∷ zs) rest.0, rest.1)

-- a path's text, cut at its last `/`
pub record IsCut (path : Path) (front name : List ℕ) : Type 0 where
  pub full : path ≢ []
  pub names : path ≡ parent_of path ++ name ∷ []
  pub front_is : front ≡ slashed (parent_of path)

pub cut_plain : (text : List ℕ) (path : Path) (front name : List ℕ) → AllByRecursion HasNoSlash path → text ≡ slashed path → text ≡ front ++ 47 ∷ name → HasNoSlash name → IsCut path front name
cut_plain text [] front name plain slashes e h = absurd (let s = ap length slashes in let w = ap length e in let a = length-append front (47 ∷ name) in omega arith)
cut_plain text (first ∷ names) front name plain slashes e h =
    let last = last_name first names plain.0 plain.1 in
    let same = same_ends front (slashed (parent_of (first ∷ names))) name last.0 (sym e ∙ slashes ∙ last.1.whole) h last.1.no_slash in
    record {
      full = λ empty. cc;
      names = last.1.names ∙ ap (λ end. parent_of (first ∷ names) ++ end ∷ []) (sym same.1);
      front_is = same.0;
    }

pub cut : (text : List ℕ) (path : Path) (front name : List ℕ) → IsTextOf text path → text ≡ front ++ 47 ∷ name → HasNoSlash name → IsCut path front name
cut text path front name is e h = cut_plain text path front name (no_slash_of text path is) is.slashes e h

-- the same of a text as a caller sees it
pub cut_shown : (text : List ℕ) (path : Path) (front name : List ℕ) → AllNames path → text ≡ path_text path → text ≡ front ++ 47 ∷ name → HasNoSlash name → nat_eq (length name) 0 ≡ false → IsCut path front name
cut_shown text [] front name a e parts h full =
    let same = same_ends [] front [] name (sym e ∙ parts) tt h in
    absurd (eqb-false (length name) 0 full (ap length (sym same.1)))
cut_shown text (first ∷ names) front name a e parts h full =
    cut_plain text (first ∷ names) front name (no_slash_in_path (first ∷ names) a) (e ∙ path_text-slashed first names) parts h

each-last : (P : List ℕ → Type 0) (xs : Path) (x : List ℕ) → AllByRecursion P (xs ++ x ∷ []) → P x
each-last P [] x a = a.0
each-last P (y ∷ xs) x a = each-last P xs x a.1

length_none : {X : Type 0} (xs : List X) → length xs ≡ 0 → xs ≡ []
length_none [] e = refl
length_none (x ∷ xs) e = absurd (omega arith)

pub root_shown : (text : List ℕ) (path : Path) (front name : List ℕ) → AllNames path → text ≡ path_text path → text ≡ front ++ 47 ∷ name → HasNoSlash name → nat_eq (length name) 0 ≡ true → path ≡ []
root_shown text [] front name a e parts h empty = refl
root_shown text (first ∷ names) front name a e parts h empty =
    let at = cut_plain text (first ∷ names) front name (no_slash_in_path (first ∷ names) a) (e ∙ path_text-slashed first names) parts h in
    let last = each-last IsName (parent_of (first ∷ names)) name (subst AllNames at.names a) in
    absurd (last.not_empty (length_none name (eqb-true (length name) 0 empty)))

pub slash_shown : (text : List ℕ) (path : Path) → text ≡ path_text path → HasNoSlash text → path ≡ []
slash_shown text path e none = let h = subst HasNoSlash e none in absurd (true≢false h.0)

pub parent_text_of : (text : List ℕ) (path : Path) (front name : List ℕ) → IsTextOf text path → text ≡ front ++ 47 ∷ name → IsCut path front name → IsTextOf front (parent_of path)
parent_text_of text path front name is e cut = record {
  names = each-take IsName (length path - 1) path is.names;
  slashes = cut.front_is;
  short = let s = is.short in let w = ap length e in let a = length-append front (47 ∷ name) in omega arith;
}

pub joined_text : (a b whole : List ℕ) (home path : Path) → IsTextOf a home → IsTextOf b path → whole ≡ a ++ b → length a + length b ≤ LONGEST_PATH → IsTextOf whole (home ++ path)
joined_text a b whole home path is are e short = record {
  names = each-append IsName home path is.names are.names;
  slashes = e ∙ ap (λ t. t ++ b) is.slashes ∙ ap (λ t. slashed home ++ t) are.slashes ∙ sym (slashed-append home path);
  short = let w = ap length e in let l = length-append a b in omega arith;
}

pub joined-short : (text : List ℕ) (home path : Path) → IsTextOf text (home ++ path) → joined home path ≡ Ok (home ++ path)
joined-short text home path is =
    let short = le-ltb LONGEST_PATH (length (path_text (home ++ path))) (short-path_text (home ++ path) (subst (λ t. length t ≤ LONGEST_PATH) is.slashes is.short)) in
    simp short

pub joined-long : (a b : List ℕ) (home path : Path) → IsTextOf a home → IsTextOf b path → LONGEST_PATH < length a + length b → joined home path ≡ Err TooLong
joined-long a b home path is are less =
    let length_is : length (slashed (home ++ path)) ≡ length a + length b =
    ap length (slashed-append home path) ∙ length-append (slashed home) (slashed path) ∙ ap (λ t. length t + length (slashed path)) (sym is.slashes) ∙ ap (λ t. length a + length t) (sym are.slashes) in
    let long = lt-ltb LONGEST_PATH (length (path_text (home ++ path))) (length-path_text (home ++ path) (omega arith)) in
    simp long

pub depth_of : (text : List ℕ) (path : Path) → names_in text ≡ path → count_by is_slash text ≡ length path
depth_of text path e = let n = length-slice_split is_slash text in let l = ap length e in let d = length-drop_one (names_of text) in omega arith
  where
    length-drop_one : {X : Type 0} (xs : List X) → length (drop 1 xs) ≡ length xs - 1
    length-drop_one [] = refl
    length-drop_one (x ∷ xs) = omega arith

-- a name that the test lets through
pub tested_name : (name : List ℕ) → is_one_name name ≡ true → length name ≤ LONGEST_NAME → IsName name
tested_name name one short = name_tested (bytes_eq name []) (bytes_eq name (codes ".")) (bytes_eq name (codes "..")) (list_any is_slash name) (list_any is_control name) refl refl refl refl refl one
  where
    name_tested : (a b d e f : Bool) → bytes_eq name [] ≡ a → bytes_eq name (codes ".") ≡ b → bytes_eq name (codes "..") ≡ d → list_any is_slash name ≡ e → list_any is_control name ≡ f
        → not (a || b || d || e || f) ≡ true → IsName name
    name_tested false false false false false empty dot dots slash control is = record {
      not_empty = λ same. true≢false (sym (ap (λ n. bytes_eq n []) same) ∙ empty);
      not_dot = λ same. true≢false (sym (ap (λ n. bytes_eq n (codes ".")) same) ∙ dot);
      not_dot_dot = λ same. true≢false (sym (ap (λ n. bytes_eq n (codes "..")) same) ∙ dots);
      no_slash = none_passes is_slash name slash;
      no_control = none_passes is_control name control;
      not_long = short;
    }
    name_tested true b d e f empty dot dots slash control is = absurd (true≢false (sym is))
    name_tested false true d e f empty dot dots slash control is = absurd (true≢false (sym is))
    name_tested false false true e f empty dot dots slash control is = absurd (true≢false (sym is))
    name_tested false false false true f empty dot dots slash control is = absurd (true≢false (sym is))
    name_tested false false false false true empty dot dots slash control is = absurd (true≢false (sym is))

pub child_text : (text built name : List ℕ) (path : Path) → IsTextOf text path → is_one_name name ≡ true → length name ≤ LONGEST_NAME → built ≡ text ++ 47 ∷ name → length text + 1 + length name ≤ LONGEST_PATH → IsTextOf built (path ++ name ∷ [])
child_text text built name path is one short e fits = record {
  names = each-append IsName path (name ∷ []) is.names (tested_name name one short, tt);
  slashes = e ∙ ap (λ t. t ++ 47 ∷ name) is.slashes ∙ sym (slashed-push path name);
  short = let w = ap length e in let l = length-append text (47 ∷ name) in omega arith;
}

pub child_of-short : (built name : List ℕ) (path : Path) → is_one_name name ≡ true → length name ≤ LONGEST_NAME → IsTextOf built (path ++ name ∷ []) → child_of path name ≡ Ok (path ++ name ∷ [])
child_of-short built name path one short is =
    let name_short = le-ltb LONGEST_NAME (length name) short in
    let path_short = le-ltb LONGEST_PATH (length (path_text (path ++ name ∷ []))) (short-path_text (path ++ name ∷ []) (subst (λ t. length t ≤ LONGEST_PATH) is.slashes is.short)) in
    child_by one name_short path_short
  where
    child_by : is_one_name name ≡ true → is_long_name name ≡ false → is_long (path ++ name ∷ []) ≡ false → child_of path name ≡ Ok (path ++ name ∷ [])
    child_by a b d = ap (λ t. cond t (cond (is_long_name name || is_long (path ++ name ∷ [])) (Err TooLong) (Ok (path ++ name ∷ []))) (Err BadName)) a
        ∙ ap (λ t. cond (t || is_long (path ++ name ∷ [])) (Err TooLong) (Ok (path ++ name ∷ []))) b
        ∙ ap (λ t. cond t (Err TooLong) (Ok (path ++ name ∷ []))) d

pub child_of-long_name : (name : List ℕ) (path : Path) → is_one_name name ≡ true → LONGEST_NAME < length name → child_of path name ≡ Err TooLong
child_of-long_name name path one less =
    ap (λ t. cond t (cond (is_long_name name || is_long (path ++ name ∷ [])) (Err TooLong) (Ok (path ++ name ∷ []))) (Err BadName)) one
    ∙ ap (λ t. cond (t || is_long (path ++ name ∷ [])) (Err TooLong) (Ok (path ++ name ∷ []))) (lt-ltb LONGEST_NAME (length name) less)

either_way : (b : Bool) → (b || true) ≡ true
either_way true = refl
either_way false = refl

pub child_of-long : (text name : List ℕ) (path : Path) → IsTextOf text path → is_one_name name ≡ true → LONGEST_PATH < length text + 1 + length name → child_of path name ≡ Err TooLong
child_of-long text name path is one less =
    let length_is : length (slashed (path ++ name ∷ [])) ≡ length text + (1 + length name) =
    ap length (slashed-push path name) ∙ length-append (slashed path) (47 ∷ name) ∙ ap (λ t. length t + suc (length name)) (sym is.slashes) ∙ omega arith in
    let long = lt-ltb LONGEST_PATH (length (path_text (path ++ name ∷ []))) (length-path_text (path ++ name ∷ []) (omega arith)) in
    ap (λ t. cond t (cond (is_long_name name || is_long (path ++ name ∷ [])) (Err TooLong) (Ok (path ++ name ∷ []))) (Err BadName)) one
    ∙ ap (λ t. cond (is_long_name name || t) (Err TooLong) (Ok (path ++ name ∷ []))) long
    ∙ ap (λ t. cond t (Err TooLong) (Ok (path ++ name ∷ []))) (either_way (is_long_name name))
