-- What the path that a text names holds.
use Rattle.std.proofs.Common.{◌≡◌, ℕ, ◌<◌, ◌≤◌, ◌-◌, Bool, true, false, cond, ◌||◌, List, [], ◌∷◌, ◌++◌, length, drop, refl, sym, ap, subst, ◌∙◌, nat_eq, slice_index, Result, Ok, Err, bytes_eq, codes, arith}
use Rattle.std.proofs.Math.Dec.{eqb-suc-zero}
use Rattle.std.proofs.lemmas.Bool.{true≢false, ltb-false, lt-ltb, le-ltb}
use Rattle.std.specs.List.{list_any, AllByRecursion, fold}
use Rattle.ftp_terms.specs.Lines.{is_control}
use Rattle.virtual_path.specs.declared.TheConstants.{LONGEST_NAME, LONGEST_PATH}
use Rattle.virtual_path.specs.declared.fault.PathFault.{PathFault}
use Rattle.virtual_path.specs.declared.fault.PathFault.TheVariants.{BadName, TooLong}
use Rattle.virtual_path.specs.Path.{Path, path_text, through, parent_of, named, names_of, names_in, resolved, start_of, slashed, is_slash, is_long_name, text_refusal, HasNoSlash, IsName, AllNames, IsPathText}
use Rattle.virtual_path.proofs.Elements.{each-append, each-take, each-both, each-weaker, none_passes}
use Rattle.virtual_path.proofs.Splits.{each_name, names_of-slashed}
use Rattle.virtual_path.proofs.Texts.{path_text-slashed}

-- a name that goes down
pub record GoesDown (name : List ℕ) : Type 0 where
  pub goes : (bytes_eq name [] || bytes_eq name (codes ".")) ≡ false
  pub down : bytes_eq name (codes "..") ≡ false

pub goes_down : (name : List ℕ) → nat_eq (length name) 0 ≡ false → bytes_eq name (codes ".") ≡ false → bytes_eq name (codes "..") ≡ false → GoesDown name
goes_down [] full dot up = cc
goes_down (octet ∷ name) full dot up = record { goes = dot; down = up }

pub each-through : (P : List ℕ → Type 0) (path : Path) (name : List ℕ) → AllByRecursion P path → (GoesDown name → P name) → AllByRecursion P (through path name)
each-through P path name a f =
    elim (bytes_eq name [] || bytes_eq name (codes ".")) as (λ stays. (bytes_eq name [] || bytes_eq name (codes ".")) ≡ stays → AllByRecursion P (cond stays path (cond (bytes_eq name (codes "..")) (parent_of path) (path ++ name ∷ [])))) [
      | true ↦ λ e. a
      | false ↦ λ e. elim (bytes_eq name (codes "..")) as (λ up. bytes_eq name (codes "..") ≡ up → AllByRecursion P (cond up (parent_of path) (path ++ name ∷ []))) [
        | true ↦ λ d. each-take P (length path - 1) path a
        | false ↦ λ d. each-append P path (name ∷ []) a (f (record { goes = e; down = d }), tt)
      ] refl
    ] refl

pub each-fold : (P Q : List ℕ → Type 0) → ((name : List ℕ) → Q name → GoesDown name → P name) → (path : Path) (names : List (List ℕ)) → AllByRecursion P path → AllByRecursion Q names → AllByRecursion P (fold through path names)
each-fold P Q f path [] a b = a
each-fold P Q f path (name ∷ names) a b = each-fold P Q f (through path name) names (each-through P path name a (f name b.0)) b.1

pub through-down : (path : Path) (name : List ℕ) → GoesDown name → through path name ≡ path ++ name ∷ []
through-down path name is =
    ap (λ stays. cond stays path (cond (bytes_eq name (codes "..")) (parent_of path) (path ++ name ∷ []))) is.goes
    ∙ ap (λ up. cond up (parent_of path) (path ++ name ∷ [])) is.down

anything : (xs : List ℕ) → AllByRecursion (λ _. Unit {0}) xs
anything [] = tt
anything (x ∷ xs) = (tt, anything xs)

-- no name of a text holds a slash
pub no_slash_in_names : (text : List ℕ) → AllByRecursion HasNoSlash (names_of text)
no_slash_in_names text =
    each-weaker (AllByRecursion (λ octet. Unit {0} × (is_slash octet ≡ false))) HasNoSlash
    (λ name a. each-weaker (λ octet. Unit {0} × (is_slash octet ≡ false)) (λ octet. is_slash octet ≡ false) (λ octet h. h.1) name a)
    (names_of text) (each_name (λ _. Unit {0}) text (anything text))

pub no_slash_in_path : (path : Path) → AllNames path → AllByRecursion HasNoSlash path
no_slash_in_path path a = each-weaker IsName HasNoSlash (λ name is. is.no_slash) path a

-- what the names of a text that is not refused have
pub record IsPlain (name : List ℕ) : Type 0 where
  pub octets : AllByRecursion (λ octet. (is_control octet ≡ false) × (is_slash octet ≡ false)) name
  pub short : is_long_name name ≡ false

plain_names : (text : List ℕ) → list_any is_control text ≡ false → list_any is_long_name (names_of text) ≡ false → AllByRecursion IsPlain (names_of text)
plain_names text control long =
    let octets = each_name (λ octet. is_control octet ≡ false) text (none_passes is_control text control) in
    let short = none_passes is_long_name (names_of text) long in
    each-weaker (λ name. AllByRecursion (λ octet. (is_control octet ≡ false) × (is_slash octet ≡ false)) name × (is_long_name name ≡ false)) IsPlain
    (λ name both. record { octets = both.0; short = both.1 }) (names_of text)
    (each-both (λ name. AllByRecursion (λ octet. (is_control octet ≡ false) × (is_slash octet ≡ false)) name) (λ name. is_long_name name ≡ false) (names_of text) octets short)

name_is : (name : List ℕ) → IsPlain name → GoesDown name → IsName name
name_is name plain is = record {
  not_empty = λ e. let f = is.goes in cc (ap (λ n. bytes_eq n [] || bytes_eq n (codes ".")) e);
  not_dot = λ e. let f = is.goes in cc (ap (λ n. bytes_eq n [] || bytes_eq n (codes ".")) e);
  not_dot_dot = λ e. let f = is.down in cc (ap (λ n. bytes_eq n (codes "..")) e);
  no_slash = each-weaker (λ octet. (is_control octet ≡ false) × (is_slash octet ≡ false)) (λ octet. is_slash octet ≡ false) (λ octet h. h.1) name plain.octets;
  no_control = each-weaker (λ octet. (is_control octet ≡ false) × (is_slash octet ≡ false)) (λ octet. is_control octet ≡ false) (λ octet h. h.0) name plain.octets;
  not_long = ltb-false LONGEST_NAME (length name) plain.short;
}

start_names : (from : Path) (text : List ℕ) → AllNames from → AllNames (start_of from text)
start_names from text a = elim (nat_eq (slice_index text 0) 47) as (λ root. AllNames (cond root [] from)) [ true ↦ tt | false ↦ a ]

pub named-names : (from : Path) (text : List ℕ) → AllNames from → list_any is_control text ≡ false → list_any is_long_name (names_of text) ≡ false → AllNames (named from text)
named-names from text a control long = each-fold IsName IsPlain name_is (start_of from text) (names_of text) (start_names from text a) (plain_names text control long)

-- a text of `/` before each name, and the names in it
pub names_in-slashed : (text : List ℕ) (path : Path) → AllNames path → text ≡ slashed path → names_in text ≡ path
names_in-slashed text path a e = ap names_in e ∙ ap (drop 1) (names_of-slashed path (no_slash_in_path path a))

pub is_path_text : (text : List ℕ) (path : Path) → AllNames path → text ≡ slashed path → length text ≤ LONGEST_PATH → IsPathText text
is_path_text text path a e short =
    let same = names_in-slashed text path a e in
    record { names = subst AllNames (sym same) a; slashes = ap slashed same ∙ sym e; short = short }

pub length-path_text : (path : Path) → LONGEST_PATH < length (slashed path) → LONGEST_PATH < length (path_text path)
length-path_text [] less = absurd (omega arith)
length-path_text (name ∷ names) less = subst (λ text. LONGEST_PATH < length text) (sym (path_text-slashed name names)) less

pub short-path_text : (path : Path) → length (slashed path) ≤ LONGEST_PATH → length (path_text path) ≤ LONGEST_PATH
short-path_text [] less = omega arith
short-path_text (name ∷ names) less = subst (λ text. length text ≤ LONGEST_PATH) (sym (path_text-slashed name names)) less

-- what `resolve` owes, from the text that it built
pub record IsWalked (from : Path) (text built : List ℕ) : Type 0 where
  pub control : list_any is_control text ≡ false
  pub long : list_any is_long_name (names_of text) ≡ false
  pub walked : built ≡ slashed (named from text)

pub resolved-long : (from : Path) (text built : List ℕ) → IsWalked from text built → LONGEST_PATH < length built → resolved from text ≡ Err TooLong
resolved-long from text built is less =
    let path_long = lt-ltb LONGEST_PATH (length (path_text (named from text))) (length-path_text (named from text) (subst (λ t. LONGEST_PATH < length t) is.walked less)) in
    simp (is.control, is.long, path_long)

pub resolved-short : (from : Path) (text built : List ℕ) → IsWalked from text built → length built ≤ LONGEST_PATH → resolved from text ≡ Ok (named from text)
resolved-short from text built is less =
    let path_short = le-ltb LONGEST_PATH (length (path_text (named from text))) (short-path_text (named from text) (subst (λ t. length t ≤ LONGEST_PATH) is.walked less)) in
    simp (is.control, is.long, path_short)

pub walked_names : (from : Path) (text built : List ℕ) → IsWalked from text built → AllNames from → AllNames (named from text)
walked_names from text built is a = named-names from text a is.control is.long

-- a text as a caller sees it
pub path_text-full : (text : List ℕ) (path : Path) → text ≡ slashed path → nat_eq (length text) 0 ≡ false → text ≡ path_text path
path_text-full text [] e full = let empty = ap (λ t. nat_eq (length t) 0) e in cc
path_text-full text (name ∷ names) e full = e ∙ sym (path_text-slashed name names)

pub path_text-empty : (text : List ℕ) (path : Path) → text ≡ slashed path → nat_eq (length text) 0 ≡ true → codes "/" ≡ path_text path
path_text-empty text [] e empty = refl
path_text-empty text (name ∷ names) e empty = absurd (true≢false (sym empty ∙ ap (λ t. nat_eq (length t) 0) e ∙ eqb-suc-zero (length (name ++ slashed names))))

not_refused : (control long : Bool) → (let answer : Result (Unit {0}) PathFault = cond control (Err BadName) (cond long (Err TooLong) (Ok tt)) in Ok tt ≡ answer) → (control ≡ false) × (long ≡ false)
not_refused true long e = cc
not_refused false true e = cc
not_refused false false e = (refl, refl)

slashed-start : (root : Bool) (from : Path) → cond root [] (slashed from) ≡ slashed (cond root [] from)
slashed-start true from = refl
slashed-start false from = refl

-- the steps of `resolve`: a look at the text, where it starts from, and the walk
pub is_walked : (from : Path) (text stored begun built : List ℕ) → AllNames from → slashed from ≡ stored → Ok tt ≡ text_refusal text
    → begun ≡ cond (nat_eq (slice_index text 0) 47) [] stored
    → ((path : Path) → AllByRecursion HasNoSlash path → begun ≡ slashed path → built ≡ slashed (fold through path (names_of text)))
    → IsWalked from text built
is_walked from text stored begun built a same fine begins walks =
    let refusals = not_refused (list_any is_control text) (list_any is_long_name (names_of text)) fine in
    record {
      control = refusals.0;
      long = refusals.1;
      walked = walks (start_of from text) (no_slash_in_path (start_of from text) (start_names from text a))
          (begins ∙ ap (cond (nat_eq (slice_index text 0) 47) []) (sym same) ∙ slashed-start (nat_eq (slice_index text 0) 47) from);
    }
