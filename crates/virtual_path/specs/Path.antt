-- Paths of a virtual file system: the names from its root to an entry.
use Rattle.std.specs.Prelude.{◌≡◌, ◌≢◌, ℕ, ◌≤◌, ◌-◌, ◌==◌, Bool, false, cond, not, ◌||◌, ◌&&◌, List, [], ◌∷◌, ◌++◌, length, take, drop, slice_index, Result, Ok, Err, nat_lt, nat_eq, bytes_eq, codes}
use Rattle.std.specs.List.{list_any, slice_split, join_with_byte, fold, AllByRecursion}
use Rattle.ftp_terms.specs.Lines.{is_control, HasNoControl}
use Rattle.virtual_path.specs.declared.TheConstants.{LONGEST_NAME, LONGEST_PATH}
use Rattle.virtual_path.specs.declared.fault.PathFault.{PathFault}
use Rattle.virtual_path.specs.declared.fault.PathFault.TheVariants.{BadName, TooLong}

-- the names, from the root on
abbrev pub Path : Type 0
Path = List (List ℕ)

-- `/` and the names joined by `/`
abbrev pub path_text : Path → List ℕ
path_text path = 47 ∷ join_with_byte 47 path

abbrev pub is_slash : ℕ → Bool
is_slash octet = nat_eq octet 47

-- the names in a text, between its slashes; some may be empty
abbrev pub names_of : List ℕ → List (List ℕ)
names_of text = slice_split is_slash text

-- the path without its last name; the root has none
abbrev pub parent_of : Path → Path
parent_of path = take (length path - 1) path

-- following a name: an empty name and `.` stay, `..` goes up, any other goes down
abbrev pub through : Path → List ℕ → Path
through path name = cond (bytes_eq name [] || bytes_eq name (codes ".")) path
    (cond (bytes_eq name (codes "..")) (parent_of path) (path ++ name ∷ []))

-- a text that begins with `/` starts at the root
abbrev pub start_of : Path → List ℕ → Path
start_of from text = cond (slice_index text 0 == 47) [] from

-- the path that a text leads to, from a path on
abbrev pub named : Path → List ℕ → Path
named from text = fold through (start_of from text) (names_of text)

abbrev pub is_long_name : List ℕ → Bool
is_long_name name = nat_lt LONGEST_NAME (length name)

abbrev pub is_long : Path → Bool
is_long path = nat_lt LONGEST_PATH (length (path_text path))

-- the refusal of a text, whatever the starting path
abbrev pub text_refusal : List ℕ → Result (Unit {0}) PathFault
text_refusal text = cond (list_any is_control text) (Err BadName)
    (cond (list_any is_long_name (names_of text)) (Err TooLong) (Ok tt))

-- the path that a text names, from a path on; the text's own refusal comes first, then that of the
-- path's length
abbrev pub resolved : Path → List ℕ → Result Path PathFault
resolved from text = cond (list_any is_control text) (Err BadName)
    (cond (list_any is_long_name (names_of text) || is_long (named from text)) (Err TooLong)
    (Ok (named from text)))

-- the text is one name that leads down: not empty, `.` or `..`, and without `/` and control octets
abbrev pub is_one_name : List ℕ → Bool
is_one_name name =
    not (bytes_eq name [] || bytes_eq name (codes ".") || bytes_eq name (codes "..")
    || list_any is_slash name || list_any is_control name)

-- a path may contain the name
abbrev pub is_name : List ℕ → Bool
is_name name = is_one_name name && not (is_long_name name)

abbrev pub child_of : Path → List ℕ → Result Path PathFault
child_of path name = cond (is_one_name name)
    (cond (is_long_name name || is_long (path ++ name ∷ [])) (Err TooLong) (Ok (path ++ name ∷ [])))
    (Err BadName)

-- a path below another one
abbrev pub joined : Path → Path → Result Path PathFault
joined home path = cond (is_long (home ++ path)) (Err TooLong) (Ok (home ++ path))

-- a path is beneath itself too
abbrev pub IsBeneath : Path → Path → Type 0
IsBeneath path above = (rest : Path) × (path ≡ above ++ rest)

abbrev pub HasNoSlash : List ℕ → Type 0
HasNoSlash name = AllByRecursion (λ octet. is_slash octet ≡ false) name

-- a name that a path may contain
pub record IsName (name : List ℕ) : Type 0 where
  pub not_empty : name ≢ []
  pub not_dot : name ≢ codes "."
  pub not_dot_dot : name ≢ codes ".."
  pub no_slash : HasNoSlash name
  pub no_control : HasNoControl name
  pub not_long : length name ≤ LONGEST_NAME

abbrev pub AllNames : Path → Type 0
AllNames path = AllByRecursion IsName path

-- each name with `/` before it
abbrev pub slashed : Path → List ℕ
slashed [] = []
slashed (name ∷ names) = 47 ∷ name ++ slashed names

-- the names in such a text
abbrev pub names_in : List ℕ → Path
names_in text = drop 1 (names_of text)

-- the properties of a path's stored text
pub record IsPathText (text : List ℕ) : Type 0 where
  pub names : AllNames (names_in text)
  pub slashes : slashed (names_in text) ≡ text
  pub short : length text ≤ LONGEST_PATH
