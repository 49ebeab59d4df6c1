-- Paths, as the lists of their names.
use Rattle.std.specs.Prelude.{◌≡◌, ◌<◌, ℕ, ◌==◌, Bool, true, false, ◌&&◌, List, [], ◌∷◌, map, flat_map, length, slice_index, bytes_eq, codes, Option, Some, None}
use Rattle.std.specs.List.{list_any, position_from, slice_split}

abbrev pub Octets : Type 0
Octets = List ℕ

-- the names from the root down; the root's path has none
abbrev pub Path : Type 0
Path = List Octets

-- the parts between the octets of one value
abbrev pub parts : ℕ → Octets → List Octets
parts mark text = slice_split (λ octet. octet == mark) text

-- the parts of the text after a mark, if there is one
abbrev pub parts_behind : ℕ → Option Octets → List Octets
parts_behind mark None = []
parts_behind mark (Some rest) = parts mark rest

-- The names of a path's text, which has a `/` before each; the root's text is empty.
abbrev pub names_of : Octets → Path
names_of [] = []
names_of (slash ∷ rest) = parts 47 rest

-- a path's text is empty, or begins with a slash
abbrev pub IsPathText : Octets → Type 0
IsPathText text = 0 < length text → slice_index text 0 ≡ 47

-- the text of a path: each name after a `/`
abbrev pub text_of : Path → Octets
text_of path = flat_map (λ name. 47 ∷ name) path

-- a path as it is written: the root as `/`
abbrev pub written : Path → Octets
written [] = codes "/"
written (name ∷ path) = text_of (name ∷ path)

abbrev pub same_path : Path → Path → Bool
same_path [] [] = true
same_path [] (name ∷ path) = false
same_path (name ∷ path) [] = false
same_path (name ∷ path) (other ∷ more) = bytes_eq name other && same_path path more

-- a path is beneath the first, or is the same
abbrev pub is_within : Path → Path → Bool
is_within [] path = true
is_within (name ∷ above) [] = false
is_within (name ∷ above) (other ∷ path) = bytes_eq name other && is_within above path

abbrev pub is_among : List Path → Path → Bool
is_among paths path = list_any (same_path path) paths

-- the place of a path in a list
abbrev pub place_of : List Path → Path → Option ℕ
place_of paths path = position_from (same_path path) 0 paths

-- the paths above a path, the root first
abbrev pub above : Path → List Path
above [] = []
above (name ∷ path) = [] ∷ map (λ rest. name ∷ rest) (above path)

-- the paths above a path, the root first, and then the path
abbrev pub way_to : Path → List Path
way_to [] = [] ∷ []
way_to (name ∷ path) = [] ∷ map (λ rest. name ∷ rest) (way_to path)

abbrev pub Each : (Path → Type 0) → List Path → Type 0
Each P [] = Unit {0}
Each P (x ∷ xs) = P x × Each P xs

-- no path is there twice
abbrev pub NoneTwice : List Path → Type 0
NoneTwice [] = Unit {0}
NoneTwice (x ∷ xs) = (is_among xs x ≡ false) × NoneTwice xs
