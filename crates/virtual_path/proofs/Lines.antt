-- Names and paths stand on one line.
use Rattle.std.proofs.Common.{◌≡◌, ℕ, false, List, [], ◌∷◌, ◌++◌, refl, sym, subst}
use Rattle.ftp_terms.specs.Lines.{is_control, HasNoControl, IsLine}
use Rattle.ftp_terms.proofs.LineLemmas.{line_printed}
use Rattle.virtual_path.specs.Path.{Path, path_text, parent_of, slashed, IsName, AllNames}
use Rattle.virtual_path.proofs.Elements.{each-append}
use Rattle.virtual_path.proofs.Texts.{path_text-slashed}

pub name_is_line : (name : List ℕ) → IsName name → IsLine name
name_is_line name is = line_printed name is.no_control

printed : (path : Path) → AllNames path → HasNoControl (slashed path)
printed [] names = tt
printed (name ∷ path) names =
    (refl, each-append (λ octet. is_control octet ≡ false) name (slashed path) names.0.no_control (printed path names.1))

pub path_is_line : (path : Path) → AllNames path → IsLine (path_text path)
path_is_line [] names = refl
path_is_line (name ∷ path) names =
    subst IsLine (sym (path_text-slashed name path)) (line_printed (slashed (name ∷ path)) (printed (name ∷ path) names))

last_is_name : (path : Path) (name : List ℕ) → AllNames (path ++ name ∷ []) → IsName name
last_is_name [] name names = names.0
last_is_name (first ∷ path) name names = last_is_name path name names.1

pub last_is_line : (path : Path) (name : List ℕ) → AllNames path → path ≡ parent_of path ++ name ∷ [] → IsLine name
last_is_line path name names is = name_is_line name (last_is_name (parent_of path) name (subst AllNames is names))
