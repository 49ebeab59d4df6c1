-- The machine's paths of entries.
use Rattle.std.proofs.Common.{◌≡◌, ◌⊎◌, inl, inr, ◌+◌, ◌<◌, ◌≤◌, List, [], ◌∷◌, ◌++◌, length, take, get_or, map, refl, sym, ap, subst, ◌∙◌, ℕ}
use Rattle.std.proofs.lemmas.List.{append_assoc, append-nil, map-append, take_all, take_more}
use Rattle.folder_store.specs.MachinePaths.{open_text, IsOpenText, IsEntered}
use Rattle.virtual_path.specs.Path.{Path, slashed}
use Rattle.virtual_path.proofs.Texts.{slashed-push}
use Rattle.folder_store.specs.Places.{LeadsTo}

pub leads_top : (folder place entered : List ℕ) → place ≡ folder → IsEntered place entered → LeadsTo folder [] entered
leads_top folder place entered is (inl held) = inr ([], [], held.0, refl, held.1 ∙ sym (append-nil (open_text held.0)))
leads_top folder place entered is (inr same) = inl (same ∙ is ∙ sym (append-nil folder))

-- one name further, behind any text
name_behind : (front place new name : List ℕ) (path : Path) → place ≡ front ++ slashed path → new ≡ place ++ 47 ∷ name → new ≡ front ++ slashed (path ++ name ∷ [])
name_behind front place new name path is step =
    step ∙ ap (λ p. p ++ 47 ∷ name) is ∙ append_assoc front (slashed path) (47 ∷ name) ∙ ap (λ t. front ++ t) (sym (slashed-push path name))

pub leads_further : (folder place new name : List ℕ) (path : Path) → LeadsTo folder path place → new ≡ place ++ 47 ∷ name → LeadsTo folder (path ++ name ∷ []) new
leads_further folder place new name path (inl at) step = inl (name_behind folder place new name path at step)
leads_further folder place new name path (inr at) step = inr (
  at.0,
  at.1 ++ name ∷ [],
  at.2,
  ap (λ p. p ++ name ∷ []) at.3 ∙ append_assoc at.0 at.1 (name ∷ []),
  name_behind (open_text at.2) place new name at.1 at.4 step,
)

pub leads_on : (folder place new name : List ℕ) (path : Path) → LeadsTo folder path place → IsOpenText new ⊎ (new ≡ place ++ 47 ∷ name) → LeadsTo folder (path ++ name ∷ []) new
leads_on folder place new name path at (inl held) = inr (path ++ name ∷ [], [], held.0, sym (append-nil (path ++ name ∷ [])), held.1 ∙ sym (append-nil (open_text held.0)))
leads_on folder place new name path at (inr step) = leads_further folder place new name path at step

-- the names up to the next one
pub names_further : {B : Type 0} (text_of : B → List ℕ) (names : List B) (i : ℕ) (other : B) → i < length names
    → map text_of (take i names) ++ text_of (get_or names i other) ∷ [] ≡ map text_of (take (i + 1) names)
names_further text_of names i other within =
    sym (map-append text_of (take i names) (get_or names i other ∷ [])) ∙ sym (ap (λ n. map text_of n) (take_more names i other within))

pub leads_next : {B : Type 0} (text_of : B → List ℕ) (names : List B) (i : ℕ) (other : B) (folder place new : List ℕ) → i < length names → LeadsTo folder (map text_of (take i names)) place
    → IsOpenText new ⊎ (new ≡ place ++ 47 ∷ text_of (get_or names i other)) → LeadsTo folder (map text_of (take (i + 1) names)) new
leads_next text_of names i other folder place new within at step =
    subst (λ path. LeadsTo folder path new) (names_further text_of names i other within) (leads_on folder place new (text_of (get_or names i other)) (map text_of (take i names)) at step)

pub leads_by_all : {B : Type 0} (text_of : B → List ℕ) (names : List B) (i : ℕ) (folder place : List ℕ) → length names ≤ i → LeadsTo folder (map text_of (take i names)) place
    → LeadsTo folder (map text_of names) place
leads_by_all text_of names i folder place past at = subst (λ n. LeadsTo folder (map text_of n) place) (take_all i names past) at
