-- The text of a path.
use Rattle.std.proofs.Common.{◌≡◌, ◌≢◌, ℕ, zero, suc, ◌<◌, ◌-◌, false, List, [], ◌∷◌, ◌++◌, length, take, get_or, refl, sym, ap, subst, ◌∙◌, arith, append_assoc, length-append}
use Rattle.std.proofs.lemmas.List.{append-nil}
use Rattle.std.proofs.Math.Seq.{take-append_seam}
use Rattle.std.specs.List.{AllByRecursion}
use Rattle.virtual_path.specs.Path.{Path, path_text, is_slash, slashed, parent_of, HasNoSlash}
use Rattle.virtual_path.proofs.Elements.{each-at}

pub slashed-append : (xs ys : Path) → slashed (xs ++ ys) ≡ slashed xs ++ slashed ys
slashed-append [] ys = refl
slashed-append (x ∷ xs) ys = ap (λ rest. (47 ∷ x) ++ rest) (slashed-append xs ys) ∙ sym (append_assoc (47 ∷ x) (slashed xs) (slashed ys))

pub slashed-push : (path : Path) (name : List ℕ) → slashed (path ++ name ∷ []) ≡ slashed path ++ 47 ∷ name
slashed-push path name = slashed-append path (name ∷ []) ∙ ap (λ end. slashed path ++ end) (append-nil (47 ∷ name))

pub path_text-slashed : (name : List ℕ) (names : Path) → path_text (name ∷ names) ≡ slashed (name ∷ names)
path_text-slashed name [] = sym (append-nil (47 ∷ name))
path_text-slashed name (next ∷ names) = ap (λ rest. (47 ∷ name) ++ rest) (path_text-slashed next names)

pub parent_of-cons : (name next : List ℕ) (names : Path) → parent_of (name ∷ next ∷ names) ≡ name ∷ parent_of (next ∷ names)
parent_of-cons name next names =
    let outer : suc (suc (length names)) - 1 ≡ suc (length names) = omega arith in
    let inner : length names ≡ suc (length names) - 1 = omega arith in
    ap (λ k. take k (name ∷ next ∷ names)) outer ∙ ap (λ k. name ∷ take k (next ∷ names)) inner

-- a path that ends in a name, and its text
pub record EndsIn (path : Path) (name : List ℕ) : Type 0 where
  pub names : path ≡ parent_of path ++ name ∷ []
  pub whole : slashed path ≡ slashed (parent_of path) ++ 47 ∷ name
  pub no_slash : HasNoSlash name

pub last_name : (name : List ℕ) (names : Path) → HasNoSlash name → AllByRecursion HasNoSlash names → (last : List ℕ) × EndsIn (name ∷ names) last
last_name name [] h a = (name, record { names = refl; whole = append-nil (47 ∷ name); no_slash = h })
last_name name (next ∷ names) h a =
    let rest = last_name next names a.0 a.1 in
    let front = parent_of-cons name next names in (
      rest.0,
      record {
        names = ap (λ (path : Path). name ∷ path) rest.1.names ∙ ap (λ (path : Path). path ++ rest.0 ∷ []) (sym front);
        whole = ap (λ end. (47 ∷ name) ++ end) rest.1.whole ∙ sym (append_assoc (47 ∷ name) (slashed (parent_of (next ∷ names))) (47 ∷ rest.0))
            ∙ ap (λ path. slashed path ++ 47 ∷ rest.0) (sym front);
        no_slash = rest.1.no_slash;
      },
    )

slash_between : (front name : List ℕ) → get_or (front ++ 47 ∷ name) (length front) 0 ≡ 47
slash_between [] name = refl
slash_between (octet ∷ front) name = slash_between front name

-- k is the place of the last slash
pub record IsLastSlash (text : List ℕ) (k : ℕ) : Type 0 where
  pub within : k < length text
  pub slash : get_or text k 0 ≡ 47
  pub none_after : (i : ℕ) → k < i → i < length text → get_or text i 0 ≢ 47

no_slash_at : (name : List ℕ) (k : ℕ) → HasNoSlash name → k < length name → get_or name k 0 ≢ 47
no_slash_at name k h less e = let is = each-at (λ octet. is_slash octet ≡ false) name k 0 h less in cc (ap is_slash e)

pub last_slash : (front name : List ℕ) (k : ℕ) → HasNoSlash name → IsLastSlash (front ++ 47 ∷ name) k → k ≡ length front
last_slash [] name zero h is = refl
last_slash [] name (suc k) h is = absurd (no_slash_at name k h (let w = is.within in omega arith) is.slash)
last_slash (octet ∷ front) name zero h is =
    absurd (is.none_after (suc (length front)) (omega arith) (let w = length-append front (47 ∷ name) in omega arith) (slash_between front name))
last_slash (octet ∷ front) name (suc k) h is =
    ap suc (last_slash front name k h (record {
      within = let w = is.within in omega arith;
      slash = is.slash;
      none_after = λ i more less. is.none_after (suc i) (omega arith) (omega arith);
    }))

pub up_to_slash : (path : Path) (text : List ℕ) (k : ℕ) → AllByRecursion HasNoSlash path → text ≡ slashed path → IsLastSlash text k → take k text ≡ slashed (parent_of path)
up_to_slash [] text k a e is = absurd (let w = is.within in let s = ap length e in omega arith)
up_to_slash (name ∷ names) text k a e is =
    let last = last_name name names a.0 a.1 in
    let whole : text ≡ slashed (parent_of (name ∷ names)) ++ 47 ∷ last.0 = e ∙ last.1.whole in
    let same : k ≡ length (slashed (parent_of (name ∷ names))) = last_slash _ last.0 k last.1.no_slash (subst (λ t. IsLastSlash t k) whole is) in
    ap (λ t. take k t) whole ∙ ap (λ j. take j (slashed (parent_of (name ∷ names)) ++ 47 ∷ last.0)) same ∙ take-append_seam _ _

pub no_slash_at_root : (path : Path) (text : List ℕ) → text ≡ slashed path → ((i : ℕ) → i < length text → get_or text i 0 ≢ 47) → slashed path ≡ slashed (parent_of path)
no_slash_at_root [] text e none = refl
no_slash_at_root (name ∷ names) text e none = absurd (none 0 (let s = ap length e in omega arith) (ap (λ t. get_or t 0 0) e))
