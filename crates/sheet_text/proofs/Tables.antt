-- What stands at the place of a path.
use Rattle.std.proofs.Common.{◌≡◌, ◌∙◌, ℕ, zero, suc, ◌<◌, ◌+◌, ◌||◌, ◌&&◌, Bool, true, false, cond, List, [], ◌∷◌, length, get_or, refl, sym, ap, arith, Some}
use Rattle.std.specs.List.{list_any, position_from}
use Rattle.std.proofs.lemmas.Bool.{true≢false, false_from_ne_true}
use Rattle.sheet_text.specs.Paths.{Path, NoneTwice, is_among, place_of, same_path}
use Rattle.sheet_text.proofs.Within.{same_self, is_same}
use Rattle.sheet_text.specs.Table.{Mention, Table, is_at, is_mentioned, mention_at, path_at, paths_in}

pub count : (table : Table) → length (paths_in table) ≡ length table
count [] = refl
count (m ∷ table) = omega (arith, count table)

pub path_is : (table : Table) (place : ℕ) → place < length table → path_at table place ≡ (mention_at table place).path
path_is [] place l = absurd (omega arith)
path_is (m ∷ table) zero l = refl
path_is (m ∷ table) (suc place) l = path_is table place (omega arith)

or_parts : (a b : Bool) → (a || b) ≡ false → (a ≡ false) × (b ≡ false)
or_parts true b e = absurd (true≢false e)
or_parts false b e = (refl, e)

-- what stands at a path that is not there
pub none_at : (test : Mention → Bool) (path : Path) (table : Table) → is_among (paths_in table) path ≡ false → list_any (λ m. is_at path m && test m) table ≡ false
none_at test path [] e = refl
none_at test path (m ∷ table) e =
    let both = or_parts (same_path path m.path) (is_among (paths_in table) path) e in
    ap (λ (b : Bool). (b && test m) || list_any (λ m. is_at path m && test m) table) both.0 ∙ none_at test path table both.1

among_at : (paths : List Path) (place : ℕ) → place < length paths → is_among paths (get_or paths place []) ≡ true
among_at [] place l = absurd (omega arith)
among_at (p ∷ paths) zero l = ap (λ (b : Bool). b || is_among paths p) (same_self p)
among_at (p ∷ paths) (suc place) l = ap (λ (b : Bool). same_path (get_or paths place []) p || b) (among_at paths place (omega arith)) ∙ or_true (same_path (get_or paths place []) p)
  where
    or_true : (b : Bool) → (b || true) ≡ true
    or_true true = refl
    or_true false = refl

pub there_at : (table : Table) (place : ℕ) → place < length table → is_mentioned table (path_at table place) ≡ true
there_at table place l = among_at (paths_in table) place (omega (arith, count table, l))

-- what is among others stands nowhere first
pub apart_from : (p : Path) (paths : List Path) (place : ℕ) → is_among paths p ≡ false → place < length paths → same_path (get_or paths place []) p ≡ false
apart_from p paths place none l =
    false_from_ne_true (same_path (get_or paths place []) p) (λ e. true≢false (sym (ap (is_among paths) (sym (is_same (get_or paths place []) p e)) ∙ among_at paths place l) ∙ none))

pub or_none : (b : Bool) → (b || false) ≡ b
or_none true = refl
or_none false = refl

-- only one stands at a path
pub only_at : (test : Mention → Bool) (table : Table) (place : ℕ) → NoneTwice (paths_in table) → place < length table → list_any (λ m. is_at (path_at table place) m && test m) table ≡ test (mention_at table place)
only_at test [] place once l = absurd (omega arith)
only_at test (m ∷ table) zero once l =
    ap (λ (b : Bool). (same_path m.path m.path && test m) || b) (none_at test m.path table once.0)
    ∙ or_none (same_path m.path m.path && test m) ∙ ap (λ (b : Bool). b && test m) (same_self m.path)
only_at test (m ∷ table) (suc place) once l =
    ap (λ (b : Bool). (b && test m) || list_any (λ m. is_at (path_at table place) m && test m) table)
    (apart_from m.path (paths_in table) place once.0 (omega (arith, count table, l)))
    ∙ only_at test table place once.1 (omega arith)

-- the place of what stands at a place
pub place_from : (paths : List Path) (i place : ℕ) → NoneTwice paths → place < length paths → position_from (same_path (get_or paths place [])) i paths ≡ Some (i + place)
place_from [] i place once l = absurd (omega arith)
place_from (p ∷ paths) i zero once l =
    let none : i ≡ i + 0 = omega arith in
    ap (λ (b : Bool). cond b (Some i) (position_from (same_path p) (i + 1) paths)) (same_self p) ∙ ap Some none
place_from (p ∷ paths) i (suc place) once l =
    let next : (i + 1) + place ≡ i + suc place = omega arith in
    ap (λ (b : Bool). cond b (Some i) (position_from (same_path (get_or paths place [])) (i + 1) paths)) (apart_from p paths place once.0 (omega arith))
    ∙ place_from paths (i + 1) place once.1 (omega arith) ∙ ap Some next

pub place_at : (paths : List Path) (place : ℕ) → NoneTwice paths → place < length paths → place_of paths (get_or paths place []) ≡ Some place
place_at paths place once l = place_from paths 0 place once l ∙ ap Some (omega arith)
