-- How far a walk comes, and what a path adds to a table.
use Rattle.std.proofs.Common.{◌≡◌, ◌∙◌, ℕ, ◌<◌, ◌+◌, ◌||◌, ◌&&◌, Bool, true, false, cond, List, [], ◌∷◌, ◌++◌, length, map, get_or, refl, sym, ap, subst, arith, append_assoc, append-nil, length-append}
use Rattle.std.specs.List.{list_any, fold}
use Rattle.std.proofs.lemmas.Bool.{true≢false, false_from_ne_true}
use Rattle.std.proofs.lemmas.List.{map-append}
use Rattle.std.proofs.lemmas.List.Folds.{list_any-append}
use Rattle.limit_tree.specs.Outline.{is_leaf_kind}
use Rattle.sheet_text.specs.Paths.{Path, above, is_among, is_within, same_path, way_to}
use Rattle.sheet_text.proofs.Within.{is_same, same_name, within_self, within_trans}
use Rattle.sheet_text.specs.Table.{Table, Mention, is_mentioned, is_want, mention, mention_all, paths_in, unstated}
use Rattle.sheet_text.specs.Inside.{AreNames}
use Rattle.sheet_text.specs.Walks.{Walked, walked, grown, IsFresh}
use Rattle.sheet_text.proofs.Tables.{none_at, or_none}

-- the paths behind a path, one for each name more, and those above the last
pub steps : Path → Path → List Path
steps front [] = []
steps front (name ∷ names) = (front ++ name ∷ []) ∷ steps (front ++ name ∷ []) names

pub overs : Path → Path → List Path
overs front [] = []
overs front (name ∷ names) = front ∷ overs (front ++ name ∷ []) names

map_map : {X Y Z : Type 0} (f : Y → Z) (g : X → Y) (xs : List X) → map f (map g xs) ≡ map (λ x. f (g x)) xs
map_map f g [] = refl
map_map f g (x ∷ xs) = ap (λ zs. f (g x) ∷ zs) (map_map f g xs)

onto_one : (front : Path) (name : List ℕ) (qs : List Path) → map (λ q. front ++ name ∷ q) qs ≡ map (λ q. (front ++ name ∷ []) ++ q) qs
onto_one front name [] = refl
onto_one front name (q ∷ qs) = ap (λ (p : Path). p ∷ map (λ q. front ++ name ∷ q) qs) (sym (append_assoc front (name ∷ []) q)) ∙ ap (λ (ps : List Path). ((front ++ name ∷ []) ++ q) ∷ ps) (onto_one front name qs)

way_steps : (front names : Path) → map (λ q. front ++ q) (way_to names) ≡ front ∷ steps front names
unfolding steps
way_steps front [] = ap (λ (p : Path). p ∷ []) (append-nil front)
way_steps front (name ∷ names) =
    ap (λ (p : Path). p ∷ map (λ q. front ++ q) (map (λ rest. name ∷ rest) (way_to names))) (append-nil front)
    ∙ ap (λ (ps : List Path). front ∷ ps) (map_map (λ (q : Path). front ++ q) (λ (rest : Path). name ∷ rest) (way_to names) ∙ onto_one front name (way_to names) ∙ way_steps (front ++ name ∷ []) names)

above_overs : (front names : Path) → map (λ q. front ++ q) (above names) ≡ overs front names
unfolding overs
above_overs front [] = refl
above_overs front (name ∷ names) =
    ap (λ (p : Path). p ∷ map (λ q. front ++ q) (map (λ rest. name ∷ rest) (above names))) (append-nil front)
    ∙ ap (λ (ps : List Path). front ∷ ps) (map_map (λ (q : Path). front ++ q) (λ (rest : Path). name ∷ rest) (above names) ∙ onto_one front name (above names) ∙ above_overs (front ++ name ∷ []) names)

map_same : (qs : List Path) → map (λ q. [] ++ q) qs ≡ qs
map_same [] = refl
map_same (q ∷ qs) = ap (λ (ps : List Path). q ∷ ps) (map_same qs)

pub above_is : (path : Path) → above path ≡ overs [] path
above_is path = sym (map_same (above path)) ∙ above_overs [] path

pub way_is : (path : Path) → way_to path ≡ [] ∷ steps [] path
way_is path = sym (map_same (way_to path)) ∙ way_steps [] path

pub within_more : (p q : Path) → is_within p (p ++ q) ≡ true
within_more [] q = refl
within_more (x ∷ p) q = ap (λ (b : Bool). b && is_within p (p ++ q)) (same_name x) ∙ within_more p q

-- nothing at a path or beneath it is mentioned
abbrev pub NothingIn : Table → Path → Type 0
NothingIn table front = (q : Path) → is_within front q ≡ true → is_mentioned table q ≡ false

-- nothing beneath a path is mentioned
abbrev pub NothingBeneath : Table → Path → Type 0
NothingBeneath table front = (q : Path) → is_within front q ≡ true → length front < length q → is_mentioned table q ≡ false

pub nothing_in : (table : Table) (path : Path) → AreNames (paths_in table) → is_mentioned table path ≡ false → NothingIn table path
nothing_in table path names none q within = false_from_ne_true (is_mentioned table q) (λ e. true≢false (sym (names.closed path q within e) ∙ none))

no_want : (table : Table) (path : Path) → is_mentioned table path ≡ false → is_want table path ≡ false
no_want table path none = none_at (λ (m : Mention). is_leaf_kind m.kind) path table none

no_wants : (table : Table) (front names : Path) → NothingIn table front → list_any (is_want table) (overs front names) ≡ false
unfolding overs
no_wants table front [] none = refl
no_wants table front (name ∷ names) none =
    ap (λ (b : Bool). b || list_any (is_want table) (overs (front ++ name ∷ []) names)) (no_want table front (none front (within_self front)))
    ∙ no_wants table (front ++ name ∷ []) names (λ q w. none q (within_trans front (front ++ name ∷ []) q (within_more front (name ∷ [])) w))

pub or_turned : (a b c : Bool) → ((a || b) || c) ≡ (a || (b || c))
or_turned true b c = refl
or_turned false b c = refl

-- whether a want was passed
under_is : (table : Table) (front : Path) (under : Bool) (names : Path) → AreNames (paths_in table) → (walked table front under names).under ≡ (under || list_any (is_want table) (overs front names))
unfolding overs
under_is table front under [] tables = sym (or_none under)
under_is table front under (name ∷ names) tables = go (is_mentioned table (front ++ name ∷ [])) refl (under_is table (front ++ name ∷ []) (under || is_want table front) names tables)
  where
    go : (b : Bool) → is_mentioned table (front ++ name ∷ []) ≡ b
        → (walked table (front ++ name ∷ []) (under || is_want table front) names).under ≡ ((under || is_want table front) || list_any (is_want table) (overs (front ++ name ∷ []) names))
        → (cond b (walked table (front ++ name ∷ []) (under || is_want table front) names) (record { front = front; left = name ∷ names; under = under || is_want table front })).under ≡ (under || (is_want table front || list_any (is_want table) (overs (front ++ name ∷ []) names)))
    go true is rec = rec ∙ or_turned under (is_want table front) (list_any (is_want table) (overs (front ++ name ∷ []) names))
    go false is rec =
        let none = no_wants table (front ++ name ∷ []) names (nothing_in table (front ++ name ∷ []) tables is) in
        sym (or_none (under || is_want table front)) ∙ ap (λ (b : Bool). (under || is_want table front) || b) (sym none) ∙ or_turned under (is_want table front) (list_any (is_want table) (overs (front ++ name ∷ []) names))

pub joins_is : (table : Table) (front : Path) (under : Bool) (names : Path) → (walked table front under names).front ++ (walked table front under names).left ≡ front ++ names
joins_is table front under [] = refl
joins_is table front under (name ∷ names) = go (is_mentioned table (front ++ name ∷ [])) (joins_is table (front ++ name ∷ []) (under || is_want table front) names)
  where
    go : (b : Bool) → (walked table (front ++ name ∷ []) (under || is_want table front) names).front ++ (walked table (front ++ name ∷ []) (under || is_want table front) names).left ≡ (front ++ name ∷ []) ++ names
        → (cond b (walked table (front ++ name ∷ []) (under || is_want table front) names) (record { front = front; left = name ∷ names; under = under || is_want table front })).front ++ (cond b (walked table (front ++ name ∷ []) (under || is_want table front) names) (record { front = front; left = name ∷ names; under = under || is_want table front })).left ≡ front ++ name ∷ names
    go true rec = rec ∙ append_assoc front (name ∷ []) names
    go false rec = refl

pub fresh_is : (table : Table) (front : Path) (under : Bool) (names : Path) → IsFresh table (walked table front under names).front (walked table front under names).left
fresh_is table front under [] = tt
fresh_is table front under (name ∷ names) = go (is_mentioned table (front ++ name ∷ [])) refl (fresh_is table (front ++ name ∷ []) (under || is_want table front) names)
  where
    go : (b : Bool) → is_mentioned table (front ++ name ∷ []) ≡ b → IsFresh table (walked table (front ++ name ∷ []) (under || is_want table front) names).front (walked table (front ++ name ∷ []) (under || is_want table front) names).left
        → IsFresh table (cond b (walked table (front ++ name ∷ []) (under || is_want table front) names) (record { front = front; left = name ∷ names; under = under || is_want table front })).front (cond b (walked table (front ++ name ∷ []) (under || is_want table front) names) (record { front = front; left = name ∷ names; under = under || is_want table front })).left
    go true is rec = rec
    go false is rec = is

pub among_push : (table : Table) (p q : Path) → is_mentioned (table ++ unstated p ∷ []) q ≡ (is_mentioned table q || same_path q p)
among_push table p q =
    ap (λ (ps : List Path). is_among ps q) (map-append (λ (m : Mention). m.path) table (unstated p ∷ []))
    ∙ list_any-append (same_path q) (paths_in table) (p ∷ []) ∙ ap (λ (b : Bool). is_mentioned table q || b) (or_none (same_path q p))

not_same : (p q : Path) → length p < length q → same_path q p ≡ false
not_same p q l = false_from_ne_true (same_path q p) (λ e. let same : length q ≡ length p = ap length (is_same q p e) in absurd (omega arith))

pub longer : (front : Path) (name : List ℕ) → length (front ++ name ∷ []) ≡ length front + 1
longer front name = omega (arith, length-append front (name ∷ []))

-- where nothing is beneath a path, each name behind it is a path more
grown_is : (table : Table) (front names : Path) → NothingBeneath table front → fold mention table (steps front names) ≡ grown table front names
unfolding steps
grown_is table front [] none = refl
grown_is table front (name ∷ names) none =
    let kid = front ++ name ∷ [] in
    let absent : is_mentioned table kid ≡ false = none kid (within_more front (name ∷ [])) (omega (arith, longer front name)) in
    let pushed : mention table kid ≡ table ++ unstated kid ∷ [] = ap (λ (b : Bool). cond b table (table ++ unstated kid ∷ [])) absent in
    ap (λ (t : Table). fold mention t (steps kid names)) pushed
    ∙ grown_is (table ++ unstated kid ∷ []) kid names (λ q w l.
    among_push table kid q
    ∙ ap (λ (b : Bool). b || same_path q kid) (none q (within_trans front kid q (within_more front (name ∷ [])) w) (omega (arith, longer front name, l)))
    ∙ not_same kid q l)

walk_grows : (table : Table) (front : Path) (under : Bool) (names : Path) → AreNames (paths_in table) → fold mention table (steps front names) ≡ grown table (walked table front under names).front (walked table front under names).left
unfolding steps
walk_grows table front under [] tables = refl
walk_grows table front under (name ∷ names) tables = go (is_mentioned table (front ++ name ∷ [])) refl (walk_grows table (front ++ name ∷ []) (under || is_want table front) names tables)
  where
    go : (b : Bool) → is_mentioned table (front ++ name ∷ []) ≡ b
        → fold mention table (steps (front ++ name ∷ []) names) ≡ grown table (walked table (front ++ name ∷ []) (under || is_want table front) names).front (walked table (front ++ name ∷ []) (under || is_want table front) names).left
        → fold mention (cond b table (table ++ unstated (front ++ name ∷ []) ∷ [])) (steps (front ++ name ∷ []) names)
        ≡ grown table (cond b (walked table (front ++ name ∷ []) (under || is_want table front) names) (record { front = front; left = name ∷ names; under = under || is_want table front })).front (cond b (walked table (front ++ name ∷ []) (under || is_want table front) names) (record { front = front; left = name ∷ names; under = under || is_want table front })).left
    go true is rec = rec
    go false is rec =
        let none = nothing_in table (front ++ name ∷ []) tables is in
        grown_is (table ++ unstated (front ++ name ∷ []) ∷ []) (front ++ name ∷ []) names (λ q w l.
        among_push table (front ++ name ∷ []) q ∙ ap (λ (b : Bool). b || same_path q (front ++ name ∷ [])) (none q w) ∙ not_same (front ++ name ∷ []) q l)

-- what is known of a walk along a path
pub record IsKnown (table : Table) (path front left : Path) (under : Bool) : Type 0 where
  pub joins : front ++ left ≡ path
  pub fresh : IsFresh table front left
  pub under_is : under ≡ list_any (is_want table) (above path)
  pub grows : mention_all table path ≡ grown table front left

rooted_there : (table : Table) → AreNames (paths_in table) → is_mentioned table [] ≡ true
rooted_there table names = go (paths_in table) names.some names.rooted
  where
    go : (paths : List Path) → 0 < length paths → get_or paths 0 ([] ∷ []) ≡ [] → is_among paths [] ≡ true
    go [] l e = absurd (omega arith)
    go (p ∷ paths) l e = ap (λ (q : Path). same_path [] q || is_among paths []) e

pub walk_known : (table : Table) (path : Path) (w : Walked) → AreNames (paths_in table) → walked table [] false path ≡ w → IsKnown table path w.front w.left w.under
walk_known table path w names is = subst (λ (v : Walked). IsKnown table path v.front v.left v.under) is (record {
  joins = joins_is table [] false path;
  fresh = fresh_is table [] false path;
  under_is = under_is table [] false path names ∙ ap (λ (ps : List Path). list_any (is_want table) ps) (sym (above_is path));
  grows = ap (λ (ps : List Path). fold mention table ps) (way_is path)
      ∙ ap (λ (b : Bool). fold mention (cond b table (table ++ unstated [] ∷ [])) (steps [] path)) (rooted_there table names)
      ∙ walk_grows table [] false path names;
})

pub grown_length : (table : Table) (front names : Path) → length (grown table front names) ≡ length table + length names
grown_length table front [] = omega arith
grown_length table front (name ∷ names) = grown_length (table ++ unstated (front ++ name ∷ []) ∷ []) (front ++ name ∷ []) names ∙ omega (arith, length-append table (unstated (front ++ name ∷ []) ∷ []))
