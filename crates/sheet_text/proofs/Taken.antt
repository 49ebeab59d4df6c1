-- What a line adds that has no fault.
use Rattle.std.proofs.Common.{◌≡◌, ◌∙◌, ℕ, ◌<◌, ◌≤◌, ◌||◌, ◌&&◌, nat_le, nat_lt, Bool, true, false, cond, List, [], ◌∷◌, ◌++◌, length, map, refl, sym, ap, subst, arith, Option, Some, None, Ok, bytes_eq, inl, inr}
use Rattle.std.specs.List.{find, fold, list_any}
use Rattle.std.specs.Option.{option_map}
use Rattle.std.proofs.lemmas.Bool.{and_parts, ltb-false, or_cases, or_left, or_right, true≢false}
use Rattle.std.proofs.lemmas.List.{map-append}
use Rattle.limit_tree.specs.declared.place.NodeKind.{NodeKind}
use Rattle.limit_tree.specs.declared.place.NodeKind.TheVariants.{Branch}
use Rattle.limit_tree.specs.declared.bounds.TheConstants.{MAX_DEPTH, MAX_LEAVES, MAX_NODES}
use Rattle.limit_tree.specs.declared.fault.TreeFault.{TreeFault}
use Rattle.limit_tree.specs.declared.fault.TreeFault.TheVariants.{TooDeep, TooManyLeaves}
use Rattle.limit_tree.specs.Outline.{is_leaf_kind}
use Rattle.limit_tree.specs.Faults.{kind_fault, or_else}
use Rattle.sheet_text.specs.Paths.{NoneTwice, Path, above, is_among, is_within, same_path, way_to}
use Rattle.sheet_text.specs.Mentions.{mention as mention_path, mention_all as mention_way, Entry}
use Rattle.sheet_text.specs.TreeLaw.{AreMentions}
use Rattle.sheet_text.proofs.Within.{is_name, is_same, same_self, swapped, within_length, within_self, within_trans}
use Rattle.sheet_text.proofs.Mentioned.{among_fold, among_way, once_fold}
use Rattle.sheet_text.specs.declared.fault.SheetFault.{SheetFault}
use Rattle.sheet_text.specs.declared.fault.SheetFault.TheVariants.{Twice, LeafHasKids, Tree}
use Rattle.sheet_text.specs.Table.{Mention, Table, has_line, is_at, is_mentioned, is_want, mention, mention_all, noted, noted_at, paths_in, place_fault, size_fault, taken, taken_unless, unstated, want_count}
use Rattle.sheet_text.specs.Tree.{kind_in, kind_of}

pub either_false : (a b : Bool) → (a || b) ≡ false → (a ≡ false) × (b ≡ false)
either_false true b e = absurd (true≢false e)
either_false false b e = (refl, e)

-- the paths behind a line
paths_mention : (t : Table) (q : Path) → paths_in (mention t q) ≡ mention_path (paths_in t) q
paths_mention t q = go (is_mentioned t q)
  where
    go : (b : Bool) → paths_in (cond b t (t ++ unstated q ∷ [])) ≡ cond b (paths_in t) (paths_in t ++ q ∷ [])
    go true = refl
    go false = map-append (λ (m : Mention). m.path) t (unstated q ∷ [])

pub paths_fold : (ps : List Path) (t : Table) → paths_in (fold mention t ps) ≡ fold mention_path (paths_in t) ps
paths_fold [] t = refl
paths_fold (p ∷ ps) t = paths_fold ps (mention t p) ∙ ap (λ (seen : List Path). fold mention_path seen ps) (paths_mention t p)

path_kept : (line : ℕ) (e : Entry) (m : Mention) → (noted_at line e m).path ≡ m.path
path_kept line e m = go (is_at e.path m)
  where
    go : (b : Bool) → (cond b (record { path = m.path; kind = e.kind; line = Some line }) m).path ≡ m.path
    go true = refl
    go false = refl

pub paths_noted : (line : ℕ) (e : Entry) (t : Table) → paths_in (noted line e t) ≡ paths_in t
paths_noted line e [] = refl
paths_noted line e (m ∷ t) = ap (λ (p : Path). p ∷ paths_in (noted line e t)) (path_kept line e m) ∙ ap (λ (ps : List Path). m.path ∷ ps) (paths_noted line e t)

abbrev pub after : Table → ℕ → Entry → Table
after t line e = noted line e (mention_all t e.path)

pub paths_after : (t : Table) (line : ℕ) (e : Entry) → paths_in (after t line e) ≡ mention_way (paths_in t) e.path
paths_after t line e = paths_noted line e (mention_all t e.path) ∙ paths_fold (way_to e.path) t

among_way_to : (seen : List Path) (p q : Path) → is_among (mention_way seen p) q ≡ (is_among seen q || is_within q p)
among_way_to seen p q = among_fold seen (way_to p) q ∙ ap (λ (b : Bool). is_among seen q || b) (among_way p q)

pub among_after : (t : Table) (line : ℕ) (e : Entry) (q : Path) → is_among (paths_in (after t line e)) q ≡ (is_among (paths_in t) q || is_within q e.path)
among_after t line e q = ap (λ (ps : List Path). is_among ps q) (paths_after t line e) ∙ among_way_to (paths_in t) e.path q

-- what is found behind a line
kind_push : (t : Table) (p q : Path) → kind_in (t ++ unstated p ∷ []) q ≡ kind_in t q
kind_push [] p q = go (same_path q p)
  where
    go : (b : Bool) → kind_of (cond b (Some (unstated p)) None) ≡ Branch None
    go true = refl
    go false = refl
kind_push (m ∷ t) p q = go (same_path q m.path) (kind_push t p q)
  where
    go : (b : Bool) → kind_in (t ++ unstated p ∷ []) q ≡ kind_in t q → kind_of (cond b (Some m) (find (is_at q) (t ++ unstated p ∷ []))) ≡ kind_of (cond b (Some m) (find (is_at q) t))
    go true rest = refl
    go false rest = rest

kind_mention : (t : Table) (p q : Path) → kind_in (mention t p) q ≡ kind_in t q
kind_mention t p q = go (is_mentioned t p)
  where
    go : (b : Bool) → kind_in (cond b t (t ++ unstated p ∷ [])) q ≡ kind_in t q
    go true = refl
    go false = kind_push t p q

kind_fold : (ps : List Path) (t : Table) (q : Path) → kind_in (fold mention t ps) q ≡ kind_in t q
kind_fold [] t q = refl
kind_fold (p ∷ ps) t q = kind_fold ps (mention t p) q ∙ kind_mention t p q

found_push : (t : Table) (p q : Path) (m : Mention) → find (is_at q) t ≡ Some m → find (is_at q) (t ++ unstated p ∷ []) ≡ Some m
found_push [] p q m e = cc
found_push (n ∷ t) p q m e = go (same_path q n.path) (found_push t p q m) e
  where
    go : (b : Bool) → (find (is_at q) t ≡ Some m → find (is_at q) (t ++ unstated p ∷ []) ≡ Some m) → cond b (Some n) (find (is_at q) t) ≡ Some m → cond b (Some n) (find (is_at q) (t ++ unstated p ∷ [])) ≡ Some m
    go true rest h = h
    go false rest h = rest h

found_mention : (t : Table) (p q : Path) (m : Mention) → find (is_at q) t ≡ Some m → find (is_at q) (mention t p) ≡ Some m
found_mention t p q m e = go (is_mentioned t p)
  where
    go : (b : Bool) → find (is_at q) (cond b t (t ++ unstated p ∷ [])) ≡ Some m
    go true = e
    go false = found_push t p q m e

found_fold : (ps : List Path) (t : Table) (q : Path) (m : Mention) → find (is_at q) t ≡ Some m → find (is_at q) (fold mention t ps) ≡ Some m
found_fold [] t q m e = e
found_fold (p ∷ ps) t q m e = found_fold ps (mention t p) q m (found_mention t p q m e)

found_noted : (line : ℕ) (e : Entry) (t : Table) (q : Path) → find (is_at q) (noted line e t) ≡ option_map (noted_at line e) (find (is_at q) t)
found_noted line e [] q = refl
found_noted line e (m ∷ t) q =
    ap (λ (p : Path). cond (same_path q p) (Some (noted_at line e m)) (find (is_at q) (noted line e t))) (path_kept line e m)
    ∙ ap (λ (o : Option Mention). cond (same_path q m.path) (Some (noted_at line e m)) o) (found_noted line e t q) ∙ go (same_path q m.path)
  where
    go : (b : Bool) → cond b (Some (noted_at line e m)) (option_map (noted_at line e) (find (is_at q) t)) ≡ option_map (noted_at line e) (cond b (Some m) (find (is_at q) t))
    go true = refl
    go false = refl

found_path : (t : Table) (q : Path) (m : Mention) → find (is_at q) t ≡ Some m → m.path ≡ q
found_path [] q m e = cc
found_path (n ∷ t) q m e = go (same_path q n.path) refl (found_path t q m) e
  where
    go : (b : Bool) → same_path q n.path ≡ b → (find (is_at q) t ≡ Some m → m.path ≡ q) → cond b (Some n) (find (is_at q) t) ≡ Some m → m.path ≡ q
    go true is rest h = let same : n ≡ m = cc in ap (λ (x : Mention). x.path) (sym same) ∙ sym (is_same q n.path is)
    go false is rest h = rest h

found_among : (t : Table) (q : Path) → is_among (paths_in t) q ≡ true → (m : Mention) × (find (is_at q) t ≡ Some m)
found_among [] q e = absurd (true≢false (sym e))
found_among (n ∷ t) q e = go (same_path q n.path) refl (found_among t q)
  where
    go : (b : Bool) → same_path q n.path ≡ b → (is_among (paths_in t) q ≡ true → (m : Mention) × (find (is_at q) t ≡ Some m)) → (m : Mention) × (cond b (Some n) (find (is_at q) t) ≡ Some m)
    go true is rest = (n, refl)
    go false is rest = rest (sym (ap (λ (b : Bool). b || is_among (paths_in t) q) is) ∙ e)

-- what a line states is found
pub found_here : (t : Table) (line : ℕ) (e : Entry) → find (is_at e.path) (after t line e) ≡ Some (record { path = e.path; kind = e.kind; line = Some line })
found_here t line e =
    let grown = mention_all t e.path in
    let there : is_among (paths_in grown) e.path ≡ true = ap (λ (ps : List Path). is_among ps e.path) (paths_fold (way_to e.path) t) ∙ among_way_to (paths_in t) e.path e.path ∙ or_right (is_among (paths_in t) e.path) (is_within e.path e.path) (within_self e.path) in
    let found = found_among grown e.path there in
    let path : found.0.path ≡ e.path = found_path grown e.path found.0 found.1 in
    found_noted line e grown e.path ∙ ap (option_map (noted_at line e)) found.1
    ∙ ap (λ (b : Bool). Some (cond b (record { path = found.0.path; kind = e.kind; line = Some line }) found.0)) (ap (same_path e.path) path ∙ same_self e.path)
    ∙ ap (λ (p : Path). Some (record { path = p; kind = e.kind; line = Some line })) path

-- and what others state stays
pub found_still : (t : Table) (line : ℕ) (e : Entry) (q : Path) (m : Mention) → same_path q e.path ≡ false → find (is_at q) t ≡ Some m → find (is_at q) (after t line e) ≡ Some m
found_still t line e q m other found =
    let grown = mention_all t e.path in
    let there = found_fold (way_to e.path) t q m found in
    found_noted line e grown q ∙ ap (option_map (noted_at line e)) there
    ∙ ap (λ (b : Bool). Some (cond b (record { path = m.path; kind = e.kind; line = Some line }) m)) (ap (same_path e.path) (found_path t q m found) ∙ swapped e.path q ∙ other)

pub kind_here : (t : Table) (line : ℕ) (e : Entry) (q : Path) → same_path q e.path ≡ true → kind_in (after t line e) q ≡ e.kind
kind_here t line e q same = ap (kind_in (after t line e)) (is_same q e.path same) ∙ ap kind_of (found_here t line e)

pub kind_still : (t : Table) (line : ℕ) (e : Entry) (q : Path) → same_path q e.path ≡ false → kind_in (after t line e) q ≡ kind_in t q
kind_still t line e q other = ap kind_of (found_noted line e (mention_all t e.path) q) ∙ go (find (is_at q) (mention_all t e.path)) refl ∙ kind_fold (way_to e.path) t q
  where
    go : (o : Option Mention) → find (is_at q) (mention_all t e.path) ≡ o → kind_of (option_map (noted_at line e) o) ≡ kind_of (find (is_at q) (mention_all t e.path))
    go None is = ap kind_of (sym is)
    go (Some m) is =
        ap (λ (b : Bool). (cond b (record { path = m.path; kind = e.kind; line = Some line }) m).kind) (ap (same_path e.path) (found_path (mention_all t e.path) q m is) ∙ swapped e.path q ∙ other)
        ∙ ap kind_of (sym is)

-- no want above
leaf_want : (t : Table) (q : Path) → is_want t q ≡ false → is_leaf_kind (kind_in t q) ≡ false
leaf_want [] q e = refl
leaf_want (m ∷ t) q e =
    let both = either_false (same_path q m.path && is_leaf_kind m.kind) (is_want t q) e in
    go (same_path q m.path) both.0 (leaf_want t q both.1)
  where
    go : (b : Bool) → (b && is_leaf_kind m.kind) ≡ false → is_leaf_kind (kind_in t q) ≡ false → is_leaf_kind (kind_of (cond b (Some m) (find (is_at q) t))) ≡ false
    go true h rest = h
    go false h rest = rest

any_map : (test : Path → Bool) (f : Path → Path) (ps : List Path) → list_any test (map f ps) ≡ list_any (λ p. test (f p)) ps
any_map test f [] = refl
any_map test f (p ∷ ps) = ap (λ (b : Bool). test (f p) || b) (any_map test f ps)

none_above : (test : Path → Bool) (front p : Path) → is_within front p ≡ true → length front < length p → list_any test (above p) ≡ false → test front ≡ false
none_above test front [] w l e = absurd (omega arith)
none_above test [] (y ∷ p) w l e = (either_false (test []) (list_any test (map (λ rest. y ∷ rest) (above p))) e).0
none_above test (x ∷ front) (y ∷ p) w l e =
    let both = and_parts (bytes_eq x y) (is_within front p) w in
    let same : x ≡ y = is_name x y both.0 in
    ap (λ (n : List ℕ). test (n ∷ front)) same
    ∙ none_above (λ rest. test (y ∷ rest)) front p both.1 (omega (arith, l)) (sym (any_map test (λ rest. y ∷ rest) (above p)) ∙ (either_false (test []) (list_any test (map (λ rest. y ∷ rest) (above p))) e).1)

-- an entry without a fault
pub record IsFit (t : Table) (e : Entry) : Type 0 where
  pub unlined : has_line t e.path ≡ false
  pub below : list_any (is_want t) (above e.path) ≡ false
  pub alone : (is_leaf_kind e.kind && is_mentioned t e.path) ≡ false
  pub short : length e.path ≤ MAX_DEPTH
  pub few : length (mention_all t e.path) ≤ MAX_NODES
  pub few_wants : (is_leaf_kind e.kind && nat_le MAX_LEAVES (want_count t)) ≡ false
  pub sound : kind_fault e.kind ≡ None

place_fit : (t : Table) (line : ℕ) (e : Entry) → place_fault t line e ≡ None → (has_line t e.path ≡ false) × ((list_any (is_want t) (above e.path) || (is_leaf_kind e.kind && is_mentioned t e.path)) ≡ false) × (nat_lt MAX_DEPTH (length e.path) ≡ false)
place_fit t line e h = go (has_line t e.path) (list_any (is_want t) (above e.path) || (is_leaf_kind e.kind && is_mentioned t e.path)) (nat_lt MAX_DEPTH (length e.path)) h
  where
    go : (a b d : Bool) → cond a (Some (Twice line)) (cond b (Some (LeafHasKids line)) (cond d (Some (Tree line TooDeep)) None)) ≡ None → (a ≡ false) × (b ≡ false) × (d ≡ false)
    go true b d h = cc
    go false true d h = cc
    go false false true h = cc
    go false false false h = (refl, refl, refl)

size_fit : (nodes wants : ℕ) (kind : NodeKind) → size_fault nodes wants kind ≡ None → (nat_lt MAX_NODES nodes ≡ false) × ((is_leaf_kind kind && nat_le MAX_LEAVES wants) ≡ false) × (kind_fault kind ≡ None)
size_fit nodes wants kind h = go (nat_lt MAX_NODES nodes) (is_leaf_kind kind && nat_le MAX_LEAVES wants) h
  where
    go : (a b : Bool) → cond (a || b) (Some TooManyLeaves) (kind_fault kind) ≡ None → (a ≡ false) × (b ≡ false) × (kind_fault kind ≡ None)
    go true b h = cc
    go false true h = cc
    go false false h = (refl, refl, h)

pub fit : (t new : Table) (line : ℕ) (e : Entry) → taken t line e ≡ Ok new → IsFit t e × (after t line e ≡ new)
fit t new line e h = go (place_fault t line e) refl (size_fault (length (mention_all t e.path)) (want_count t) e.kind) refl h
  where
    go : (o : Option SheetFault) → place_fault t line e ≡ o → (s : Option TreeFault) → size_fault (length (mention_all t e.path)) (want_count t) e.kind ≡ s → taken_unless (or_else o (option_map (Tree line) s)) (after t line e) ≡ Ok new → IsFit t e × (after t line e ≡ new)
    go (Some fault) p s q h = cc
    go None p (Some fault) q h = cc
    go None p None q h =
        let place = place_fit t line e p in
        let size = size_fit (length (mention_all t e.path)) (want_count t) e.kind q in
        let kids = either_false (list_any (is_want t) (above e.path)) (is_leaf_kind e.kind && is_mentioned t e.path) place.1 in (
          record {
            unlined = place.0;
            below = kids.0;
            alone = kids.1;
            short = ltb-false MAX_DEPTH (length e.path) place.2;
            few = ltb-false MAX_NODES (length (mention_all t e.path)) size.0;
            few_wants = size.1;
            sound = size.2;
          },
          cc,
        )

-- a line more
pub mentions_after : (t : Table) (line : ℕ) (e : Entry) → IsFit t e → AreMentions (kind_in t) (paths_in t) MAX_DEPTH → AreMentions (kind_in (after t line e)) (paths_in (after t line e)) MAX_DEPTH
mentions_after t line e is are = record {
  rooted = among_after t line e [] ∙ or_left (is_among (paths_in t) []) (is_within [] e.path) are.rooted;
  apart = subst NoneTwice (sym (paths_after t line e)) (once_fold (paths_in t) (way_to e.path) are.apart);
  above = λ front path w h. among_after t line e front ∙ elim (or_cases (is_among (paths_in t) path) (is_within path e.path) (sym (among_after t line e path) ∙ h)) [
    | inl old ↦ or_left (is_among (paths_in t) front) (is_within front e.path) (are.above front path w old)
    | inr under ↦ or_right (is_among (paths_in t) front) (is_within front e.path) (within_trans front path e.path w under)
  ];
  branches = λ front path w l h. elim (or_cases (is_among (paths_in t) path) (is_within path e.path) (sym (among_after t line e path) ∙ h)) [
    | inl old ↦ before front path w l old (same_path front e.path) refl
    | inr under ↦ beside front path w l under (same_path front e.path) refl
  ];
  within = λ path h. elim (or_cases (is_among (paths_in t) path) (is_within path e.path) (sym (among_after t line e path) ∙ h)) [
    | inl old ↦ are.within path old
    | inr under ↦ omega (arith, within_length path e.path under, is.short)
  ];
}
  where
    and_right : (b : Bool) → (b && true) ≡ false → b ≡ false
    and_right true h = h
    and_right false h = refl

    before : (front path : Path) → is_within front path ≡ true → length front < length path → is_among (paths_in t) path ≡ true → (b : Bool) → same_path front e.path ≡ b → is_leaf_kind (kind_in (after t line e) front) ≡ false
    before front path w l old true same =
        let there : is_mentioned t e.path ≡ true = ap (is_among (paths_in t)) (sym (is_same front e.path same)) ∙ are.above front path w old in
        ap is_leaf_kind (kind_here t line e front same) ∙ and_right (is_leaf_kind e.kind) (sym (ap (λ (b : Bool). is_leaf_kind e.kind && b) there) ∙ is.alone)
    before front path w l old false other = ap is_leaf_kind (kind_still t line e front other) ∙ are.branches front path w l old

    beside : (front path : Path) → is_within front path ≡ true → length front < length path → is_within path e.path ≡ true → (b : Bool) → same_path front e.path ≡ b → is_leaf_kind (kind_in (after t line e) front) ≡ false
    beside front path w l under true same = let long : length front ≡ length e.path = ap length (is_same front e.path same) in absurd (omega (arith, l, long, within_length path e.path under))
    beside front path w l under false other =
        ap is_leaf_kind (kind_still t line e front other)
        ∙ leaf_want t front (none_above (is_want t) front e.path (within_trans front path e.path w under) (omega (arith, l, within_length path e.path under)) is.below)
