-- Lines that follow one another.
use Rattle.std.proofs.Common.{◌≡◌, ◌∙◌, ℕ, ◌≤◌, ◌+◌, ◌||◌, ◌&&◌, nat_le, Bool, true, false, cond, List, [], ◌∷◌, ◌++◌, length, get_or, refl, sym, ap, subst, arith, append_assoc, append-nil, Option, Some, None, Result, Ok, Err, leb-false}
use Rattle.std.specs.Prelude.{IfSome}
use Rattle.std.specs.List.{find, fold, list_any}
use Rattle.std.specs.Option.{is_some, option_map, unwrap_or}
use Rattle.std.proofs.lemmas.Bool.{true≢false, false_from_ne_true}
use Rattle.std.proofs.lemmas.List.{map-append}
use Rattle.std.proofs.lemmas.List.Folds.{list_any-append}
use Rattle.limit_tree.specs.declared.place.NodeKind.TheVariants.{Branch}
use Rattle.limit_tree.specs.declared.bounds.TheConstants.{MAX_DEPTH, MAX_LEAVES}
use Rattle.limit_tree.specs.declared.fault.TreeFault.{TreeFault}
use Rattle.limit_tree.specs.declared.fault.TreeFault.TheVariants.{FloorsOverLimit}
use Rattle.limit_tree.specs.Outline.{is_leaf_kind}
use Rattle.limit_tree.specs.Faults.{first_fault, first_over, kind_fault, or_else}
use Rattle.sheet_text.specs.Paths.{NoneTwice, Path, is_among, same_path, way_to}
use Rattle.sheet_text.specs.Mentions.{mention_all as mention_way, mentions, Entry}
use Rattle.sheet_text.specs.TreeLaw.{IsTreeOf}
use Rattle.sheet_text.proofs.Within.{is_same}
use Rattle.sheet_text.proofs.Mentioned.{once_fold}
use Rattle.sheet_text.proofs.Stated.{are_mentions}
use Rattle.sheet_text.proofs.WholeTrees.{tree_is}
use Rattle.sheet_text.specs.declared.fault.SheetFault.{SheetFault}
use Rattle.sheet_text.specs.declared.fault.SheetFault.TheVariants.{Tree}
use Rattle.sheet_text.specs.Table.{Mention, Table, fresh, has_line, is_at, mention, mention_all, noted, paths_in, taken, unstated, want_count}
use Rattle.sheet_text.specs.Tree.{kind_in, line_in, node_paths, outline_of}
use Rattle.sheet_text.specs.Whole.{fault_line, whole_fault}
use Rattle.sheet_text.specs.Taken.{AreNoted, IsAboveLimit, IsTaken, IsTreeOfLines, Stated, stated_paths, take_on, taken_all}
use Rattle.sheet_text.proofs.Noted.{not_noted, want_cons}
use Rattle.sheet_text.proofs.Taken.{IsFit, after, fit, found_here, found_still, kind_here, kind_still, mentions_after, paths_after, paths_fold, paths_noted, either_false}
use Rattle.sheet_text.proofs.Sound.{no_fault, over_stated}
use Rattle.sheet_text.proofs.Tables.{count, or_none}

-- how many wants a line leaves
wants_push : (t : Table) (p : Path) → want_count (t ++ unstated p ∷ []) ≡ want_count t
wants_push [] p = refl
wants_push (m ∷ t) p = want_cons m (t ++ unstated p ∷ []) ∙ ap (λ (n : ℕ). cond (is_leaf_kind m.kind) 1 0 + n) (wants_push t p) ∙ sym (want_cons m t)

wants_mention : (t : Table) (p : Path) → want_count (mention t p) ≡ want_count t
wants_mention t p = go (is_among (paths_in t) p)
  where
    go : (b : Bool) → want_count (cond b t (t ++ unstated p ∷ [])) ≡ want_count t
    go true = refl
    go false = wants_push t p

wants_fold : (ps : List Path) (t : Table) → want_count (fold mention t ps) ≡ want_count t
wants_fold [] t = refl
wants_fold (p ∷ ps) t = wants_fold ps (mention t p) ∙ wants_mention t p

wants_noted : (line : ℕ) (e : Entry) (t : Table) → NoneTwice (paths_in t) → want_count (noted line e t) ≤ cond (is_leaf_kind e.kind) 1 0 + want_count t
wants_noted line e [] once = omega arith
wants_noted line e (m ∷ t) once = go (same_path e.path m.path) refl (wants_noted line e t once.1)
  where
    new : Mention
    new = record { path = m.path; kind = e.kind; line = Some line }

    go : (b : Bool) → same_path e.path m.path ≡ b → want_count (noted line e t) ≤ cond (is_leaf_kind e.kind) 1 0 + want_count t → want_count (cond b new m ∷ noted line e t) ≤ cond (is_leaf_kind e.kind) 1 0 + want_count (m ∷ t)
    go true is rest =
        let same : noted line e t ≡ t = not_noted line e t (ap (is_among (paths_in t)) (is_same e.path m.path is) ∙ once.0) in
        omega (arith, want_cons new (noted line e t), want_cons m t, ap want_count same)
    go false is rest = omega (arith, want_cons m (noted line e t), want_cons m t, rest)

few_wants_after : (t : Table) (line : ℕ) (e : Entry) → NoneTwice (paths_in (mention_all t e.path)) → (is_leaf_kind e.kind && nat_le MAX_LEAVES (want_count t)) ≡ false → want_count t ≤ MAX_LEAVES → want_count (after t line e) ≤ MAX_LEAVES
few_wants_after t line e once few most = go (is_leaf_kind e.kind) (nat_le MAX_LEAVES (want_count t)) refl few (wants_noted line e (mention_all t e.path) once)
  where
    go : (b d : Bool) → nat_le MAX_LEAVES (want_count t) ≡ d → (b && d) ≡ false → want_count (after t line e) ≤ cond b 1 0 + want_count (mention_all t e.path) → want_count (after t line e) ≤ MAX_LEAVES
    go false d is h l = omega (arith, l, most, wants_fold (way_to e.path) t)
    go true true is h l = cc
    go true false is h l = omega (arith, l, leb-false MAX_LEAVES (want_count t) is, wants_fold (way_to e.path) t)

-- what has a line is found with it
line_there : (t : Table) (q : Path) (m : Mention) → find (is_at q) t ≡ Some m → is_some m.line ≡ true → has_line t q ≡ true
line_there [] q m e some = cc
line_there (n ∷ t) q m e some = go (same_path q n.path) (line_there t q m) e
  where
    go : (b : Bool) → (find (is_at q) t ≡ Some m → is_some m.line ≡ true → has_line t q ≡ true) → cond b (Some n) (find (is_at q) t) ≡ Some m → ((b && is_some n.line) || has_line t q) ≡ true
    go true rest h = let same : n ≡ m = cc in ap (λ (x : Mention). is_some x.line || has_line t q) same ∙ ap (λ (b : Bool). b || has_line t q) some
    go false rest h = rest h some

-- what was noted stays so
noted_still : (t : Table) (line : ℕ) (e : Entry) (lines : List Stated) → has_line t e.path ≡ false → AreNoted t lines → AreNoted (after t line e) lines
noted_still t line e [] none are = tt
noted_still t line e (s ∷ lines) none are = (
  found_still t line e s.entry.path (record { path = s.entry.path; kind = s.entry.kind; line = Some s.line })
      (false_from_ne_true (same_path s.entry.path e.path) (λ h. true≢false (sym (line_there t s.entry.path (record { path = s.entry.path; kind = s.entry.kind; line = Some s.line }) are.0 refl) ∙ ap (has_line t) (is_same s.entry.path e.path h) ∙ none)))
      are.0,
  noted_still t line e lines none are.1,
)

noted_more : (t : Table) (lines : List Stated) (s : Stated) → AreNoted t lines → find (is_at s.entry.path) t ≡ Some (record { path = s.entry.path; kind = s.entry.kind; line = Some s.line }) → AreNoted t (lines ++ s ∷ [])
noted_more t [] s are here = (here, tt)
noted_more t (x ∷ lines) s are here = (are.0, noted_more t lines s are.1 here)

mentions_more : (seen ps : List Path) (p : Path) → fold mention_way seen (ps ++ p ∷ []) ≡ mention_way (fold mention_way seen ps) p
mentions_more seen [] p = refl
mentions_more seen (q ∷ ps) p = mentions_more (mention_way seen q) ps p

sound_after : (t : Table) (line : ℕ) (e : Entry) (q : Path) → kind_fault e.kind ≡ None → kind_fault (kind_in t q) ≡ None → kind_fault (kind_in (after t line e) q) ≡ None
sound_after t line e q new old = go (same_path q e.path) refl
  where
    go : (b : Bool) → same_path q e.path ≡ b → kind_fault (kind_in (after t line e) q) ≡ None
    go true is = ap kind_fault (kind_here t line e q is) ∙ new
    go false is = ap kind_fault (kind_still t line e q is) ∙ old

-- a line more
taken_more : (t : Table) (lines : List Stated) (s : Stated) → IsFit t s.entry → IsTaken t lines → IsTaken (after t s.line s.entry) (lines ++ s ∷ [])
taken_more t lines s is are =
    let e = s.entry in
    let more : stated_paths (lines ++ s ∷ []) ≡ stated_paths lines ++ e.path ∷ [] = map-append (λ (x : Stated). x.entry.path) lines (s ∷ []) in
    record {
      paths = paths_after t s.line e ∙ ap (λ (ps : List Path). mention_way ps e.path) are.paths ∙ sym (ap mentions more ∙ mentions_more ([] ∷ []) (stated_paths lines) e.path);
      noted = noted_more (after t s.line e) lines s (noted_still t s.line e lines is.unlined are.noted) (found_here t s.line e);
      unstated = λ path none.
          let both = either_false (list_any (same_path path) (stated_paths lines)) (same_path path e.path) (sym (ap (list_any (same_path path)) more ∙ list_any-append (same_path path) (stated_paths lines) (e.path ∷ []) ∙ ap (λ (b : Bool). list_any (same_path path) (stated_paths lines) || b) (or_none (same_path path e.path))) ∙ none) in
          kind_still t s.line e path both.1 ∙ are.unstated path both.0;
      mentions_are = mentions_after t s.line e is are.mentions_are;
      sound = λ path. sound_after t s.line e path is.sound (are.sound path);
      few_nodes = omega (arith, is.few, many);
      few_wants = few_wants_after t s.line e (subst NoneTwice (sym once_paths) (once_fold (paths_in t) (way_to e.path) are.mentions_are.apart)) is.few_wants are.few_wants;
    }
  where
    grown : Table
    grown = mention_all t s.entry.path

    many : length (after t s.line s.entry) ≡ length grown
    many = sym (count (after t s.line s.entry)) ∙ ap length (paths_noted s.line s.entry grown) ∙ count grown

    once_paths : paths_in grown ≡ mention_way (paths_in t) s.entry.path
    once_paths = paths_fold (way_to s.entry.path) t

first_taken : IsTaken fresh []
first_taken = record {
  paths = refl;
  noted = tt;
  unstated = λ path none. first_kind path;
  mentions_are = are_mentions (kind_in fresh) [] MAX_DEPTH tt tt;
  sound = λ path. ap kind_fault (first_kind path);
  few_nodes = omega arith;
  few_wants = omega arith;
}
  where
    first_kind : (path : Path) → kind_in fresh path ≡ Branch None
    first_kind [] = refl
    first_kind (name ∷ path) = refl

never : (fault : SheetFault) (lines : List Stated) (table : Table) → fold take_on (Err fault) lines ≡ Ok table → ⊥
never fault [] table e = cc
never fault (s ∷ lines) table e = never fault lines table e

taken_from : (t table : Table) (before lines : List Stated) → IsTaken t before → fold take_on (Ok t) lines ≡ Ok table → IsTaken table (before ++ lines)
taken_from t table before [] are e =
    let same : t ≡ table = cc in
    subst (λ (x : Table). IsTaken x (before ++ [])) same (subst (IsTaken t) (sym (append-nil before)) are)
taken_from t table before (s ∷ lines) are e = go (taken t s.line s.entry) refl (λ new is. taken_from new table (before ++ s ∷ []) lines is) e
  where
    go : (r : Result Table SheetFault) → taken t s.line s.entry ≡ r → ((new : Table) → IsTaken new (before ++ s ∷ []) → fold take_on (Ok new) lines ≡ Ok table → IsTaken table ((before ++ s ∷ []) ++ lines))
        → fold take_on r lines ≡ Ok table → IsTaken table (before ++ s ∷ lines)
    go (Err fault) is rest h = absurd (never fault lines table h)
    go (Ok new) is rest h =
        let fits = fit t new s.line s.entry is in
        subst (IsTaken table) (append_assoc before (s ∷ []) lines) (rest new (subst (λ (x : Table). IsTaken x (before ++ s ∷ [])) fits.1 (taken_more t before s fits.0 are)) h)

-- the fault of a whole tree whose nodes have none
whole_is : (table : Table) → first_fault 0 0 0 (outline_of table) ≡ None → ((node : ℕ) → first_over 0 (outline_of table) ≡ Some node → (line : ℕ) × (line_in table (get_or (node_paths table) node []) ≡ Some line)) → IfSome (whole_fault table) (IsAboveLimit table)
whole_is table none lined = go (first_fault 0 0 0 (outline_of table)) none (first_over 0 (outline_of table)) refl
  where
    go : (f : Option TreeFault) → f ≡ None → (over : Option ℕ) → first_over 0 (outline_of table) ≡ over → IfSome (option_map (λ fault. Tree (fault_line table fault) fault) (or_else f (option_map FloorsOverLimit over))) (IsAboveLimit table)
    go (Some fault) e over is = cc
    go None e None is = tt
    go None e (Some node) is =
        let got = lined node is in
        (node, got.0, ap (λ (line : Option ℕ). Tree (unwrap_or line 0) (FloorsOverLimit node)) got.1, is, got.1)

pub tree_of_lines : (lines : List Stated) (table : Table) → taken_all lines ≡ Ok table → IsTreeOfLines table lines
tree_of_lines lines table e =
    let are : IsTaken table lines = taken_from fresh table [] lines first_taken e in
    let whole : IsTreeOf (kind_in table) (paths_in table) (outline_of table) (node_paths table) = tree_is (kind_in table) (paths_in table) MAX_DEPTH are.mentions_are in
    record {
      taken_is = are;
      tree = subst (λ (ps : List Path). IsTreeOf (kind_in table) ps (outline_of table) (node_paths table)) are.paths whole;
      only_floors = ap (λ (f : Option TreeFault). or_else f (option_map FloorsOverLimit (first_over 0 (outline_of table)))) (no_fault table lines are);
      over_stated = λ node over. over_stated table lines node are whole.kinds over;
      whole = whole_is table (no_fault table lines are) (λ node over. over_stated table lines node are whole.kinds over);
    }
