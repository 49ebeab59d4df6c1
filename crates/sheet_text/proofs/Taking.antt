-- What lines leave, one after another.
use Rattle.std.proofs.Common.{◌≡◌, ◌∙◌, ℕ, ◌<◌, ◌≤◌, ◌+◌, Bool, true, false, cond, List, [], ◌∷◌, ◌++◌, length, map, filter, refl, sym, ap, arith, append-nil, Option, Some, None, Result, Ok, Err, suc, subst}
use Rattle.std.specs.List.{fold}
use Rattle.std.specs.Str.Lines.{lines}
use Rattle.std.proofs.lemmas.List.{map-append}
use Rattle.limit_tree.specs.declared.place.NodeKind.{NodeKind}
use Rattle.limit_tree.specs.Outline.{is_leaf_kind}
use Rattle.sheet_text.specs.Paths.{Octets, Path}
use Rattle.sheet_text.specs.declared.fault.SheetFault.{SheetFault}
use Rattle.sheet_text.specs.Rows.{AreBelow}
use Rattle.sheet_text.specs.Table.{Table, fresh, path_at}
use Rattle.sheet_text.specs.Mentions.{Entry}
use Rattle.sheet_text.specs.Taken.{Stated, IsTreeOfLines, take_on, taken_all}
use Rattle.sheet_text.specs.Tree.{paths_to}
use Rattle.sheet_text.proofs.Together.{tree_of_lines}
use Rattle.sheet_text.proofs.Trees.{below_push}
use Rattle.sheet_text.specs.Text.{entry_of}
use Rattle.sheet_text.specs.Kept.{wanted}
use Rattle.sheet_text.specs.Sheet.{and_then, entry_taken, is_skipped, line_states, line_taken, lines_taken, stated, statements, statements_from, states_want, text_taken, want_paths}

-- a line's table is that of what it states
line_folds : (table new : Table) (number : ℕ) (line : Octets) (rest : List Stated) → line_taken table number line ≡ Ok new → fold take_on (Ok table) (line_states number line ++ rest) ≡ fold take_on (Ok new) rest
line_folds table new number line rest e = go (is_skipped line) e
  where
    read : (o : Option Entry) → entry_taken table number line o ≡ Ok new → fold take_on (Ok table) (stated number o ++ rest) ≡ fold take_on (Ok new) rest
    read None h = cc
    read (Some entry) h = ap (λ (r : Result Table SheetFault). fold take_on r rest) h

    go : (b : Bool) → cond b (Ok table) (entry_taken table number line (entry_of line)) ≡ Ok new → fold take_on (Ok table) (cond b [] (stated number (entry_of line)) ++ rest) ≡ fold take_on (Ok new) rest
    go true h = ap (λ (r : Result Table SheetFault). fold take_on r rest) h
    go false h = read (entry_of line) h

lines_fold : (texts : List Octets) (number : ℕ) (table new : Table) → lines_taken table number texts ≡ Ok new → fold take_on (Ok table) (statements_from number texts) ≡ Ok new
lines_fold [] number table new e = e
lines_fold (line ∷ texts) number table new e = go (λ next h. lines_fold texts (number + 1) next new h) (line_taken table number line) refl e
  where
    go : ((next : Table) → lines_taken next (number + 1) texts ≡ Ok new → fold take_on (Ok next) (statements_from (number + 1) texts) ≡ Ok new)
        → (r : Result Table SheetFault) → line_taken table number line ≡ r → and_then r (λ next. lines_taken next (number + 1) texts) ≡ Ok new → fold take_on (Ok table) (line_states number line ++ statements_from (number + 1) texts) ≡ Ok new
    go rest (Ok next) is h = line_folds table next number line (statements_from (number + 1) texts) is ∙ rest next h
    go rest (Err fault) is h = cc

pub text_folds : (text : Octets) (table : Table) → text_taken text ≡ Ok table → taken_all (statements text) ≡ Ok table
text_folds text table e = lines_fold (lines text) 1 fresh table e

pub text_tree : (text : Octets) (table : Table) → text_taken text ≡ Ok table → IsTreeOfLines table (statements text)
text_tree text table e = tree_of_lines (statements text) table (text_folds text table e)

-- the wants of some lines and of those behind
pub wants_beside : (before behind : List Stated) → want_paths (before ++ behind) ≡ want_paths before ++ want_paths behind
wants_beside [] behind = refl
wants_beside (s ∷ before) behind = go (states_want s) (wants_beside before behind)
  where
    go : (b : Bool) → want_paths (before ++ behind) ≡ want_paths before ++ want_paths behind
        → map (λ (x : Stated). x.entry.path) (cond b (s ∷ filter states_want (before ++ behind)) (filter states_want (before ++ behind)))
        ≡ map (λ (x : Stated). x.entry.path) (cond b (s ∷ filter states_want before) (filter states_want before)) ++ want_paths behind
    go true rest = ap (λ (ps : List Path). s.entry.path ∷ ps) rest
    go false rest = rest

-- places stay where they are
pub paths_kept : (old new : Table) (places : List ℕ) → AreBelow (length old) places → ((place : ℕ) → place < length old → path_at new place ≡ path_at old place) → paths_to new places ≡ paths_to old places
paths_kept old new [] below kept = refl
paths_kept old new (place ∷ places) below kept =
    ap (λ (p : Path). p ∷ paths_to new places) (kept place (below 0 (omega arith)))
    ∙ ap (λ (ps : List Path). path_at old place ∷ ps) (paths_kept old new places (λ k less. below (suc k) (omega arith)) kept)

pub below_kept : (old new : Table) (places : List ℕ) → AreBelow (length old) places → length old ≤ length new → AreBelow (length new) places
below_kept old new places below grows = λ k less. omega (arith, below k less, grows)

-- one line's want more
pub wants_more : (old new : Table) (places added : List ℕ) (number place : ℕ) (entry : Entry) → AreBelow (length old) places → ((p : ℕ) → p < length old → path_at new p ≡ path_at old p) → path_at new place ≡ entry.path → added ≡ places ++ wanted entry.kind place
    → paths_to new added ≡ paths_to old places ++ want_paths (stated number (Some entry))
wants_more old new places added number place entry below kept is e =
    ap (paths_to new) e ∙ map-append (path_at new) places (wanted entry.kind place) ∙ ap (λ (ps : List Path). ps ++ paths_to new (wanted entry.kind place)) (paths_kept old new places below kept)
    ∙ ap (λ (ps : List Path). paths_to old places ++ ps) (go (is_leaf_kind entry.kind))
  where
    go : (b : Bool) → paths_to new (cond b (place ∷ []) []) ≡ map (λ (s : Stated). s.entry.path) (cond b (record { line = number; entry = entry } ∷ []) [])
    go true = ap (λ (p : Path). p ∷ []) is
    go false = refl

pub below_more : (old new : Table) (places added : List ℕ) (place : ℕ) (kind : NodeKind) → AreBelow (length old) places → length old ≤ length new → place < length new → added ≡ places ++ wanted kind place → AreBelow (length new) added
below_more old new places added place kind below grows within e = subst (AreBelow (length new)) (sym e) (go (is_leaf_kind kind))
  where
    go : (b : Bool) → AreBelow (length new) (places ++ cond b (place ∷ []) [])
    go true = below_push (length new) places place (below_kept old new places below grows) within
    go false = subst (AreBelow (length new)) (sym (append-nil places)) (below_kept old new places below grows)
