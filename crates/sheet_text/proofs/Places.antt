-- The places of what was mentioned.
use Rattle.std.proofs.Common.{◌≡◌, ◌∙◌, ℕ, ◌<◌, ◌≤◌, Bool, true, false, cond, List, [], ◌∷◌, ◌++◌, length, get_or, refl, sym, ap, arith, length-append}
use Rattle.std.specs.List.{fold}
use Rattle.std.proofs.lemmas.List.{get_or_append_left, map-append}
use Rattle.sheet_text.specs.Paths.{Path, way_to}
use Rattle.sheet_text.specs.Table.{Mention, Table, is_mentioned, mention, mention_all, noted, path_at, paths_in, unstated}
use Rattle.sheet_text.specs.Mentions.{Entry}
use Rattle.sheet_text.proofs.Tables.{count}
use Rattle.sheet_text.proofs.Taken.{after, paths_noted}

-- what was there stays where it was
pub record AreKept (old new : Table) : Type 0 where
  pub grows : length old ≤ length new
  pub kept : (place : ℕ) → place < length old → path_at new place ≡ path_at old place

kept_push : (t : Table) (p : Path) → AreKept t (t ++ unstated p ∷ [])
kept_push t p = record {
  grows = omega (arith, length-append t (unstated p ∷ []));
  kept = λ place l.
      ap (λ (ps : List Path). get_or ps place []) (map-append (λ (m : Mention). m.path) t (unstated p ∷ []))
      ∙ get_or_append_left (paths_in t) (p ∷ []) [] place (omega (arith, l, count t));
}

kept_mention : (t : Table) (p : Path) → AreKept t (mention t p)
kept_mention t p = go (is_mentioned t p)
  where
    go : (b : Bool) → AreKept t (cond b t (t ++ unstated p ∷ []))
    go true = record { grows = omega arith; kept = λ place l. refl }
    go false = kept_push t p

kept_on : (a b c : Table) → AreKept a b → AreKept b c → AreKept a c
kept_on a b c first then_on = record {
  grows = omega (arith, first.grows, then_on.grows);
  kept = λ place l. then_on.kept place (omega (arith, l, first.grows)) ∙ first.kept place l;
}

kept_fold : (ps : List Path) (t : Table) → AreKept t (fold mention t ps)
kept_fold [] t = record { grows = omega arith; kept = λ place l. refl }
kept_fold (p ∷ ps) t = kept_on t (mention t p) (fold mention (mention t p) ps) (kept_mention t p) (kept_fold ps (mention t p))

pub noted_count : (line : ℕ) (e : Entry) (t : Table) → length (noted line e t) ≡ length t
noted_count line e t = sym (count (noted line e t)) ∙ ap length (paths_noted line e t) ∙ count t

pub noted_path : (line : ℕ) (e : Entry) (t : Table) (place : ℕ) → path_at (noted line e t) place ≡ path_at t place
noted_path line e t place = ap (λ (ps : List Path). get_or ps place []) (paths_noted line e t)

kept_noted : (line : ℕ) (e : Entry) (t : Table) → AreKept t (noted line e t)
kept_noted line e t = record { grows = omega (arith, noted_count line e t); kept = λ place l. noted_path line e t place }

-- what a line leaves where it was
pub kept_after : (t : Table) (line : ℕ) (e : Entry) → AreKept t (after t line e)
kept_after t line e = kept_on t (mention_all t e.path) (after t line e) (kept_fold (way_to e.path) t) (kept_noted line e (mention_all t e.path))
