-- What is mentioned is what is stated or lies above.
use Rattle.std.proofs.Common.{◌≡◌, ◌∙◌, ℕ, ◌||◌, ◌&&◌, Bool, true, false, cond, List, [], ◌∷◌, ◌++◌, map, refl, sym, ap, bytes_eq}
use Rattle.std.specs.List.{fold, list_any}
use Rattle.std.proofs.lemmas.Bool.{or_right, true≢false}
use Rattle.std.proofs.lemmas.List.Folds.{list_any-append}
use Rattle.sheet_text.specs.Paths.{Path, same_path, is_within, is_among, NoneTwice, way_to}
use Rattle.sheet_text.specs.Mentions.{mention, mention_all, mentions, AreStatedOrAbove}
use Rattle.sheet_text.proofs.Within.{is_same, swapped}
use Rattle.sheet_text.proofs.Walked.{or_turned}
use Rattle.sheet_text.proofs.Tables.{or_none}

among_map : (m n : List ℕ) (q : Path) (ws : List Path) → list_any (same_path (m ∷ q)) (map (λ rest. n ∷ rest) ws) ≡ (bytes_eq m n && is_among ws q)
among_map m n q [] = go (bytes_eq m n)
  where
    go : (b : Bool) → false ≡ (b && false)
    go true = refl
    go false = refl
among_map m n q (w ∷ ws) = ap (λ (b : Bool). (bytes_eq m n && same_path q w) || b) (among_map m n q ws) ∙ go (bytes_eq m n)
  where
    go : (b : Bool) → ((b && same_path q w) || (b && is_among ws q)) ≡ (b && (same_path q w || is_among ws q))
    go true = refl
    go false = refl

pub among_way : (p q : Path) → is_among (way_to p) q ≡ is_within q p
among_way [] [] = refl
among_way [] (m ∷ q) = refl
among_way (n ∷ p) [] = refl
among_way (n ∷ p) (m ∷ q) = among_map m n q (way_to p) ∙ ap (λ (b : Bool). bytes_eq m n && b) (among_way p q)

among_mention : (seen : List Path) (p q : Path) → is_among (mention seen p) q ≡ (is_among seen q || same_path q p)
among_mention seen p q = go (is_among seen p) refl (same_path q p) refl
  where
    go : (b : Bool) → is_among seen p ≡ b → (d : Bool) → same_path q p ≡ d → is_among (cond b seen (seen ++ p ∷ [])) q ≡ (is_among seen q || d)
    go true e true f = let listed : is_among seen q ≡ true = ap (is_among seen) (is_same q p f) ∙ e in listed ∙ sym (or_right (is_among seen q) true refl)
    go true e false f = sym (or_none (is_among seen q))
    go false e d f = list_any-append (same_path q) seen (p ∷ []) ∙ ap (λ (b : Bool). is_among seen q || b) (or_none (same_path q p) ∙ f)

pub among_fold : (seen ps : List Path) (q : Path) → is_among (fold mention seen ps) q ≡ (is_among seen q || is_among ps q)
among_fold seen [] q = sym (or_none (is_among seen q))
among_fold seen (p ∷ ps) q = among_fold (mention seen p) ps q ∙ ap (λ (b : Bool). b || is_among ps q) (among_mention seen p q) ∙ or_turned (is_among seen q) (same_path q p) (is_among ps q)

among_all : (seen stated : List Path) (q : Path) → is_among (fold mention_all seen stated) q ≡ (is_among seen q || list_any (is_within q) stated)
among_all seen [] q = sym (or_none (is_among seen q))
among_all seen (p ∷ stated) q =
    among_all (mention_all seen p) stated q
    ∙ ap (λ (b : Bool). b || list_any (is_within q) stated) (among_fold seen (way_to p) q ∙ ap (λ (b : Bool). is_among seen q || b) (among_way p q))
    ∙ or_turned (is_among seen q) (is_within q p) (list_any (is_within q) stated)

or_parts_false : (a b : Bool) → (a || b) ≡ false → (a ≡ false) × (b ≡ false)
or_parts_false true b e = absurd (true≢false e)
or_parts_false false b e = (refl, e)

pub once_push : (seen : List Path) (p : Path) → NoneTwice seen → is_among seen p ≡ false → NoneTwice (seen ++ p ∷ [])
once_push [] p once e = (refl, tt)
once_push (x ∷ seen) p once e =
    let both = or_parts_false (same_path p x) (is_among seen p) e in (
      list_any-append (same_path x) seen (p ∷ []) ∙ ap (λ (b : Bool). b || (same_path x p || false)) once.0 ∙ or_none (same_path x p) ∙ swapped x p ∙ both.0,
      once_push seen p once.1 both.1,
    )

once_mention : (seen : List Path) (p : Path) → NoneTwice seen → NoneTwice (mention seen p)
once_mention seen p once = go (is_among seen p) refl
  where
    go : (b : Bool) → is_among seen p ≡ b → NoneTwice (cond b seen (seen ++ p ∷ []))
    go true e = once
    go false e = once_push seen p once e

pub once_fold : (seen ps : List Path) → NoneTwice seen → NoneTwice (fold mention seen ps)
once_fold seen [] once = once
once_fold seen (p ∷ ps) once = once_fold (mention seen p) ps (once_mention seen p once)

once_all : (seen stated : List Path) → NoneTwice seen → NoneTwice (fold mention_all seen stated)
once_all seen [] once = once
once_all seen (p ∷ stated) once = once_all (mention_all seen p) stated (once_fold seen (way_to p) once)

root_only : (q : Path) → is_among ([] ∷ []) q ≡ is_within q []
root_only [] = refl
root_only (m ∷ q) = refl

pub stated_or_above : (stated : List Path) → AreStatedOrAbove stated (mentions stated)
stated_or_above stated = record {
  once = once_all ([] ∷ []) stated (refl, tt);
  all = λ q. among_all ([] ∷ []) stated q ∙ ap (λ (b : Bool). b || list_any (is_within q) stated) (root_only q);
}
