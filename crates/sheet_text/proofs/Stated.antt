-- What lines state that have no want above their paths and are not too deep.
use Rattle.std.proofs.Common.{◌≡◌, ◌∙◌, ℕ, ◌≤◌, true, List, [], ◌∷◌, length, refl, sym, arith, inl, inr}
use Rattle.std.specs.List.{list_any}
use Rattle.std.proofs.lemmas.Bool.{or_cases, or_left, or_right, true≢false}
use Rattle.limit_tree.specs.declared.place.NodeKind.{NodeKind}
use Rattle.sheet_text.specs.Paths.{Path, is_within, Each}
use Rattle.sheet_text.specs.Forest.{outline_at, paths_at}
use Rattle.sheet_text.specs.TreeLaw.{AreMentions, IsTreeOf, kids_in}
use Rattle.sheet_text.specs.Mentions.{mentions, IsBelowBranches}
use Rattle.sheet_text.proofs.Within.{within_trans, within_length}
use Rattle.sheet_text.proofs.Mentioned.{stated_or_above}
use Rattle.sheet_text.proofs.WholeTrees.{tree_is}

any_within : (P : Path → Type 0) (q : Path) (stated : List Path) → Each P stated → list_any (is_within q) stated ≡ true → (p : Path) × P p × (is_within q p ≡ true)
any_within P q [] each e = absurd (true≢false (sym e))
any_within P q (s ∷ stated) each e = elim (or_cases (is_within q s) (list_any (is_within q) stated) e) [
  | inl here ↦ (s, each.0, here)
  | inr further ↦ any_within P q stated each.1 further
]

any_above : (front q : Path) (stated : List Path) → is_within front q ≡ true → list_any (is_within q) stated ≡ true → list_any (is_within front) stated ≡ true
any_above front q [] w e = e
any_above front q (s ∷ stated) w e = elim (or_cases (is_within q s) (list_any (is_within q) stated) e) [
  | inl here ↦ or_left (is_within front s) (list_any (is_within front) stated) (within_trans front q s w here)
  | inr further ↦ or_right (is_within front s) (list_any (is_within front) stated) (any_above front q stated w further)
]

pub are_mentions : (kind : Path → NodeKind) (stated : List Path) (depth : ℕ) → Each (λ p. length p ≤ depth) stated → Each (IsBelowBranches kind) stated → AreMentions kind (mentions stated) depth
are_mentions kind stated depth short below = record {
  rooted = (stated_or_above stated).all [] ∙ refl;
  apart = (stated_or_above stated).once;
  above = λ front path w e. (stated_or_above stated).all front ∙ elim (or_cases (is_within path []) (list_any (is_within path) stated) (sym ((stated_or_above stated).all path) ∙ e)) [
    | inl root ↦ or_left (is_within front []) (list_any (is_within front) stated) (within_trans front path [] w root)
    | inr under ↦ or_right (is_within front []) (list_any (is_within front) stated) (any_above front path stated w under)
  ];
  branches = λ front path w l e. elim (or_cases (is_within path []) (list_any (is_within path) stated) (sym ((stated_or_above stated).all path) ∙ e)) [
    | inl root ↦ absurd (omega (arith, l, within_length path [] root))
    | inr under ↦ let found = any_within (IsBelowBranches kind) path stated below under in found.1 front (within_trans front path found.0 w found.2) (omega (arith, l, within_length path found.0 found.2))
  ];
  within = λ path e. elim (or_cases (is_within path []) (list_any (is_within path) stated) (sym ((stated_or_above stated).all path) ∙ e)) [
    | inl root ↦ omega (arith, within_length path [] root)
    | inr under ↦ let found = any_within (λ p. length p ≤ depth) path stated short under in omega (arith, found.1, within_length path found.0 found.2)
  ];
}

pub tree_of_stated : (kind : Path → NodeKind) (stated : List Path) (depth : ℕ) → Each (λ p. length p ≤ depth) stated → Each (IsBelowBranches kind) stated → IsTreeOf kind (mentions stated) (outline_at kind (kids_in (mentions stated)) depth []) (paths_at kind (kids_in (mentions stated)) depth [])
tree_of_stated kind stated depth short below = tree_is kind (mentions stated) depth (are_mentions kind stated depth short below)
