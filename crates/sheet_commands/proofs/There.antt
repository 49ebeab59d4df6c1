-- A first flaw names leaves and nodes that are there.
use Rattle.std.proofs.Common.{◌≡◌, ◌<◌, ◌≤◌, ◌+◌, ℕ, List, Option, length, slice_index, sym, subst, arith, inl, inr}
use Rattle.std.proofs.lemmas.Bool.{cases_lt}
use Rattle.std.proofs.lemmas.List.{get_or_past}
use Rattle.limit_tree.specs.Outline.{limits}
use Rattle.grant_certificate.specs.Flaws.{HasLengths, IsFirstFlaw}
use Rattle.grant_certificate.specs.declared.flaw.Flaw.{Flaw}
use Rattle.grant_certificate.specs.declared.flaw.Flaw.TheVariants.{WrongLength, OverWant, OverLimit, NoNode, NotAbove, NotFull, TooGreat, UnderFloor}
use Rattle.sheet_text.specs.Views.{SheetValue}
use Rattle.sheet_commands.specs.Checking.{IsGranted, IsThere}
use Rattle.limit_tree.proofs.Looks.{branch_number}

granted : (sheet : SheetValue) (g : List ℕ) (c : List (Option ℕ)) (leaf : ℕ) → length sheet.leaves ≡ length (limits sheet.outline).wants → HasLengths (limits sheet.outline) g c → leaf < length g → IsGranted sheet g leaf
granted sheet g c leaf same lengths less = (less, omega (arith, lengths.0))

-- a grant that is too great is one
greater_inside : (g : List ℕ) (i j : ℕ) → slice_index g i + 2 ≤ slice_index g j → j < length g
greater_inside g i j great = elim (cases_lt j (length g)) [
  | inl inside ↦ inside
  | inr past ↦ let none = get_or_past g j 0 past in absurd (omega arith)
]

pub first_flaw_there : (sheet : SheetValue) (g : List ℕ) (c : List (Option ℕ)) (flaw : Flaw) → length sheet.leaves ≡ length (limits sheet.outline).wants → IsFirstFlaw (limits sheet.outline) g c flaw → IsThere sheet g flaw
first_flaw_there sheet g c WrongLength same is = tt
first_flaw_there sheet g c (OverWant leaf) same is = granted sheet g c leaf same is.0 is.1
first_flaw_there sheet g c (UnderFloor leaf) same is = granted sheet g c leaf same is.0 is.2
first_flaw_there sheet g c (OverLimit node) same is = (branch_number sheet.outline node is.3.0 is.3.2, is.1)
first_flaw_there sheet g c (NoNode leaf) same is =
    let flaw = is.2.4 in
    granted sheet g c leaf same is.0 (subst (λ (i : ℕ). i < length g) (sym flaw.0) is.2.1)
first_flaw_there sheet g c (NotAbove leaf node) same is =
    let flaw = is.2.4 in
    (granted sheet g c leaf same is.0 (subst (λ (i : ℕ). i < length g) (sym flaw.0) is.2.1), branch_number sheet.outline node flaw.1 flaw.2.1)
first_flaw_there sheet g c (NotFull leaf node) same is =
    let flaw = is.2.4 in
    (granted sheet g c leaf same is.0 (subst (λ (i : ℕ). i < length g) (sym flaw.0) is.2.1), branch_number sheet.outline node flaw.1 flaw.2.1)
first_flaw_there sheet g c (TooGreat leaf other) same is =
    let flaw = is.2.4 in (
      granted sheet g c leaf same is.0 (subst (λ (i : ℕ). i < length g) (sym flaw.0) is.2.1),
      granted sheet g c other same is.0 (greater_inside g is.2.0 other flaw.6.1.0),
    )
