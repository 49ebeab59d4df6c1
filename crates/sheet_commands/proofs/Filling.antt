-- Slots of the leaves that lines fill, in the order of the wants.
use Rattle.std.proofs.Common.{◌≡◌, ◌∙◌, ◌≢◌, ℕ, zero, suc, ◌<◌, ◌+◌, Bool, true, false, cond, List, [], ◌∷◌, ◌++◌, length, map, filter_map, get_or, set, slice_get, refl, sym, ap, subst, arith, true≢false, not, length-append, length-set, Option, Some, None, option_map, option_and_then, inl, inr, nat_eq, eqb-true, eq-eqb, take}
use Rattle.std.specs.List.{position_from, list_any, range_with_len, cons_option, AllByRecursion, IsDistinct}
use Rattle.std.specs.Option.{is_some, option_to_list}
use Rattle.std.proofs.lemmas.Bool.{cases_eq, cases_order}
use Rattle.std.proofs.lemmas.List.{get_or-set_same, get_or-set_other, map-append, take_more}
use Rattle.std.proofs.lemmas.List.Elements.{filter_map-append}
use Rattle.std.proofs.lemmas.List.Folds.{list_any_at}
use Rattle.std.proofs.lemmas.List.FromFn.{fill_by_all}
use Rattle.std.proofs.lemmas.Map.Keys.{apart_from_distinct}
use Rattle.std.proofs.lemmas.Option.{slice_get_within, get_or_from_slice_get}
use Rattle.std.proofs.lemmas.Simd.{map-map}
use Rattle.sheet_commands.specs.declared.grants.Given.{Given}
use Rattle.sheet_commands.specs.declared.grants_fault.GrantsFault.TheVariants.{WrongPath, NoSuchNode}
use Rattle.sheet_commands.specs.declared.grants.Slots.{Slots}
use Rattle.sheet_text.specs.Views.{SheetValue}
use Rattle.sheet_text.specs.Paths.{same_path}
use Rattle.sheet_text.specs.Sheet.{is_skipped}
use Rattle.sheet_commands.specs.Grants.{grant_fault, grants_line_fault, is_path, line_grants, line_of_leaf, lines_by_leaf, names_no_node, read_grant_fault}
use Rattle.sheet_text.specs.Text.{GrantLine, grant_of}
use Rattle.sheet_commands.specs.Slots.{Filled, given_by}
use Rattle.sheet_text.proofs.Listing.{any_is_some}

found_from : (test : ℕ → Bool) (i : ℕ) (xs : List ℕ) (k : ℕ) → position_from test i xs ≡ Some k → (j : ℕ) × (k ≡ i + j) × (j < length xs) × (test (get_or xs j 0) ≡ true)
found_from test i [] k e = cc
found_from test i (x ∷ xs) k e = go (test x) refl (λ h. found_from test (i + 1) xs k h) e
  where
    go : (b : Bool) → test x ≡ b → (position_from test (i + 1) xs ≡ Some k → (j : ℕ) × (k ≡ i + 1 + j) × (j < length xs) × (test (get_or xs j 0) ≡ true))
        → cond b (Some i) (position_from test (i + 1) xs) ≡ Some k → (j : ℕ) × (k ≡ i + j) × (j < suc (length xs)) × (test (get_or (x ∷ xs) j 0) ≡ true)
    go true is rec h = (0, let same : i ≡ k = cc in omega arith, omega arith, is)
    go false is rec h = let rest = rec h in (suc rest.0, omega (arith, rest.1), omega (arith, rest.2), rest.3)

-- what stands at the place that is found
pub found : (leaf : ℕ) (wants : List ℕ) (place : ℕ) → position_from (nat_eq leaf) 0 wants ≡ Some place → (place < length wants) × (get_or wants place 0 ≡ leaf)
found leaf wants place e =
    let at = found_from (nat_eq leaf) 0 wants place e in
    let same : at.0 ≡ place = omega (arith, at.1) in
    (omega (arith, at.2), sym (eqb-true leaf (get_or wants place 0) (ap (λ (n : ℕ). nat_eq leaf (get_or wants n 0)) (sym same) ∙ at.3)))

-- a want that is like no other is found at its own place
pub first_place : (wants : List ℕ) (place leaf : ℕ) → IsDistinct nat_eq wants → slice_get wants place ≡ Some leaf → position_from (nat_eq leaf) 0 wants ≡ Some place
first_place wants place leaf distinct e = go (position_from (nat_eq leaf) 0 wants) refl
  where
    within : place < length wants
    within = slice_get_within wants place leaf e

    is : get_or wants place 0 ≡ leaf
    is = get_or_from_slice_get wants place leaf 0 e

    listed : list_any (nat_eq leaf) wants ≡ true
    listed = list_any_at (nat_eq leaf) wants place 0 within (eq-eqb leaf (get_or wants place 0) (sym is))

    go : (o : Option ℕ) → position_from (nat_eq leaf) 0 wants ≡ o → position_from (nat_eq leaf) 0 wants ≡ Some place
    go None none = absurd (true≢false (sym listed ∙ sym (any_is_some (nat_eq leaf) 0 wants) ∙ ap is_some none))
    go (Some k) some =
        let at = found leaf wants k some in
        let alike : get_or wants k 0 ≡ get_or wants place 0 = at.1 ∙ sym is in
        some
        ∙ ap Some
        (elim (cases_order k place) [
          | inl same ↦ same
          | inr apart ↦ elim apart [
            | inl before ↦ absurd (true≢false (sym (eq-eqb (get_or wants k 0) (get_or wants place 0) alike) ∙ apart_from_distinct nat_eq wants k place 0 distinct before within))
            | inr past ↦ absurd (true≢false (sym (eq-eqb (get_or wants place 0) (get_or wants k 0) (sym alike)) ∙ apart_from_distinct nat_eq wants place k 0 distinct past at.0))
          ]
        ])

last_line : (lines : List GrantLine) (line : GrantLine) → slice_get (lines ++ line ∷ []) (length lines) ≡ Some line
last_line [] line = refl
last_line (x ∷ lines) line = last_line lines line

other_line : (lines : List GrantLine) (line : GrantLine) (k : ℕ) → k ≢ length lines → slice_get lines k ≡ slice_get (lines ++ line ∷ []) k
other_line [] line zero ne = absurd (ne refl)
other_line [] line (suc k) ne = refl
other_line (x ∷ lines) line zero ne = refl
other_line (x ∷ lines) line (suc k) ne = other_line lines line k (λ e. ne (ap suc e))

-- one line more fills the slot of its leaf
pub filled_more : (sheet : SheetValue) (slots : List (Option Given)) (lines : List GrantLine) (line : GrantLine) (leaf : ℕ) → length slots ≡ length sheet.leaves → leaf < length sheet.leaves
    → position_from (nat_eq leaf) 0 sheet.wants ≡ Some (length lines) → ((j : ℕ) (d : Option Given) → j < length sheet.leaves → get_or slots j d ≡ option_map (given_by sheet) (line_of_leaf sheet lines j))
    → (j : ℕ) (d : Option Given) → j < length sheet.leaves → get_or (set slots leaf (Some (given_by sheet line))) j d ≡ option_map (given_by sheet) (line_of_leaf sheet (lines ++ line ∷ []) j)
filled_more sheet slots lines line leaf size within first are j d less = elim (cases_eq j leaf) [
  | inl same ↦
      ap (λ (n : ℕ). get_or (set slots leaf (Some (given_by sheet line))) n d) same
      ∙ get_or-set_same slots leaf (Some (given_by sheet line)) d (omega arith)
      ∙ sym (ap (λ (n : ℕ). option_map (given_by sheet) (line_of_leaf sheet (lines ++ line ∷ []) n)) same
      ∙ ap (λ (o : Option ℕ). option_map (given_by sheet) (option_and_then (slice_get (lines ++ line ∷ [])) o)) first
      ∙ ap (option_map (given_by sheet)) (last_line lines line))
  | inr apart ↦
      get_or-set_other slots leaf j (Some (given_by sheet line)) d apart ∙ are j d less
      ∙ ap (option_map (given_by sheet)) (go (position_from (nat_eq j) 0 sheet.wants) refl apart)
]
  where
    go : (o : Option ℕ) → position_from (nat_eq j) 0 sheet.wants ≡ o → (j ≡ leaf → ⊥) → option_and_then (slice_get lines) o ≡ option_and_then (slice_get (lines ++ line ∷ [])) o
    go None e apart = refl
    go (Some k) e apart = other_line lines line k (λ same. apart (sym (found j sheet.wants k e).1 ∙ ap (λ (n : ℕ). get_or sheet.wants n 0) same ∙ (found leaf sheet.wants (length lines) first).1))

-- the slots before any line
pub filled_none : (sheet : SheetValue) (leaf : ℕ) → None ≡ option_map (given_by sheet) (line_of_leaf sheet [] leaf)
filled_none sheet leaf = go (position_from (nat_eq leaf) 0 sheet.wants)
  where
    go : (o : Option ℕ) → None ≡ option_map (given_by sheet) (option_and_then (slice_get []) o)
    go None = refl
    go (Some k) = refl

given_of : (give : GrantLine → Given) (f : ℕ → Option GrantLine) (xs : List ℕ) → filter_map (λ (slot : Option Given). slot) (map (λ x. option_map give (f x)) xs) ≡ map give (filter_map f xs)
given_of give f [] = refl
given_of give f (x ∷ xs) = ap (cons_option (option_map give (f x))) (given_of give f xs) ∙ one (f x)
  where
    one : (o : Option GrantLine) → cons_option (option_map give o) (map give (filter_map f xs)) ≡ map give (cons_option o (filter_map f xs))
    one None = refl
    one (Some line) = refl

-- what the slots hold at the end
pub collected : {Y : Type 0} (part : Given → Y) (sheet : SheetValue) (slots : List (Option Given)) (lines : List GrantLine) → length slots ≡ length sheet.leaves
    → ((j : ℕ) (d : Option Given) → j < length sheet.leaves → get_or slots j d ≡ option_map (given_by sheet) (line_of_leaf sheet lines j))
    → map part (filter_map (λ (slot : Option Given). slot) slots) ≡ map (λ line. part (given_by sheet line)) (lines_by_leaf sheet lines)
collected part sheet slots lines size are =
    ap (λ (ss : List (Option Given)). map part (filter_map (λ (slot : Option Given). slot) ss))
    (fill_by_all (λ leaf. option_map (given_by sheet) (line_of_leaf sheet lines leaf)) slots (length sheet.leaves) None size (λ k less. are k None less))
    ∙ ap (map part) (given_of (given_by sheet) (line_of_leaf sheet lines) (range_with_len 0 (length sheet.leaves)))
    ∙ map-map part (given_by sheet) (lines_by_leaf sheet lines)

-- one slot more
pub slot_more : {Y : Type 0} (part : Given → Y) (slots : List (Option Given)) (i : ℕ) (slot d : Option Given) → i < length slots → get_or slots i d ≡ slot
    → map part (filter_map (λ (s : Option Given). s) (take (i + 1) slots)) ≡ map part (filter_map (λ (s : Option Given). s) (take i slots)) ++ map part (cons_option slot [])
slot_more part slots i slot d l is =
    ap (λ (ss : List (Option Given)). map part (filter_map (λ (s : Option Given). s) ss)) (take_more slots i d l ∙ ap (λ (s : Option Given). take i slots ++ s ∷ []) is)
    ∙ ap (map part) (filter_map-append (λ (s : Option Given). s) (take i slots) (slot ∷ []))
    ∙ map-append part (filter_map (λ (s : Option Given). s) (take i slots)) (cons_option slot [])

-- the want of a place has another path
pub wrong_path : (sheet : SheetValue) (place number leaf : ℕ) (line : GrantLine) → slice_get sheet.wants place ≡ Some leaf → same_path (get_or sheet.leaves leaf []) line.path ≡ false → grant_fault sheet place number line ≡ Some (WrongPath number)
wrong_path sheet place number leaf line e other =
    ap (λ (o : Option ℕ). cond (not (is_path (option_map (λ n. get_or sheet.leaves n []) o) line.path)) (Some (WrongPath number)) (cond (names_no_node sheet line.node) (Some (NoSuchNode number)) None)) e
    ∙ ap (λ (b : Bool). cond (not b) (Some (WrongPath number)) (cond (names_no_node sheet line.node) (Some (NoSuchNode number)) None)) other

-- or that of the line, and then only the node decides
pub right_path : (sheet : SheetValue) (place number leaf : ℕ) (line : GrantLine) → slice_get sheet.wants place ≡ Some leaf → same_path (get_or sheet.leaves leaf []) line.path ≡ true → grant_fault sheet place number line ≡ cond (names_no_node sheet line.node) (Some (NoSuchNode number)) None
right_path sheet place number leaf line e same =
    ap (λ (o : Option ℕ). cond (not (is_path (option_map (λ n. get_or sheet.leaves n []) o) line.path)) (Some (WrongPath number)) (cond (names_no_node sheet line.node) (Some (NoSuchNode number)) None)) e
    ∙ ap (λ (b : Bool). cond (not b) (Some (WrongPath number)) (cond (names_no_node sheet line.node) (Some (NoSuchNode number)) None)) same

pub within_leaves : (leaves place leaf : ℕ) (wants : List ℕ) → AllByRecursion (λ n. n < leaves) wants → slice_get wants place ≡ Some leaf → leaf < leaves
within_leaves leaves place leaf [] all e = cc
within_leaves leaves zero leaf (want ∷ wants) all e = let same : want ≡ leaf = cc in omega (arith, all.0)
within_leaves leaves (suc place) leaf (want ∷ wants) all e = within_leaves leaves place leaf wants all.1 e

-- what a line gives that is read
pub one_line : (text : List ℕ) (line : GrantLine) → is_skipped text ≡ false → grant_of text ≡ Some line → line_grants text ≡ line ∷ []
one_line text line kept read = ap (λ (b : Bool). cond b [] (option_to_list (grant_of text))) kept ∙ ap option_to_list read

pub line_judged : (sheet : SheetValue) (place number : ℕ) (text : List ℕ) (line : GrantLine) → is_skipped text ≡ false → grant_of text ≡ Some line → grants_line_fault sheet place number text ≡ grant_fault sheet place number line
line_judged sheet place number text line kept read =
    ap (λ (b : Bool). cond b None (read_grant_fault sheet place number text (grant_of text))) kept ∙ ap (read_grant_fault sheet place number text) read

pub filled_line : {A : Type 0} (sheet : SheetValue) (slots now : Slots A) (lines : List GrantLine) (text : List ℕ) (line : GrantLine) (leaf : ℕ) → Filled sheet slots lines → line_grants text ≡ line ∷ [] → leaf < length sheet.leaves
    → position_from (nat_eq leaf) 0 sheet.wants ≡ Some (length lines) → now.lines ≡ slots.lines + 1 → now.slots.items ≡ set slots.slots.items leaf (Some (given_by sheet line)) → Filled sheet now (lines ++ line_grants text)
filled_line {A} sheet slots now lines text line leaf filled one within first counted written = subst (λ (more : List GrantLine). Filled {A = A} sheet now (lines ++ more)) (sym one) (record {
  lines_are = omega (arith, counted, filled.lines_are, length-append lines (line ∷ []));
  slots_length = ap length written ∙ length-set slots.slots.items leaf (Some (given_by sheet line)) ∙ filled.slots_length;
  slots_are = λ j d less. ap (λ (ss : List (Option Given)). get_or ss j d) written ∙ filled_more sheet slots.slots.items lines line leaf filled.slots_length within first filled.slots_are j d less;
})
