-- The output of a program for grants that it checked.
use Rattle.std.specs.Prelude.{◌≡◌, ◌≢◌, ◌<◌, ℕ, List, [], ◌∷◌, ◌++◌, Some, None, codes, length, slice_index, slice_index_or, unwrap_or}
use Rattle.std.specs.Fmt.{decimal}
use Rattle.std.specs.Option.{option_and_then}
use Rattle.limit_tree.specs.Sharing.{IsWanted, sum_over}
use Rattle.limit_tree.specs.Outline.{limits, leaves_under}
use Rattle.grant_certificate.specs.Flaws.{IsVerdict}
use Rattle.grant_certificate.specs.declared.flaw.Flaw.{Flaw}
use Rattle.grant_certificate.specs.declared.flaw.Flaw.TheVariants.{WrongLength, OverWant, OverLimit, NoNode, NotAbove, NotFull, TooGreat, UnderFloor}
use Rattle.grant_certificate.specs.declared.flaw.Verdict.{Verdict}
use Rattle.grant_certificate.specs.declared.flaw.Verdict.TheVariants.{Yes, No}
use Rattle.sheet_commands.specs.Grants.{grants_fault, grants_in, entries_in}
use Rattle.sheet_text.specs.Paths.{text_of, written}
use Rattle.sheet_text.specs.Views.{SheetValue, IsSheetOf}
use Rattle.sheet_commands.specs.declared.grants_fault.GrantsFault.{GrantsFault}
use Rattle.sheet_commands.specs.declared.grants_fault.GrantsFault.TheVariants.{Memory}

abbrev pub leaf_word : SheetValue → ℕ → List ℕ
leaf_word sheet leaf = codes " " ++ text_of (slice_index_or sheet.leaves leaf [])

abbrev pub node_word : SheetValue → ℕ → List ℕ
node_word sheet node = codes " " ++ written (slice_index_or sheet.paths node [])

abbrev pub number_word : ℕ → List ℕ
number_word n = codes " " ++ decimal n

-- the number, the name and the fields of a flaw
abbrev pub flaw_words : SheetValue → List ℕ → Flaw → List ℕ
flaw_words sheet g WrongLength = codes "1 WrongLength"
flaw_words sheet g (OverWant leaf) =
    codes "2 OverWant" ++ leaf_word sheet leaf ++ number_word (slice_index g leaf)
    ++ number_word (slice_index (limits sheet.outline).wants leaf)
flaw_words sheet g (OverLimit node) =
    codes "3 OverLimit" ++ node_word sheet node
    ++ number_word (sum_over (leaves_under sheet.outline node) g)
    ++ number_word
    (unwrap_or (option_and_then (λ b. b.limit) ((limits sheet.outline).branch node)) 0)
flaw_words sheet g (NoNode leaf) = codes "4 NoNode" ++ leaf_word sheet leaf
flaw_words sheet g (NotAbove leaf node) =
    codes "5 NotAbove" ++ leaf_word sheet leaf ++ node_word sheet node
flaw_words sheet g (NotFull leaf node) =
    codes "6 NotFull" ++ leaf_word sheet leaf ++ node_word sheet node
flaw_words sheet g (TooGreat leaf other) =
    codes "7 TooGreat" ++ leaf_word sheet leaf ++ number_word (slice_index g leaf)
    ++ leaf_word sheet other ++ number_word (slice_index g other)
flaw_words sheet g (UnderFloor leaf) =
    codes "8 UnderFloor" ++ leaf_word sheet leaf ++ number_word (slice_index g leaf)
    ++ number_word (slice_index (limits sheet.outline).floors leaf)

-- `yes`, or `no` with the flaw
abbrev pub verdict_text : SheetValue → List ℕ → Verdict → List ℕ
verdict_text sheet g Yes = codes "yes\n"
verdict_text sheet g (No flaw) = codes "no " ++ flaw_words sheet g flaw ++ 10 ∷ []

-- the leaf has a grant and a want
abbrev pub IsGranted : SheetValue → List ℕ → ℕ → Type 0
IsGranted sheet g leaf = (leaf < length g) × (leaf < length sheet.leaves)

-- the leaves and nodes of the flaw are there
abbrev pub IsThere : SheetValue → List ℕ → Flaw → Type 0
IsThere sheet g WrongLength = Unit {0}
IsThere sheet g (OverWant leaf) = IsGranted sheet g leaf
IsThere sheet g (OverLimit node) = (node < length sheet.outline) × IsWanted (limits sheet.outline) g
IsThere sheet g (NoNode leaf) = IsGranted sheet g leaf
IsThere sheet g (NotAbove leaf node) = IsGranted sheet g leaf × (node < length sheet.outline)
IsThere sheet g (NotFull leaf node) = IsGranted sheet g leaf × (node < length sheet.outline)
IsThere sheet g (TooGreat leaf other) = IsGranted sheet g leaf × IsGranted sheet g other
IsThere sheet g (UnderFloor leaf) = IsGranted sheet g leaf

-- The verdict on the grants of one text within the sheet of another, and its line.
pub record IsCheckOf (sheet_text grants_text : List ℕ) (verdict : Verdict)
    (printed : List ℕ) : Type 0 where
  pub sheet : SheetValue
  pub is_sheet : IsSheetOf sheet_text sheet
  pub sound : grants_fault sheet grants_text ≡ None
  pub judged : IsVerdict (limits sheet.outline) (grants_in sheet grants_text)
      (entries_in sheet grants_text) verdict
  pub prints : printed ≡ verdict_text sheet (grants_in sheet grants_text) verdict

-- the fault is that of the grants of one text for the sheet of another, and not lack of memory
pub record IsGrantsFaultOf (sheet_text grants_text : List ℕ) (fault : GrantsFault) : Type 0 where
  pub sheet : SheetValue
  pub is_sheet : IsSheetOf sheet_text sheet
  pub no_memory : fault ≢ Memory
  pub faulty : grants_fault sheet grants_text ≡ Some fault
