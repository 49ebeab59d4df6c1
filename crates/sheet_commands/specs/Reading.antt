-- The result of checking the grants of an end, within a sheet and for a sheet's text.
use Rattle.std.specs.Prelude.{◌≡◌, ◌≢◌, ◌≤◌, ◌<◌, ℕ, Bool, List, Option, IfSome, None, length, true}
use Rattle.sheet_text.specs.Sheet.{sheet_fault, IsSheetFaultOf}
use Rattle.sheet_text.specs.Views.{SheetValue, IsSheetOf}
use Rattle.text_io.specs.declared.fault.TextFault.TheVariants.{TooLong, ReadFault, WriteFault, Memory}
use Rattle.text_io.specs.declared.read.TheConstants.{MAX_TEXT}
use Rattle.sheet_commands.specs.Checking.{IsGrantsFaultOf}
use Rattle.sheet_commands.specs.CheckUsers.{IsCheckBy}
use Rattle.sheet_commands.specs.declared.check_fault.CheckFault.{CheckFault}
use Rattle.sheet_commands.specs.declared.check_fault.CheckFault.TheVariants.{SheetText, Sheet, GrantsText, Grants, Text}
use Rattle.sheet_commands.specs.declared.grants_fault.GrantsFault.TheVariants.{Memory as NoGrantsMemory}
use Rattle.sheet_commands.specs.declared.sheet_verdict.SheetVerdict.{SheetVerdict}
use Rattle.text_io.specs.Texts.{IsTextOf}

-- the verdict on the grants of an end, for each text of the sheet
pub record IsCheckWithin (by : Option ℕ) (sheet : SheetValue) (known : Option (List ℕ))
    (verdict : SheetVerdict) (printed : List ℕ) : Type 0 where
  pub text : List ℕ
  pub read : IsTextOf text known
  pub few : length text ≤ MAX_TEXT
  pub check : (source : List ℕ) → IsSheetOf source sheet → IsCheckBy by source text verdict printed

-- the verdict on the grants of an end, for a sheet's text
pub record IsCheckBeside (by : Option ℕ) (sheet_text : List ℕ) (known : Option (List ℕ))
    (verdict : SheetVerdict) (printed : List ℕ) : Type 0 where
  pub text : List ℕ
  pub read : IsTextOf text known
  pub few : length text ≤ MAX_TEXT
  pub check : IsCheckBy by sheet_text text verdict printed

-- the faults of checking the grants of an end within a sheet
abbrev pub IsFaultWithin : SheetValue → Option (List ℕ) → Bool → CheckFault → Type 0
IsFaultWithin sheet known may_fail (SheetText why) = ⊥
IsFaultWithin sheet known may_fail (Sheet fault) = ⊥
IsFaultWithin sheet known may_fail (GrantsText TooLong) =
    IfSome known (λ text. MAX_TEXT < length text)
IsFaultWithin sheet known may_fail (GrantsText ReadFault) = may_fail ≡ true
IsFaultWithin sheet known may_fail (GrantsText WriteFault) = ⊥
IsFaultWithin sheet known may_fail (GrantsText Memory) = Unit {0}
IsFaultWithin sheet known may_fail (Grants fault) = (fault ≢ NoGrantsMemory) × IfSome known (λ text.
    (length text ≤ MAX_TEXT)
    × ((source : List ℕ) → IsSheetOf source sheet → IsGrantsFaultOf source text fault))
IsFaultWithin sheet known may_fail (Text why) = why ≡ Memory

-- the same for a sheet's text, which is checked first
abbrev pub IsFaultBeside : List ℕ → Option (List ℕ) → Bool → CheckFault → Type 0
IsFaultBeside sheet_text known may_fail (SheetText why) = ⊥
IsFaultBeside sheet_text known may_fail (Sheet fault) = IsSheetFaultOf sheet_text fault
IsFaultBeside sheet_text known may_fail (GrantsText TooLong) =
    (sheet_fault sheet_text ≡ None) × IfSome known (λ text. MAX_TEXT < length text)
IsFaultBeside sheet_text known may_fail (GrantsText ReadFault) = may_fail ≡ true
IsFaultBeside sheet_text known may_fail (GrantsText WriteFault) = ⊥
IsFaultBeside sheet_text known may_fail (GrantsText Memory) = Unit {0}
IsFaultBeside sheet_text known may_fail (Grants fault) =
    (fault ≢ NoGrantsMemory) × IfSome known (λ text.
    (length text ≤ MAX_TEXT) × IsGrantsFaultOf sheet_text text fault)
IsFaultBeside sheet_text known may_fail (Text why) = why ≡ Memory
