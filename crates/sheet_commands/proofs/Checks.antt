-- What a fault is where the grants of an end are checked.
use Rattle.std.proofs.Common.{◌≡◌, ◌≢◌, ◌≤◌, List, ℕ, Bool, Option, Some, None, IfSome, length, refl}
use Rattle.sheet_text.specs.declared.fault.SheetFault.{SheetFault}
use Rattle.sheet_text.specs.declared.fault.SheetFault.TheVariants.{BadLine, Twice, LeafHasKids, Tree, Memory as NoSheetMemory}
use Rattle.sheet_text.specs.Sheet.{sheet_fault}
use Rattle.sheet_text.specs.Views.{SheetValue, IsSheetOf}
use Rattle.text_io.specs.declared.fault.TextFault.TheVariants.{TooLong, ReadFault, WriteFault, Memory}
use Rattle.text_io.specs.declared.read.TheConstants.{MAX_TEXT}
use Rattle.sheet_commands.specs.Checking.{IsGrantsFaultOf}
use Rattle.sheet_commands.specs.CheckFaults.{of_sheet}
use Rattle.sheet_commands.specs.Reading.{IsFaultBeside, IsFaultWithin}
use Rattle.sheet_commands.specs.declared.check_fault.CheckFault.{CheckFault}
use Rattle.sheet_commands.specs.declared.check_fault.CheckFault.TheVariants.{SheetText, Sheet, GrantsText, Grants, Text}
use Rattle.sheet_commands.specs.declared.grants_fault.GrantsFault.{GrantsFault}

-- the fault of a sheet's text
pub sheet_beside : (sheet_text : List ℕ) (known : Option (List ℕ)) (may_fail : Bool) (e : SheetFault) → (e ≢ NoSheetMemory → sheet_fault sheet_text ≡ Some e)
    → IsFaultBeside sheet_text known may_fail (of_sheet e)
sheet_beside sheet_text known may_fail (BadLine line hint) reported = ((λ no. cc), reported (λ no. cc))
sheet_beside sheet_text known may_fail (Twice line) reported = ((λ no. cc), reported (λ no. cc))
sheet_beside sheet_text known may_fail (LeafHasKids line) reported = ((λ no. cc), reported (λ no. cc))
sheet_beside sheet_text known may_fail (Tree line f) reported = ((λ no. cc), reported (λ no. cc))
sheet_beside sheet_text known may_fail NoSheetMemory reported = refl

beside_known : (sheet : SheetValue) (sheet_text : List ℕ) (fault : GrantsFault) (known : Option (List ℕ)) → IsSheetOf sheet_text sheet
    → IfSome known (λ text. (length text ≤ MAX_TEXT) × ((source : List ℕ) → IsSheetOf source sheet → IsGrantsFaultOf source text fault))
    → IfSome known (λ text. (length text ≤ MAX_TEXT) × IsGrantsFaultOf sheet_text text fault)
beside_known sheet sheet_text fault None is_sheet p = tt
beside_known sheet sheet_text fault (Some text) is_sheet p = (p.0, p.1 sheet_text is_sheet)

-- what a fault is within a sheet, it is beside the text of that sheet
pub within_beside : (sheet : SheetValue) (sheet_text : List ℕ) (known : Option (List ℕ)) (may_fail : Bool) (e : CheckFault) → IsSheetOf sheet_text sheet → sheet_fault sheet_text ≡ None
    → IsFaultWithin sheet known may_fail e → IsFaultBeside sheet_text known may_fail e
within_beside sheet sheet_text known may_fail (SheetText why) is_sheet sound p = absurd p
within_beside sheet sheet_text known may_fail (Sheet fault) is_sheet sound p = absurd p
within_beside sheet sheet_text known may_fail (GrantsText TooLong) is_sheet sound p = (sound, p)
within_beside sheet sheet_text known may_fail (GrantsText ReadFault) is_sheet sound p = p
within_beside sheet sheet_text known may_fail (GrantsText WriteFault) is_sheet sound p = p
within_beside sheet sheet_text known may_fail (GrantsText Memory) is_sheet sound p = tt
within_beside sheet sheet_text known may_fail (Grants fault) is_sheet sound p = (p.0, beside_known sheet sheet_text fault known is_sheet p.1)
within_beside sheet sheet_text known may_fail (Text why) is_sheet sound p = p
