-- The causes for which a command on sheets ends with its fault, and the files that it opens, one
-- after another. A file is given as in `Runs`; `refused` and `fails` are tests of a path: that its
-- file may be refused, and that reading it may fail; `refuses` is the test of a text that the
-- output may refuse.
use Rattle.std.specs.Prelude.{◌≡◌, ◌⊎◌, ℕ, Bool, List, Option, None, IfSome, option_map}
use Rattle.std.specs.Borrow.{Bor}
use Rattle.command_line.specs.declared.words.SheetWords.{SheetWords}
use Rattle.command_line.specs.declared.words.SheetWords.TheVariants.{Share as ShareWords, Check as CheckWords}
use Rattle.command_line.specs.Numbers.{IsDepthOf, IsNoDepthOf}
use Rattle.command_line.specs.declared.words.WordsFault.{WordsFault}
use Rattle.sheet_commands.specs.CheckUsers.{IsCheckBy}
use Rattle.sheet_commands.specs.declared.sheet_verdict.SheetVerdict.{SheetVerdict}
use Rattle.sheet_commands.specs.declared.check_fault.CheckFault.{CheckFault}
use Rattle.sheet_commands.specs.declared.check_fault.CheckFault.TheVariants as check
use Rattle.sheet_commands.specs.declared.share_fault.ShareFault.{ShareFault}
use Rattle.sheet_commands.specs.declared.share_fault.ShareFault.TheVariants as share
use Rattle.sheet_text.specs.Sheet.{sheet_fault}
use Rattle.text_io.specs.Texts.{IsTextOf}
use Rattle.text_io.specs.declared.fault.TextFault.TheVariants.{TooLong, ReadFault, WriteFault, Memory}
use Rattle.sheets_program.specs.declared.ending.Exit.{Exit}
use Rattle.sheets_program.specs.declared.ending.Exit.TheVariants.{Share, Check}
use Rattle.sheets_program.specs.Runs.{IsNamedTwice, IsShown, IsTooLong, Octets}

-- the output may refuse the picture, or the lines, of the sharing of a text that the sheet may
-- contain
abbrev pub IsSharingRefused : Octets → (List ℕ → Type 0) → Option ℕ → Bool → Type 0
IsSharingRefused gives refuses by svg = (known : Option (List ℕ)) × (text printed : List ℕ)
    × gives known × IsTextOf text known × IsShown by svg text printed × refuses printed

-- the cause of a fault of `share`, which neither its file nor the output rules out
abbrev pub IsShareWhy : Octets → Type 0 → Type 0 → (List ℕ → Type 0) → Option ℕ → Bool → ShareFault
    → Type 0
IsShareWhy gives refused fails refuses by svg (share.Text ReadFault) = refused ⊎ fails
IsShareWhy gives refused fails refuses by svg (share.Text WriteFault) =
    IsSharingRefused gives refuses by svg
IsShareWhy gives refused fails refuses by svg _ = Unit {0}

-- the same for the fault of an ending, if it is one of `share`
abbrev pub IsShareReason : Octets → Type 0 → Type 0 → (List ℕ → Type 0) → Option ℕ → Bool → Exit
    → Type 0
IsShareReason gives refused fails refuses by svg (Share fault cause) =
    IsShareWhy gives refused fails refuses by svg fault
IsShareReason gives refused fails refuses by svg _ = Unit {0}

-- the sheet has no fault, and the grants that a file may contain are too long
abbrev pub AreGrantsTooLong : Octets → Octets → Type 0
AreGrantsTooLong sheet grants = (text : Option (List ℕ)) × sheet text
    × IfSome text (λ known. sheet_fault known ≡ None) × IsTooLong grants

-- the output may refuse the line of the verdict on texts that the files may contain
abbrev pub IsVerdictRefused : Option ℕ → Octets → Octets → (List ℕ → Type 0) → Type 0
IsVerdictRefused by sheet grants refuses = (known also : Option (List ℕ))
    × (sheet_text grants_text printed : List ℕ) × (verdict : SheetVerdict)
    × sheet known × grants also × IsTextOf sheet_text known × IsTextOf grants_text also
    × IsCheckBy by sheet_text grants_text verdict printed × refuses printed

-- the cause of a fault of `check`, given for each of its files that it may be refused or fail
abbrev pub IsCheckWhy : Option ℕ → Octets → Octets → Type 0 → Type 0 → (List ℕ → Type 0)
    → CheckFault → Type 0
IsCheckWhy by sheet grants sheet_fails grants_fails refuses (check.SheetText TooLong) =
    IsTooLong sheet
IsCheckWhy by sheet grants sheet_fails grants_fails refuses (check.SheetText ReadFault) =
    sheet_fails
IsCheckWhy by sheet grants sheet_fails grants_fails refuses (check.SheetText WriteFault) = ⊥
IsCheckWhy by sheet grants sheet_fails grants_fails refuses (check.SheetText Memory) = Unit {0}
IsCheckWhy by sheet grants sheet_fails grants_fails refuses (check.Sheet fault) = Unit {0}
IsCheckWhy by sheet grants sheet_fails grants_fails refuses (check.GrantsText TooLong) =
    AreGrantsTooLong sheet grants
IsCheckWhy by sheet grants sheet_fails grants_fails refuses (check.GrantsText ReadFault) =
    grants_fails
IsCheckWhy by sheet grants sheet_fails grants_fails refuses (check.GrantsText WriteFault) = ⊥
IsCheckWhy by sheet grants sheet_fails grants_fails refuses (check.GrantsText Memory) = Unit {0}
IsCheckWhy by sheet grants sheet_fails grants_fails refuses (check.Grants fault) = Unit {0}
IsCheckWhy by sheet grants sheet_fails grants_fails refuses (check.Text TooLong) = ⊥
IsCheckWhy by sheet grants sheet_fails grants_fails refuses (check.Text ReadFault) = ⊥
IsCheckWhy by sheet grants sheet_fails grants_fails refuses (check.Text WriteFault) =
    IsVerdictRefused by sheet grants refuses
IsCheckWhy by sheet grants sheet_fails grants_fails refuses (check.Text Memory) = Unit {0}

-- the same for the fault of an ending, if it is one of `check`
abbrev pub IsCheckReason : Option ℕ → Octets → Octets → Type 0 → Type 0 → (List ℕ → Type 0) → Exit
    → Type 0
IsCheckReason by sheet grants sheet_fails grants_fails refuses (Check fault cause) =
    IsCheckWhy by sheet grants sheet_fails grants_fails refuses fault
IsCheckReason by sheet grants sheet_fails grants_fails refuses _ = Unit {0}

-- the cause of the fault with which that command ends, if it ends with one
abbrev pub IsSheetWhy : (List ℕ → Octets) → (List ℕ → Type 0) → (List ℕ → Type 0)
    → (List ℕ → Type 0) → SheetWords → Exit → Type 0
IsSheetWhy gives refused fails refuses (ShareWords sheet svg by) ending =
    (depth : Option ℕ) → IsDepthOf (option_map (λ w. w.now) by) depth → IsShareReason
    (gives sheet.now) (refused sheet.now) (fails sheet.now) refuses depth svg ending
IsSheetWhy gives refused fails refuses (CheckWords sheet grants by) ending =
    (depth : Option ℕ) → IsDepthOf (option_map (λ w. w.now) by) depth → IsCheckReason depth
    (gives sheet.now) (gives grants.now) (refused sheet.now ⊎ fails sheet.now)
    (refused grants.now ⊎ fails grants.now) refuses ending

-- `check` ends without the text of its sheet
abbrev pub IsWithoutSheet : Exit → Type 0
IsWithoutSheet (Check fault cause) = fault ≡ check.SheetText ReadFault
IsWithoutSheet _ = ⊥

-- `check` opens no file if standard input is named twice; otherwise the sheet, and then the grants,
-- unless the sheet is refused
abbrev pub AreBothOpened : {O : Type 0} → (O → List ℕ → O → Type 0) → O → O → (List ℕ → Type 0)
    → List ℕ → List ℕ → Exit → Type 0
AreBothOpened {O} opens old new refused sheet grants ending =
    (IsNamedTwice sheet grants × (new ≡ old))
    ⊎ ((opens old sheet new × refused sheet × IsWithoutSheet ending)
    ⊎ ((between : O) × opens old sheet between × opens between grants new))

-- the word for a depth states none, and no file is opened
abbrev pub IsNoneOpened : {O : Type 0} → O → O → Option (Bor (List ℕ)) → Type 0
IsNoneOpened old new by =
    (fault : WordsFault) × IsNoDepthOf (option_map (λ w. w.now) by) fault × (new ≡ old)

-- the files that a command opens, in the order of its words
abbrev pub AreOpened : {O : Type 0} → (O → List ℕ → O → Type 0) → O → O → (List ℕ → Type 0)
    → SheetWords → Exit → Type 0
AreOpened opens old new refused (ShareWords sheet svg by) ending =
    IsNoneOpened old new by ⊎ opens old sheet.now new
AreOpened opens old new refused (CheckWords sheet grants by) ending =
    IsNoneOpened old new by ⊎ AreBothOpened opens old new refused sheet.now grants.now ending
