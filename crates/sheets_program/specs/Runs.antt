-- The endings of the commands on sheets. A file is given by a test of the octets that it may
-- contain; None is for unknown octets, about which nothing is said. Old and new are the contents of
-- the output before and after.
use Rattle.std.specs.Prelude.{◌≡◌, ◌≢◌, ◌<◌, ◌⊎◌, ℕ, Bool, true, false, List, Option, Some, None, IfSome, length, option_map}
use Rattle.std.specs.Borrow.{Bor}
use Rattle.std.specs.Io.KnownBytes.{Appends}
use Rattle.command_line.specs.declared.words.SheetWords.{SheetWords}
use Rattle.command_line.specs.declared.words.SheetWords.TheVariants.{Share as ShareWords, Check as CheckWords}
use Rattle.command_line.specs.Numbers.{IsDepthOf, IsNoDepthOf}
use Rattle.command_line.specs.declared.words.WordsFault.{WordsFault}
use Rattle.sheet_commands.specs.Checking.{IsGrantsFaultOf}
use Rattle.sheet_commands.specs.CheckUsers.{IsCheckBy}
use Rattle.sheet_commands.specs.declared.sheet_verdict.SheetVerdict.{SheetVerdict}
use Rattle.sheet_commands.specs.declared.sheet_verdict.SheetVerdict.TheVariants.{Yes}
use Rattle.sheet_commands.specs.declared.check_fault.CheckFault.{CheckFault}
use Rattle.sheet_commands.specs.declared.check_fault.CheckFault.TheVariants as check
use Rattle.sheet_commands.specs.declared.grants_fault.GrantsFault.{GrantsFault}
use Rattle.sheet_commands.specs.Pictures.{IsPictureBy}
use Rattle.sheet_commands.specs.Sharing.{IsSharingBy}
use Rattle.sheet_commands.specs.declared.share_fault.ShareFault.{ShareFault}
use Rattle.sheet_commands.specs.declared.share_fault.ShareFault.TheVariants as share
use Rattle.sheet_text.specs.Sheet.{IsSheetFaultOf, sheet_fault}
use Rattle.sheet_text.specs.declared.fault.SheetFault.{SheetFault}
use Rattle.text_io.specs.declared.fault.TextFault.{TextFault}
use Rattle.text_io.specs.declared.fault.TextFault.TheVariants.{TooLong, ReadFault, WriteFault, Memory}
use Rattle.text_io.specs.declared.read.TheConstants.{MAX_TEXT}
use Rattle.sheets_program.specs.declared.cause.Cause.{Cause}
use Rattle.sheets_program.specs.declared.ending.Exit.{Exit}
use Rattle.sheets_program.specs.declared.ending.Exit.TheVariants.{Done, Flawed, Refused, Text, Share, Check}
use Rattle.sheets_program.specs.declared.files.TheConstants.{DASH, STANDARD_INPUT}
use Rattle.sheets_program.specs.Endings.{IsReportedEnd}

-- a test of the octets that a file may contain
abbrev pub Octets : Type 1
Octets = Option (List ℕ) → Type 0

-- the path names standard input
abbrev pub IsInput : List ℕ → Type 0
IsInput path = (path ≡ STANDARD_INPUT.now) ⊎ (path ≡ DASH.now)

-- the path of the file in a cause
abbrev pub file_of : Cause → Option (List ℕ)
file_of cause = option_map (λ path. path.now) cause.file

-- the file of a fault of texts, if one is read
abbrev pub text_file : List ℕ → TextFault → Option (List ℕ)
text_file path TooLong = Some path
text_file path ReadFault = Some path
text_file path WriteFault = None
text_file path Memory = None

-- the file of a fault of `share`
abbrev pub shared_file : List ℕ → ShareFault → Option (List ℕ)
shared_file sheet (share.Sheet fault) = Some sheet
shared_file sheet (share.Text why) = text_file sheet why
shared_file sheet share.UserTooLarge = Some sheet

-- the file of a fault of `check`
abbrev pub checked_file : List ℕ → List ℕ → CheckFault → Option (List ℕ)
checked_file sheet grants (check.SheetText why) = Some sheet
checked_file sheet grants (check.Sheet fault) = Some sheet
checked_file sheet grants (check.GrantsText why) = Some grants
checked_file sheet grants (check.Grants fault) = Some grants
checked_file sheet grants (check.Text why) = None

-- the picture of the sharing of the text's sheet, or its lines, among the users of a depth, if
-- there is one
abbrev pub IsShown : Option ℕ → Bool → List ℕ → List ℕ → Type 0
IsShown by true text printed = IsPictureBy by text printed
IsShown by false text printed = IsSharingBy by text printed

-- the picture, or the lines, of the sharing of the text's sheet are appended
abbrev pub AppendsSharing : Option ℕ → Bool → Option (List ℕ) → Option (List ℕ) → Option (List ℕ)
    → Type 0
AppendsSharing by svg None old new = Unit {0}
AppendsSharing by svg (Some text) old new =
    (printed : List ℕ) × IsShown by svg text printed × Appends old new printed

-- the line of that verdict on the grants of the second text within the sheet of the first is
-- appended
abbrev pub AppendsVerdict : Option ℕ → Option (List ℕ) → Option (List ℕ) → SheetVerdict
    → Option (List ℕ) → Option (List ℕ) → Type 0
AppendsVerdict by None grants verdict old new = Unit {0}
AppendsVerdict by (Some sheet) None verdict old new = Unit {0}
AppendsVerdict by (Some sheet) (Some grants) verdict old new =
    (printed : List ℕ) × IsCheckBy by sheet grants verdict printed × Appends old new printed

-- the fault is that of the grants of the second text beside the sheet of the first
abbrev pub IsGrantsFaultIn : Option (List ℕ) → Option (List ℕ) → GrantsFault → Type 0
IsGrantsFaultIn (Some sheet) (Some grants) fault = IsGrantsFaultOf sheet grants fault
IsGrantsFaultIn _ _ _ = Unit {0}

-- the text that a file may contain is too long
abbrev pub IsTooLong : Octets → Type 0
IsTooLong gives =
    (text : Option (List ℕ)) × gives text × IfSome text (λ known. MAX_TEXT < length known)

-- the fault is that of the sheet that a file may contain
abbrev pub IsSheetFaultIn : Octets → SheetFault → Type 0
IsSheetFaultIn gives fault =
    (text : Option (List ℕ)) × gives text × IfSome text (λ known. IsSheetFaultOf known fault)

-- a file may contain a sheet without a fault
abbrev pub IsSoundIn : Octets → Type 0
IsSoundIn gives =
    (text : Option (List ℕ)) × gives text × IfSome text (λ known. sheet_fault known ≡ None)

-- the fault of `share`, by the contents that the sheet may have
abbrev pub IsShareFault : Option ℕ → Octets → ShareFault → Type 0
IsShareFault by gives (share.Sheet fault) = IsSheetFaultIn gives fault
IsShareFault by gives share.UserTooLarge = (by ≢ None) × IsSoundIn gives
IsShareFault by gives (share.Text TooLong) = IsTooLong gives
IsShareFault by gives (share.Text _) = Unit {0}

-- the ending of `share` for the path of a sheet, among the users of a depth, if there is one, as a
-- picture or in lines
abbrev pub IsShareEnd : (List ℕ → Octets) → Option ℕ → Bool → List ℕ → Option (List ℕ)
    → Option (List ℕ) → Exit → Type 0
IsShareEnd gives by svg sheet old new Done =
    (text : Option (List ℕ)) × gives sheet text × AppendsSharing by svg text old new
IsShareEnd gives by svg sheet old new Flawed = ⊥
IsShareEnd gives by svg sheet old new (Refused reported) = ⊥
IsShareEnd gives by svg sheet old new (Text fault cause) = fault ≡ Memory
IsShareEnd gives by svg sheet old new (Share fault cause) =
    IsShareFault by (gives sheet) fault × (file_of cause ≡ shared_file sheet fault)
IsShareEnd gives by svg sheet old new (Check fault cause) = ⊥

-- standard input is named as both the sheet and the grants
abbrev pub IsNamedTwice : List ℕ → List ℕ → Type 0
IsNamedTwice sheet grants = IsInput sheet × IsInput grants

-- that verdict is written, on a sheet and grants that the files may contain
abbrev pub IsJudged : Option ℕ → Octets → Octets → SheetVerdict → Option (List ℕ)
    → Option (List ℕ) → Type 0
IsJudged by sheet grants verdict old new = (sheet_text grants_text : Option (List ℕ))
    × sheet sheet_text × grants grants_text
    × AppendsVerdict by sheet_text grants_text verdict old new

-- the fault of `check`, by the contents that the files may have
abbrev pub IsCheckFault : Octets → Octets → CheckFault → Type 0
IsCheckFault sheet grants (check.Sheet fault) = IsSheetFaultIn sheet fault
IsCheckFault sheet grants (check.Grants fault) = (sheet_text grants_text : Option (List ℕ))
    × sheet sheet_text × grants grants_text × IsGrantsFaultIn sheet_text grants_text fault
IsCheckFault sheet grants _ = Unit {0}

-- the ending of `check` for the paths of a sheet and of grants, among the users of a depth, if
-- there is one: a yes is done, and any other verdict is a flaw
abbrev pub IsCheckEnd : (List ℕ → Octets) → Option ℕ → List ℕ → List ℕ → Option (List ℕ)
    → Option (List ℕ) → Exit → Type 0
IsCheckEnd gives by sheet grants old new Done =
    ¬ IsNamedTwice sheet grants × IsJudged by (gives sheet) (gives grants) Yes old new
IsCheckEnd gives by sheet grants old new Flawed =
    ¬ IsNamedTwice sheet grants
    × ((verdict : SheetVerdict) × (verdict ≢ Yes)
    × IsJudged by (gives sheet) (gives grants) verdict old new)
IsCheckEnd gives by sheet grants old new (Refused reported) = IsNamedTwice sheet grants
IsCheckEnd gives by sheet grants old new (Text fault cause) = fault ≡ Memory
IsCheckEnd gives by sheet grants old new (Share fault cause) = ⊥
IsCheckEnd gives by sheet grants old new (Check fault cause) = ¬ IsNamedTwice sheet grants
    × IsCheckFault (gives sheet) (gives grants) fault
    × (file_of cause ≡ checked_file sheet grants fault)

-- the ending of a command whose word for a depth states none: the refusal of that word
abbrev pub IsNoDepthEnd : Option (Bor (List ℕ)) → Option (List ℕ) → Option (List ℕ) → Exit → Type 0
IsNoDepthEnd by old new ending = (fault : WordsFault)
    × IsNoDepthOf (option_map (λ w. w.now) by) fault × IsReportedEnd fault old new ending

-- a command for the depth that its word states, if it has a word, ends in that way
abbrev pub EndsByDepth : Option (Bor (List ℕ)) → (Option ℕ → Type 0) → Type 0
EndsByDepth by P = (depth : Option ℕ) × IsDepthOf (option_map (λ w. w.now) by) depth × P depth

-- the ending of that command
abbrev pub IsSheetEnd : (List ℕ → Octets) → SheetWords → Option (List ℕ) → Option (List ℕ) → Exit
    → Type 0
IsSheetEnd gives (ShareWords sheet svg by) old new ending =
    IsNoDepthEnd by old new ending
    ⊎ EndsByDepth by (λ depth. IsShareEnd gives depth svg sheet.now old new ending)
IsSheetEnd gives (CheckWords sheet grants by) old new ending =
    IsNoDepthEnd by old new ending
    ⊎ EndsByDepth by (λ depth. IsCheckEnd gives depth sheet.now grants.now old new ending)
