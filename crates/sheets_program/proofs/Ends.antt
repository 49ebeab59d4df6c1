-- The ends of commands, from what the commands promise of texts that are known.
use Rattle.std.proofs.Common.{◌≡◌, ◌≢◌, ◌<◌, ◌⊎◌, ℕ, Bool, List, Option, Some, None, IfSome, length, option_map, refl, subst, inl, inr}
use Rattle.std.specs.Io.KnownBytes.{Appends}
use Rattle.command_line.specs.Given.{IsCheck, IsShare}
use Rattle.command_line.specs.declared.words.SheetWords.{SheetWords}
use Rattle.command_line.specs.declared.words.SheetWords.TheVariants.{Share as ShareWords, Check as CheckWords}
use Rattle.command_line.specs.declared.words.WordsFault.{WordsFault}
use Rattle.command_line.specs.declared.words.WordsFault.TheVariants.{Memory as NoMemory, Refused as NoCommand}
use Rattle.sheet_commands.specs.Checking.{IsGrantsFaultOf}
use Rattle.sheet_commands.specs.CheckUsers.{IsCheckBy}
use Rattle.sheet_commands.specs.declared.sheet_verdict.SheetVerdict.{SheetVerdict}
use Rattle.sheet_commands.specs.declared.sheet_verdict.SheetVerdict.TheVariants.{Yes, No, NotBestByUsers}
use Rattle.grant_certificate.specs.declared.flaw.Flaw.{Flaw}
use Rattle.sheet_commands.specs.declared.check_fault.CheckFault.{CheckFault}
use Rattle.sheet_commands.specs.declared.check_fault.CheckFault.TheVariants as check
use Rattle.sheet_commands.specs.declared.share_fault.ShareFault.{ShareFault}
use Rattle.sheet_commands.specs.declared.share_fault.ShareFault.TheVariants.{Sheet, Text, UserTooLarge}
use Rattle.sheet_text.specs.Sheet.{IsSheetFaultOf, sheet_fault}
use Rattle.text_io.specs.declared.fault.TextFault.TheVariants.{TooLong, ReadFault, WriteFault, Memory}
use Rattle.text_io.specs.declared.read.TheConstants.{MAX_TEXT}
use Rattle.std.specs.Borrow.{Bor}
use Rattle.sheets_program.specs.Causes.{IsCheckReason, IsShareReason}
use Rattle.sheets_program.specs.Endings.{IsReportedEnd}
use Rattle.sheets_program.specs.Runs.{EndsByDepth, IsCheckEnd, IsCheckFault, IsGrantsFaultIn, IsJudged, IsNoDepthEnd, IsShareEnd, IsShareFault, IsSheetEnd, Octets}
use Rattle.sheets_program.specs.declared.ending.Exit.{Exit}
use Rattle.sheets_program.specs.declared.ending.Exit.TheVariants.{Done, Flawed, Refused, Text as Unread, Share as Unshared, Check as Unchecked}

-- what holds of a text that is known
if_known : (P : List ℕ → Type 0) (text : Option (List ℕ)) → ((known : List ℕ) → text ≡ Some known → P known) → IfSome text P
if_known P None reported = tt
if_known P (Some known) reported = reported known refl

pub share_fault : (by : Option ℕ) (gives : Octets) (text : Option (List ℕ)) (fault : ShareFault) → gives text
    → ((why : _) → fault ≡ Sheet why → (known : List ℕ) → text ≡ Some known → IsSheetFaultOf known why)
    → (fault ≡ UserTooLarge → (by ≢ None) × ((known : List ℕ) → text ≡ Some known → sheet_fault known ≡ None))
    → (fault ≡ Text TooLong → IfSome text (λ known. MAX_TEXT < length known)) → IsShareFault by gives fault
share_fault by gives text (Sheet why) given sheet users long = (text, given, if_known _ text (sheet why refl))
share_fault by gives text UserTooLarge given sheet users long = let large = users refl in (large.0, (text, given, if_known _ text large.1))
share_fault by gives text (Text TooLong) given sheet users long = (text, given, long refl)
share_fault by gives text (Text ReadFault) given sheet users long = tt
share_fault by gives text (Text WriteFault) given sheet users long = tt
share_fault by gives text (Text Memory) given sheet users long = tt

grants_reported : (sheet_text grants_text : Option (List ℕ)) (why : _)
    → ((known also : List ℕ) → sheet_text ≡ Some known → grants_text ≡ Some also → IsGrantsFaultOf known also why)
    → IsGrantsFaultIn sheet_text grants_text why
grants_reported None grants_text why reported = tt
grants_reported (Some known) None why reported = tt
grants_reported (Some known) (Some also) why reported = reported known also refl refl

pub check_fault : (sheet grants : Octets) (sheet_text grants_text : Option (List ℕ)) (fault : CheckFault) → sheet sheet_text → grants grants_text
    → ((why : _) → fault ≡ check.Sheet why → (known : List ℕ) → sheet_text ≡ Some known → IsSheetFaultOf known why)
    → ((why : _) → fault ≡ check.Grants why → (known also : List ℕ) → sheet_text ≡ Some known → grants_text ≡ Some also → IsGrantsFaultOf known also why)
    → IsCheckFault sheet grants fault
check_fault sheet grants sheet_text grants_text (check.Sheet why) given also faulty wrong = (sheet_text, given, if_known _ sheet_text (faulty why refl))
check_fault sheet grants sheet_text grants_text (check.Grants why) given also faulty wrong = (sheet_text, grants_text, given, also, grants_reported sheet_text grants_text why (wrong why refl))
check_fault sheet grants sheet_text grants_text (check.SheetText why) given also faulty wrong = tt
check_fault sheet grants sheet_text grants_text (check.GrantsText why) given also faulty wrong = tt
check_fault sheet grants sheet_text grants_text (check.Text why) given also faulty wrong = tt

judged_so : (by : Option ℕ) (sheet grants : Octets) (sheet_text grants_text : Option (List ℕ)) (verdict : SheetVerdict) (old new : Option (List ℕ)) → sheet sheet_text → grants grants_text
    → ((known also : List ℕ) → sheet_text ≡ Some known → grants_text ≡ Some also → (printed : List ℕ) × IsCheckBy by known also verdict printed × Appends old new printed)
    → IsJudged by sheet grants verdict old new
judged_so by sheet grants None grants_text verdict old new given also checked = (None, grants_text, given, also, tt)
judged_so by sheet grants (Some known) None verdict old new given also checked = (Some known, None, given, also, tt)
judged_so by sheet grants (Some known) (Some other) verdict old new given also checked = (Some known, Some other, given, also, checked known other refl refl)

pub judged : (by : Option ℕ) (sheet grants : Octets) (sheet_text grants_text : Option (List ℕ)) (verdict meant : SheetVerdict) (old new : Option (List ℕ)) → sheet sheet_text → grants grants_text
    → ((known also : List ℕ) → sheet_text ≡ Some known → grants_text ≡ Some also → (printed : List ℕ) × IsCheckBy by known also verdict printed × Appends old new printed)
    → verdict ≡ meant → IsJudged by sheet grants meant old new
judged by sheet grants sheet_text grants_text verdict meant old new given also checked is =
    let R : SheetVerdict → Type 0 = λ it. IsJudged by sheet grants it old new in
    subst R is (judged_so by sheet grants sheet_text grants_text verdict old new given also checked)

-- any other verdict than yes
pub flawed : (by : Option ℕ) (sheet grants : Octets) (sheet_text grants_text : Option (List ℕ)) (verdict meant : SheetVerdict) (old new : Option (List ℕ)) → sheet sheet_text → grants grants_text
    → ((known also : List ℕ) → sheet_text ≡ Some known → grants_text ≡ Some also → (printed : List ℕ) × IsCheckBy by known also verdict printed × Appends old new printed)
    → meant ≢ Yes → verdict ≡ meant → (told : SheetVerdict) × (told ≢ Yes) × IsJudged by sheet grants told old new
flawed by sheet grants sheet_text grants_text verdict meant old new given also checked apart is =
    (meant, apart, judged by sheet grants sheet_text grants_text verdict meant old new given also checked is)

pub a_flaw : (flaw : Flaw) → No flaw ≢ Yes
a_flaw flaw same = cc

pub not_best : NotBestByUsers ≢ Yes
not_best same = cc

-- ---- the commands without a word for a depth

undivided : (P : Option ℕ → Type 0) (by : Option (Bor (List ℕ))) → option_map (λ (w : Bor (List ℕ)). w.now) by ≡ None → EndsByDepth by P → P None
undivided P None none (None, is, end) = end
undivided P None none (Some depth, is, end) = absurd is
undivided P (Some word) none ends = absurd (cc)

no_depth : (by : Option (Bor (List ℕ))) (old new : Option (List ℕ)) (ending : Exit) → option_map (λ (w : Bor (List ℕ)). w.now) by ≡ None → IsNoDepthEnd by old new ending → ⊥
no_depth None old new ending none (fault, is, end) = is
no_depth (Some word) old new ending none ends = absurd (cc)

pub share_words_end : (gives : List ℕ → Octets) (words : SheetWords) (sheet : List ℕ) (as_svg : Bool) (old new : Option (List ℕ)) (ending : Exit)
    → IsShare sheet as_svg None words → IsSheetEnd gives words old new ending → IsShareEnd gives None as_svg sheet old new ending
share_words_end gives (ShareWords path svg by) sheet as_svg old new ending is (inl none) = absurd (no_depth by old new ending is.2 none)
share_words_end gives (ShareWords path svg by) sheet as_svg old new ending is (inr ends) =
    let end = undivided (λ (depth : Option ℕ). IsShareEnd gives depth svg path.now old new ending) by is.2 ends in
    let first = subst (λ (p : List ℕ). IsShareEnd gives None svg p old new ending) is.0 end in
    subst (λ (b : Bool). IsShareEnd gives None b sheet old new ending) is.1 first
share_words_end gives (CheckWords path other by) sheet as_svg old new ending is ends = absurd is

pub check_words_end : (gives : List ℕ → Octets) (words : SheetWords) (sheet grants : List ℕ) (old new : Option (List ℕ)) (ending : Exit)
    → IsCheck sheet grants None words → IsSheetEnd gives words old new ending → IsCheckEnd gives None sheet grants old new ending
check_words_end gives (CheckWords path other by) sheet grants old new ending is (inl none) = absurd (no_depth by old new ending is.2 none)
check_words_end gives (CheckWords path other by) sheet grants old new ending is (inr ends) =
    let end = undivided (λ (depth : Option ℕ). IsCheckEnd gives depth path.now other.now old new ending) by is.2 ends in
    let first = subst (λ (p : List ℕ). IsCheckEnd gives None p other.now old new ending) is.0 end in
    subst (λ (p : List ℕ). IsCheckEnd gives None sheet p old new ending) is.1 first
check_words_end gives (ShareWords path svg by) sheet grants old new ending is ends = absurd is

-- ---- the refusal of a depth is no fault of a command

pub share_refused : (gives : Octets) (refused fails : Type 0) (refuses : List ℕ → Type 0) (by : Option ℕ) (svg : Bool) (fault : WordsFault) (old new : Option (List ℕ)) (ending : Exit)
    → IsReportedEnd fault old new ending → IsShareReason gives refused fails refuses by svg ending
share_refused gives refused fails refuses by svg fault old new Done is = tt
share_refused gives refused fails refuses by svg fault old new Flawed is = tt
share_refused gives refused fails refuses by svg fault old new (Refused text) is = tt
share_refused gives refused fails refuses by svg fault old new (Unread why cause) is = tt
share_refused gives refused fails refuses by svg (NoCommand text is_help) old new (Unshared why cause) is = absurd is
share_refused gives refused fails refuses by svg NoMemory old new (Unshared why cause) is = absurd is
share_refused gives refused fails refuses by svg fault old new (Unchecked why cause) is = tt

pub check_refused : (by : Option ℕ) (sheet grants : Octets) (sheet_fails grants_fails : Type 0) (refuses : List ℕ → Type 0) (fault : WordsFault) (old new : Option (List ℕ)) (ending : Exit)
    → IsReportedEnd fault old new ending → IsCheckReason by sheet grants sheet_fails grants_fails refuses ending
check_refused by sheet grants sheet_fails grants_fails refuses fault old new Done is = tt
check_refused by sheet grants sheet_fails grants_fails refuses fault old new Flawed is = tt
check_refused by sheet grants sheet_fails grants_fails refuses fault old new (Refused text) is = tt
check_refused by sheet grants sheet_fails grants_fails refuses fault old new (Unread why cause) is = tt
check_refused by sheet grants sheet_fails grants_fails refuses fault old new (Unshared why cause) is = tt
check_refused by sheet grants sheet_fails grants_fails refuses (NoCommand text is_help) old new (Unchecked why cause) is = absurd is
check_refused by sheet grants sheet_fails grants_fails refuses NoMemory old new (Unchecked why cause) is = absurd is
