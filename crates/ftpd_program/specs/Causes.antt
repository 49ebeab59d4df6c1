-- The causes for which a command ends with its fault, and the files that it opens, one after
-- another. `refused` and `fails` are tests of a path: that its file may be refused, and that
-- reading it may fail.
use Rattle.std.specs.Borrow.{Bor}
use Rattle.std.specs.Prelude.{◌≡◌, ◌≢◌, ◌≤◌, ◌+◌, ◌⊎◌, ℕ, Bool, true, false, List, Option, Some, None, IfSome, length}
use Rattle.command_line.specs.declared.words.Words.{Words}
use Rattle.command_line.specs.declared.words.Words.TheVariants.{Sheet, CheckConfig, Migrate, Script, Serve, Plan, Top, Usage}
use Rattle.script_session.specs.Served.{IsSessionBreak, most_reads}
use Rattle.sheets_program.specs.Causes.{AreOpened, IsSheetWhy}
use Rattle.sheets_program.specs.Endings.{IsNoLine}
use Rattle.sheets_program.specs.Runs.{IsInput, IsNamedTwice, Octets, file_of}
use Rattle.sheets_program.specs.declared.ending.Exit.TheVariants.{Text}
use Rattle.sheets_program.specs.declared.files.TheConstants.{STANDARD_INPUT}
use Rattle.text_io.specs.declared.fault.TextFault.TheVariants.{ReadFault, TooLong, WriteFault}
use Rattle.ftpd_program.specs.Endings.{IsCommon}
use Rattle.ftpd_program.specs.declared.against.TheConstants.{RUNNING_FILE}
use Rattle.ftpd_program.specs.declared.ending.FtpdExit.{FtpdExit}
use Rattle.ftpd_program.specs.declared.ending.FtpdExit.TheVariants.{Common, Config, Session, Status}

-- the cause of a fault of reading the file of that path: a read fault is possible, and a read fault
-- or a text that is too long names the file, and so do a refused configuration and a text without
-- a status
abbrev pub IsReadWhy : List ℕ → Type 0 → FtpdExit → Type 0
IsReadWhy path may (Common (Text fault cause)) =
    (fault ≡ ReadFault → may × (file_of cause ≡ Some path))
    × (fault ≡ TooLong → file_of cause ≡ Some path)
IsReadWhy path may (Config file fault) = file.now ≡ path
IsReadWhy path may (Status file fault) = file.now ≡ path
IsReadWhy path may _ = Unit {0}

-- reading the input of a session may break it off: a read may fail, or the text is long enough for
-- all reads of a session
abbrev pub MayBreakInput : Octets → Type 0 → Type 0
MayBreakInput gives fails =
    fails ⊎ ((text : Option (List ℕ)) × gives text
    × IfSome text (λ known. most_reads ≤ length known + 1))

-- the same for `script`, which opens standard input too, and whose session may break off: `breaks`
-- is that the output may refuse a reply
abbrev pub IsScriptWhy : (List ℕ → Octets) → (List ℕ → Type 0) → (List ℕ → Type 0) → Type 0 → List ℕ
    → FtpdExit → Type 0
IsScriptWhy gives refused fails breaks config (Common (Text fault cause)) =
    (fault ≡ ReadFault → ((refused config ⊎ fails config) × (file_of cause ≡ Some config))
    ⊎ (refused STANDARD_INPUT.now × (file_of cause ≡ Some STANDARD_INPUT.now)))
    × (fault ≡ TooLong → file_of cause ≡ Some config)
IsScriptWhy gives refused fails breaks config (Config file fault) = file.now ≡ config
IsScriptWhy gives refused fails breaks config (Session fault) =
    IsSessionBreak
    (MayBreakInput (gives STANDARD_INPUT.now) (fails STANDARD_INPUT.now)) breaks fault
IsScriptWhy gives refused fails breaks config _ = Unit {0}

-- a command ends without its configuration
abbrev pub IsWithoutConfig : FtpdExit → Type 0
IsWithoutConfig (Common (Text fault cause)) = fault ≡ ReadFault
IsWithoutConfig _ = ⊥

-- `script` opens no file if its configuration is standard input; otherwise the configuration, and
-- then standard input, unless the configuration is refused
abbrev pub AreScriptOpened : {O : Type 0} → (O → List ℕ → O → Type 0) → O → O → (List ℕ → Type 0)
    → List ℕ → FtpdExit → Type 0
AreScriptOpened {O} opens old new refused config ending =
    (IsInput config × (new ≡ old))
    ⊎ ((opens old config new × refused config × IsWithoutConfig ending)
    ⊎ ((between : O) × opens old config between × opens between STANDARD_INPUT.now new))

-- the cause of a fault of reading one of the files of `check-config` with another configuration
abbrev pub IsAgainstWhy : (List ℕ → Type 0) → (List ℕ → Type 0) → List ℕ → List ℕ → FtpdExit
    → Type 0
IsAgainstWhy refused fails config other ending =
    IsReadWhy config (refused config ⊎ fails config) ending
    ⊎ IsReadWhy other (refused other ⊎ fails other) ending

-- `check-config` ends without the text of its first file
abbrev pub IsWithoutText : FtpdExit → Type 0
IsWithoutText (Common (Text fault cause)) = fault ≢ WriteFault
IsWithoutText _ = ⊥

-- it opens no file if standard input is named twice; otherwise the new configuration, and then the
-- other one, unless the first could not be read
abbrev pub AreAgainstOpened : {O : Type 0} → (O → List ℕ → O → Type 0) → O → O → List ℕ → List ℕ
    → FtpdExit → Type 0
AreAgainstOpened {O} opens old new config other ending =
    (IsNamedTwice config other × (new ≡ old))
    ⊎ ((opens old config new × IsWithoutText ending)
    ⊎ ((between : O) × opens old config between × opens between other new))

-- the same two of `check-config` with the running file; a line that states another configuration
-- too is refused, and no file is opened
abbrev pub IsRunningWhy : (List ℕ → Type 0) → (List ℕ → Type 0) → List ℕ → Option (Bor (List ℕ))
    → FtpdExit → Type 0
IsRunningWhy refused fails config None ending =
    IsAgainstWhy refused fails config RUNNING_FILE.now ending
IsRunningWhy refused fails config (Some other) ending = IsCommon IsNoLine ending

abbrev pub AreRunningOpened : {O : Type 0} → (O → List ℕ → O → Type 0) → O → O → List ℕ
    → Option (Bor (List ℕ)) → FtpdExit → Type 0
AreRunningOpened opens old new config None ending =
    AreAgainstOpened opens old new config RUNNING_FILE.now ending
AreRunningOpened opens old new config (Some other) ending = new ≡ old

-- the same two of `check-config`, with another configuration if one is stated, or the running file
abbrev pub IsConfigWhy : (List ℕ → Type 0) → (List ℕ → Type 0) → Bor (List ℕ)
    → Option (Bor (List ℕ)) → Bool → FtpdExit → Type 0
IsConfigWhy refused fails config against true ending =
    IsRunningWhy refused fails config.now against ending
IsConfigWhy refused fails config None false ending =
    IsReadWhy config.now (refused config.now ⊎ fails config.now) ending
IsConfigWhy refused fails config (Some other) false ending =
    IsAgainstWhy refused fails config.now other.now ending

abbrev pub AreConfigOpened : {O : Type 0} → (O → List ℕ → O → Type 0) → O → O → Bor (List ℕ)
    → Option (Bor (List ℕ)) → Bool → FtpdExit → Type 0
AreConfigOpened opens old new config against true ending =
    AreRunningOpened opens old new config.now against ending
AreConfigOpened opens old new config None false ending = opens old config.now new
AreConfigOpened opens old new config (Some other) false ending =
    AreAgainstOpened opens old new config.now other.now ending

-- the cause of the fault with which that command ends, if it ends with one
abbrev pub IsCommandWhy : (List ℕ → Octets) → (List ℕ → Type 0) → (List ℕ → Type 0)
    → (List ℕ → Type 0) → Type 0 → Words → FtpdExit → Type 0
IsCommandWhy gives refused fails refuses breaks (Sheet words) ending =
    IsCommon (IsSheetWhy gives refused fails refuses words) ending
IsCommandWhy gives refused fails refuses breaks (CheckConfig config json against running share_by)
    ending =
    IsConfigWhy refused fails config against running ending
IsCommandWhy gives refused fails refuses breaks (Migrate config) ending =
    IsReadWhy config.now (refused config.now ⊎ fails config.now) ending
IsCommandWhy gives refused fails refuses breaks (Script config) ending =
    IsScriptWhy gives refused fails breaks config.now ending
IsCommandWhy gives refused fails refuses breaks (Serve config files patience) ending =
    IsReadWhy config.now (refused config.now ⊎ fails config.now) ending
IsCommandWhy gives refused fails refuses breaks (Plan config transfers json share_by) ending =
    IsReadWhy config.now (refused config.now ⊎ fails config.now) ending
IsCommandWhy gives refused fails refuses breaks (Top status once rows) ending =
    IsReadWhy status.now (refused status.now ⊎ fails status.now) ending
IsCommandWhy gives refused fails refuses breaks Usage ending = Unit {0}

-- the files that a command opens, in the order of its words
abbrev pub AreCommandOpened : {O : Type 0} → (O → List ℕ → O → Type 0) → O → O → (List ℕ → Type 0)
    → Words → FtpdExit → Type 0
AreCommandOpened opens old new refused (Sheet words) ending =
    IsCommon (AreOpened opens old new refused words) ending
AreCommandOpened opens old new refused (CheckConfig config json against running share_by) ending =
    AreConfigOpened opens old new config against running ending
AreCommandOpened opens old new refused (Migrate config) ending = opens old config.now new
AreCommandOpened opens old new refused (Script config) ending =
    AreScriptOpened opens old new refused config.now ending
AreCommandOpened opens old new refused (Serve config files patience) ending =
    opens old config.now new
AreCommandOpened opens old new refused (Plan config transfers json share_by) ending =
    opens old config.now new
AreCommandOpened opens old new refused (Top status once rows) ending = opens old status.now new
AreCommandOpened opens old new refused Usage ending = new ≡ old
