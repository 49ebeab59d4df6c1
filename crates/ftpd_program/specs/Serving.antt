-- The effect of `serve`.
use Rattle.std.specs.Prelude.{ℕ, List, Option, Result, Ok, Err}
use Rattle.client_patience.specs.declared.patience.Patience.{Patience}
use Rattle.config_report.specs.Looks.{Shown}
use Rattle.server_config.specs.declared.config.Config.{Config}
use Rattle.sheets_program.specs.Runs.{Octets}
use Rattle.sheets_program.specs.declared.ending.Exit.TheVariants.{Done, Text}
use Rattle.ftpd_program.specs.Faults.{IsReadingFaultOf}
use Rattle.ftpd_program.specs.Scripting.{IsRefusalOf, IsWarnedOf}
use Rattle.ftpd_program.specs.declared.ending.FtpdExit.{FtpdExit}
use Rattle.ftpd_program.specs.declared.ending.FtpdExit.TheVariants.{Common, Config as Unread, Server}
use Rattle.ftpd_program.specs.declared.server.ServeFault.{ServeFault}

abbrev pub Answer : Type 0
Answer = Result (Unit {0}) ServeFault

-- the possible calls of a server: the configuration, the texts of its warnings, the stop file, the
-- ready file, the patience, the contents of the output before and after, and the result
abbrev pub Service : Type 1
Service =
    Config → List ℕ → Option (List ℕ) → Option (List ℕ) → Patience → Option (List ℕ)
    → Option (List ℕ) → Answer → Type 0

-- a file of a path that may have these contents has that configuration, with those warnings by the
-- possible results of looks at the machine
abbrev pub IsWarnedIn : Octets → Shown → List ℕ → Config → List ℕ → Type 0
IsWarnedIn gives shown path config reported =
    (text : Option (List ℕ)) × gives text × IsWarnedOf shown path text config reported

-- the server had that result for the configuration of the file, with its warnings
abbrev pub IsAnswered : Octets → Shown → List ℕ → Service → Option (List ℕ) → Option (List ℕ)
    → Patience → Option (List ℕ) → Option (List ℕ) → Answer → Type 0
IsAnswered gives shown path serves stop ready patience old new answer =
    (config : Config) × (reported : List ℕ) × IsWarnedIn gives shown path config reported
    × serves config reported stop ready patience old new answer

-- the ending of a command without a configuration of its file
abbrev pub IsUnconfiguredEnd : Octets → FtpdExit → Type 0
IsUnconfiguredEnd gives (Common (Text fault cause)) = IsReadingFaultOf gives fault
IsUnconfiguredEnd gives (Unread file fault) =
    (text : Option (List ℕ)) × gives text × IsRefusalOf text fault
IsUnconfiguredEnd gives _ = ⊥

-- the ending of `serve`, by the contents that the configuration may have, the possible results of
-- looks at the machine, the path of the configuration, a server, a stop file and a ready file, if
-- any, and a patience
abbrev pub IsServeEnd : Octets → Shown → List ℕ → Service → Option (List ℕ) → Option (List ℕ)
    → Patience → Option (List ℕ) → Option (List ℕ) → FtpdExit → Type 0
IsServeEnd gives shown path serves stop ready patience old new (Common Done) =
    IsAnswered gives shown path serves stop ready patience old new (Ok tt)
IsServeEnd gives shown path serves stop ready patience old new (Server fault) =
    IsAnswered gives shown path serves stop ready patience old new (Err fault)
IsServeEnd gives shown path serves stop ready patience old new ending =
    IsUnconfiguredEnd gives ending

-- the ending of a command for the result of the server
abbrev pub end_of : Answer → FtpdExit
end_of (Ok done) = Common Done
end_of (Err fault) = Server fault
