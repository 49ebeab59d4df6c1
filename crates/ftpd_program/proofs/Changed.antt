-- The ends of `check-config` with another configuration.
use Rattle.std.proofs.Common.{◌≡◌, ◌≢◌, ◌⊎◌, ℕ, Bool, List, Option, Some, inl, inr, refl, sym, ◌∙◌}
use Rattle.change_report.specs.Reports.{IsReportOf}
use Rattle.change_report.specs.declared.reporting.ChangeReport.{ChangeReport}
use Rattle.sheets_program.specs.Endings.{IsNoLine, IsRefusedAs}
use Rattle.sheets_program.specs.Runs.{Octets, text_file}
use Rattle.sheets_program.specs.declared.ending.Exit.{Exit}
use Rattle.sheets_program.specs.declared.ending.Exit.TheVariants.{Done, Flawed, Refused, Text, Share, Check}
use Rattle.text_io.specs.declared.fault.TextFault.{TextFault}
use Rattle.text_io.specs.declared.fault.TextFault.TheVariants.{TooLong, ReadFault, WriteFault, Memory}
use Rattle.ftpd_program.specs.Against.{IsChangeEnd, IsChangeWritten, IsRefusedChange, IsTextIn, IsUnread}
use Rattle.ftpd_program.specs.Causes.{IsReadWhy, IsWithoutText}
use Rattle.ftpd_program.specs.Faults.{IsReadingFaultOf}
use Rattle.ftpd_program.specs.declared.ending.FtpdExit.{FtpdExit}
use Rattle.ftpd_program.specs.declared.ending.FtpdExit.TheVariants.{Common, Config, ConfigOf, NoReload, Transfers, Session, Server, Status, Watches, AddsUp}

-- a fault of a file names it
pub named_file : (path : List ℕ) (fault : TextFault) (file : Option (List ℕ)) → fault ≢ WriteFault → file ≡ text_file path fault → fault ≢ Memory → file ≡ Some path
named_file path TooLong file read is apart = is
named_file path ReadFault file read is apart = is
named_file path WriteFault file read is apart = absurd (read refl)
named_file path Memory file read is apart = absurd (apart refl)

-- the ending after a report that was written, or that the output refused
pub written_end : (json : Bool) (config other new old : List ℕ) (Refuses : List ℕ → Type 0) (before after : Option (List ℕ)) (report : ChangeReport) (ending : FtpdExit)
    → IsReportOf json old new report → IsChangeWritten report Refuses before after ending → IsChangeEnd json config other new old Refuses before after ending
written_end json config other new old Refuses before after report (Common Done) of is = (report, of, is.0, is.1)
written_end json config other new old Refuses before after report NoReload of is = (report, of, is.0, is.1)
written_end json config other new old Refuses before after report (Common (Text fault cause)) of is = inr (is.0, (report, of, is.1))
written_end json config other new old Refuses before after report (Common Flawed) of is = absurd is
written_end json config other new old Refuses before after report (Common (Refused reported)) of is = absurd is
written_end json config other new old Refuses before after report (Common (Share fault cause)) of is = absurd is
written_end json config other new old Refuses before after report (Common (Check fault cause)) of is = absurd is
written_end json config other new old Refuses before after report (Config file fault) of is = absurd is
written_end json config other new old Refuses before after report (ConfigOf file fault) of is = absurd is
written_end json config other new old Refuses before after report (Transfers name reported) of is = absurd is
written_end json config other new old Refuses before after report (Session fault) of is = absurd is
written_end json config other new old Refuses before after report (Server fault) of is = absurd is
written_end json config other new old Refuses before after report (Status file fault) of is = absurd is
written_end json config other new old Refuses before after report (Watches status rows) of is = absurd is
written_end json config other new old Refuses before after report AddsUp of is = absurd is

-- the ending for a configuration that is refused
pub refused_end : (json : Bool) (config other new old : List ℕ) (Refuses : List ℕ → Type 0) (before after : Option (List ℕ)) (ending : FtpdExit)
    → IsRefusedChange config other new old ending → IsChangeEnd json config other new old Refuses before after ending
refused_end json config other new old Refuses before after (Common (Text fault cause)) is = inl is
refused_end json config other new old Refuses before after (ConfigOf file fault) is = is
refused_end json config other new old Refuses before after (Common Done) is = absurd is
refused_end json config other new old Refuses before after (Common Flawed) is = absurd is
refused_end json config other new old Refuses before after (Common (Refused reported)) is = absurd is
refused_end json config other new old Refuses before after (Common (Share fault cause)) is = absurd is
refused_end json config other new old Refuses before after (Common (Check fault cause)) is = absurd is
refused_end json config other new old Refuses before after NoReload is = absurd is
refused_end json config other new old Refuses before after (Config file fault) is = absurd is
refused_end json config other new old Refuses before after (Transfers name reported) is = absurd is
refused_end json config other new old Refuses before after (Session fault) is = absurd is
refused_end json config other new old Refuses before after (Server fault) is = absurd is
refused_end json config other new old Refuses before after (Status file fault) is = absurd is
refused_end json config other new old Refuses before after (Watches status rows) is = absurd is
refused_end json config other new old Refuses before after AddsUp is = absurd is

-- a refused line
pub no_line : (reported : List ℕ) (exit : Exit) → IsRefusedAs reported exit → IsNoLine exit
no_line reported (Refused text) is = tt
no_line reported Done is = absurd is
no_line reported Flawed is = absurd is
no_line reported (Text fault cause) is = is
no_line reported (Share fault cause) is = absurd is
no_line reported (Check fault cause) is = absurd is

pub line_why : (reported path : List ℕ) (may : Type 0) (exit : Exit) → IsRefusedAs reported exit → IsReadWhy path may (Common exit)
line_why reported path may (Refused text) is = tt
line_why reported path may Done is = absurd is
line_why reported path may Flawed is = absurd is
line_why reported path may (Text fault cause) is = (
  λ read. let bad : Memory ≡ ReadFault = sym is ∙ read in absurd (cc),
  λ long. let bad : Memory ≡ TooLong = sym is ∙ long in absurd (cc),
)
line_why reported path may (Share fault cause) is = absurd is
line_why reported path may (Check fault cause) is = absurd is

-- a file that cannot be read: nothing is written
pub without_text : (gives : Octets) (path : List ℕ) (exit : Exit) → IsUnread gives path exit → IsWithoutText (Common exit)
without_text gives path (Text TooLong cause) is = λ same. cc
without_text gives path (Text ReadFault cause) is = λ same. cc
without_text gives path (Text WriteFault cause) is = absurd is.0
without_text gives path (Text Memory cause) is = λ same. cc
without_text gives path Done is = absurd is
without_text gives path Flawed is = absurd is
without_text gives path (Refused text) is = absurd is
without_text gives path (Share fault cause) is = absurd is
without_text gives path (Check fault cause) is = absurd is

fault_before : (gives now : Octets) (fault : TextFault) → ((octets : Option (List ℕ)) → now octets → gives octets) → IsReadingFaultOf now fault → IsReadingFaultOf gives fault
fault_before gives now TooLong stays is = (is.0, stays is.0 is.1, is.2)
fault_before gives now ReadFault stays is = tt
fault_before gives now WriteFault stays is = is
fault_before gives now Memory stays is = tt

-- what a file cannot give now, it could not before
pub unread_before : (gives now : Octets) (path : List ℕ) (exit : Exit) → ((octets : Option (List ℕ)) → now octets → gives octets) → IsUnread now path exit → IsUnread gives path exit
unread_before gives now path (Text fault cause) stays is = (fault_before gives now fault stays is.0, is.1)
unread_before gives now path Done stays is = absurd is
unread_before gives now path Flawed stays is = absurd is
unread_before gives now path (Refused text) stays is = absurd is
unread_before gives now path (Share fault cause) stays is = absurd is
unread_before gives now path (Check fault cause) stays is = absurd is

pub why_before : (path : List ℕ) (refused refuses fails failing : Type 0) (exit : Exit) → (refuses → refused) → (failing → fails)
    → IsReadWhy path (refuses ⊎ failing) (Common exit) → IsReadWhy path (refused ⊎ fails) (Common exit)
why_before path refused refuses fails failing (Text fault cause) more less is = (λ read. (either (is.0 read).0, (is.0 read).1), is.1)
  where
    either : refuses ⊎ failing → refused ⊎ fails
    either (inl a) = inl (more a)
    either (inr b) = inr (less b)
why_before path refused refuses fails failing Done more less is = tt
why_before path refused refuses fails failing Flawed more less is = tt
why_before path refused refuses fails failing (Refused text) more less is = tt
why_before path refused refuses fails failing (Share fault cause) more less is = tt
why_before path refused refuses fails failing (Check fault cause) more less is = tt

-- no fault of a file
pub change_why : (json : Bool) (config other new old path : List ℕ) (may : Type 0) (Refuses : List ℕ → Type 0) (before after : Option (List ℕ)) (ending : FtpdExit)
    → IsChangeEnd json config other new old Refuses before after ending → IsReadWhy path may ending
change_why json config other new old path may Refuses before after (Common (Text fault cause)) (inl is) = (
  λ read. let bad : Memory ≡ ReadFault = sym is ∙ read in absurd (cc),
  λ long. let bad : Memory ≡ TooLong = sym is ∙ long in absurd (cc),
)
change_why json config other new old path may Refuses before after (Common (Text fault cause)) (inr is) = (
  λ read. let bad : WriteFault ≡ ReadFault = sym is.0 ∙ read in absurd (cc),
  λ long. let bad : WriteFault ≡ TooLong = sym is.0 ∙ long in absurd (cc),
)
change_why json config other new old path may Refuses before after (Common Done) is = tt
change_why json config other new old path may Refuses before after (Common Flawed) is = tt
change_why json config other new old path may Refuses before after (Common (Refused reported)) is = tt
change_why json config other new old path may Refuses before after (Common (Share fault cause)) is = tt
change_why json config other new old path may Refuses before after (Common (Check fault cause)) is = tt
change_why json config other new old path may Refuses before after NoReload is = tt
change_why json config other new old path may Refuses before after (Config file fault) is = absurd is
change_why json config other new old path may Refuses before after (ConfigOf file fault) is = tt
change_why json config other new old path may Refuses before after (Transfers name reported) is = tt
change_why json config other new old path may Refuses before after (Session fault) is = tt
change_why json config other new old path may Refuses before after (Server fault) is = tt
change_why json config other new old path may Refuses before after (Status file fault) is = absurd is
change_why json config other new old path may Refuses before after (Watches status rows) is = tt
change_why json config other new old path may Refuses before after AddsUp is = tt
