-- The service that the words of a command line ask for.
use Rattle.std.specs.Prelude.{◌≡◌, ℕ, Bool, ◌||◌, cond, List, ◌++◌, codes, Option, Some, None, is_some, option_map, string_bytes, String}
use Rattle.client_patience.specs.declared.patience.Patience.{Patience}
use Rattle.command_line.specs.declared.words.ServeFiles.{ServeFiles}
use Rattle.ftpd_program.specs.declared.server.ReadConfig.{ReadConfig}
use Rattle.line_rates.specs.Rates.{shared_by}
use Rattle.line_rates.specs.declared.share_by.ShareBy.{ShareBy}
use Rattle.server_config.specs.declared.config.Config.{Config}
use Rattle.machine_parts.specs.declared.asked.AskedService.{AskedService}
use Rattle.machine_parts.specs.declared.asked.ReadText.{ReadText}
use Rattle.machine_parts.specs.declared.asked.SignPaths.{SignPaths}
use Rattle.machine_parts.specs.declared.asked.WrittenPaths.{WrittenPaths}

-- the path of the new file beside that of a path
abbrev pub beside : List ℕ → List ℕ
beside path = path ++ codes ".new"

abbrev pub both_texts : {Y Z : Type 0} → String Y × String Z → List ℕ × List ℕ
both_texts both = (string_bytes both.0, string_bytes both.1)

abbrev pub and_beside : List ℕ → List ℕ × List ℕ
and_beside path = (path, beside path)

-- each sign has the path that is stated for it, if one is
pub record AreSigns (files : ServeFiles) (paths : SignPaths) : Type 0 where
  pub stop : option_map string_bytes paths.stop ≡ option_map (λ t. t.now) files.stop_file
  pub drain : option_map string_bytes paths.drain ≡ option_map (λ t. t.now) files.drain_file
  pub reload : option_map string_bytes paths.reload ≡ option_map (λ t. t.now) files.reload_file
  pub end : option_map string_bytes paths.end ≡ option_map (λ t. t.now) files.end_file

-- each file that is written has the path that is stated for it, if one is; one that is written anew
-- each time has the path of a new file beside it too
pub record AreWritten (files : ServeFiles) (paths : WrittenPaths) : Type 0 where
  pub ready : option_map string_bytes paths.ready ≡ option_map (λ t. t.now) files.ready_file
  pub log : option_map string_bytes paths.log ≡ option_map (λ t. t.now) files.transfer_log
  pub status : option_map (λ both. both_texts both) paths.status
      ≡ option_map (λ t. and_beside t.now) files.status
  pub running : option_map (λ both. both_texts both) paths.running
      ≡ option_map (λ t. and_beside t.now) files.running_file

-- a configuration, of a line that is shared among these
abbrev pub among : ShareBy → Config → Config
among by config = record config {
  limits = shared_by by config.limits;
}

-- the configuration as it was read, of a line that is shared as the words state; its octets are
-- kept if they are needed
pub record IsKept (read : ReadConfig) (by : ShareBy) (keeps : Bool) (kept : ReadText) : Type 0 where
  pub path : string_bytes kept.path ≡ read.path.now
  pub config : kept.config ≡ among by read.config
  pub warnings : string_bytes kept.warnings ≡ read.warnings.now
  pub octets : option_map (λ octets. octets.items) kept.octets
      ≡ cond keeps (Some read.octets.now) None

-- the octets of the configuration are needed if it may be read again, or if there is to be a
-- running file
abbrev pub needs_octets : ServeFiles → Bool
needs_octets files = is_some files.reload_file || is_some files.running_file

-- the service has what the words state, part by part
pub record IsAsked (read : ReadConfig) (files : ServeFiles) (patience : Patience)
    (service : AskedService) : Type 0 where
  pub read_text : IsKept read files.share_by (needs_octets files) service.read
  pub signs : AreSigns files service.signs
  pub written : AreWritten files service.written
  pub log_form : option_map string_bytes service.log_form
      ≡ option_map (λ t. t.now) files.log_form
  pub status_port : service.status_port ≡ files.status_port
  pub syncs : service.syncs ≡ files.syncs
  pub user_sessions : option_map string_bytes service.user_sessions
      ≡ option_map (λ t. t.now) files.user_sessions
  pub patience_is : service.patience ≡ patience

-- there is a service that has what the words state
abbrev pub HasAsked : ReadConfig → ServeFiles → Patience → Option AskedService → Type 0
HasAsked read files patience None = ⊥
HasAsked read files patience (Some service) = IsAsked read files patience service
