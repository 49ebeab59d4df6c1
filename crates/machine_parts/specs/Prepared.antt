-- The files of a server: they are those of the service that is asked for.
use Rattle.std.specs.Prelude.{◌≡◌, ◌++◌, ℕ, Bool, false, List, Option, Some, None, is_some, option_map, string_bytes, String}
use Rattle.machine_parts.specs.Answers.{group_mode, owner_mode}
use Rattle.machine_parts.specs.Starting.{IsFileIf, StateSessions, form_of, idle_lines}
use Rattle.machine_parts.specs.declared.asked.AskedService.{AskedService}
use Rattle.machine_parts.specs.declared.asked.SignPaths.{SignPaths}
use Rattle.machine_parts.specs.declared.log_file.LogFile.{LogFile}
use Rattle.machine_parts.specs.declared.ready_file.MachineReadyFile.{MachineReadyFile}
use Rattle.machine_parts.specs.declared.sign_file.SignFile.{SignFile}
use Rattle.machine_parts.specs.declared.sign_file.SignLook.{SignLook}
use Rattle.machine_parts.specs.declared.sign_file.SignLook.TheVariants as look
use Rattle.machine_parts.specs.declared.starting.Hindrance.{Hindrance}
use Rattle.machine_parts.specs.declared.starting.Hindrance.TheVariants.{There, Reported}
use Rattle.machine_parts.specs.declared.starting.Prepared.{Prepared}
use Rattle.machine_parts.specs.declared.starting.Shown.{Shown}
use Rattle.machine_parts.specs.declared.starting.Signs.{Signs}

-- the hindrance that a look at the path itself shows
abbrev pub hindrance_of : SignLook → Option Hindrance
hindrance_of look.There = Some There
hindrance_of look.Nothing = None
hindrance_of (look.Unseen reason) = Some (Reported reason)

-- a sign is noticed at the path that is stated for it, if one is
abbrev pub IsSignAt : {Y : Type 0} → Option (String Y) → Option SignFile → Type 0
IsSignAt path sign = option_map (λ sign. string_bytes sign.path) sign ≡ option_map string_bytes path

abbrev pub end_paths : {Y : Type 0} → SignFile × String Y → List ℕ × List ℕ
end_paths end = (string_bytes end.0.path, string_bytes end.1)

abbrev pub path_twice : {Y : Type 0} → String Y → List ℕ × List ℕ
path_twice path = (string_bytes path, string_bytes path)

-- so is the end file, whose path is there twice
abbrev pub IsEndAt : {Y Z : Type 0} → Option (String Y) → Option (SignFile × String Z) → Type 0
IsEndAt path end =
    option_map (λ end. end_paths end) end ≡ option_map (λ path. path_twice path) path

-- each sign is noticed at its own path
pub record AreSignsAt (paths : SignPaths) (signs : Signs) : Type 0 where
  pub stop : IsSignAt paths.stop signs.stop
  pub drain : IsSignAt paths.drain signs.drain
  pub reload : IsSignAt paths.reload signs.reload
  pub end : IsEndAt paths.end signs.end

abbrev pub ready_path : MachineReadyFile → List ℕ × Bool
ready_path ready = (string_bytes ready.path, ready.is_there)

abbrev pub path_unmade : {Y : Type 0} → String Y → List ℕ × Bool
path_unmade path = (string_bytes path, false)

-- the ready file is to be at the path that is stated for it, if one is, and is not there yet
abbrev pub IsReadyAt : {Y : Type 0} → Option (String Y) → Option MachineReadyFile → Type 0
IsReadyAt path ready =
    option_map ready_path ready ≡ option_map (λ path. path_unmade path) path

-- the transfer log is at the path that is stated for it, if one is
abbrev pub IsLogAt : {Y : Type 0} → Option (String Y) → Option LogFile → Type 0
IsLogAt path log = option_map (λ log. string_bytes log.path) log ≡ option_map string_bytes path

-- The running file and the status file are at the paths that are stated for them, if they are, with
-- the permissions of each; there is a page if a port is stated.
pub record AreShownAt {Y Z : Type 0} (running status : Option (String Y × String Z))
    (port : Option ℕ) (shown : Shown) : Type 0 where
  pub running_is : IsFileIf owner_mode running shown.running
  pub status_is : IsFileIf group_mode status shown.status
  pub page : is_some shown.page ≡ is_some port

-- A server that is prepared has what was asked for, part by part: its configuration, with lines on
-- options that have no effect among its warnings; its files; and what the words state.
pub record IsPrepared (service : AskedService) (prepared : Prepared) : Type 0 where
  pub path : prepared.means.read.path ≡ service.read.path
  pub config : prepared.means.read.config ≡ service.read.config
  pub octets : prepared.means.read.octets ≡ service.read.octets
  pub warnings : string_bytes prepared.means.read.warnings ≡ string_bytes service.read.warnings
      ++ idle_lines service.read.config.store service.syncs prepared.means.user_sessions
      service.read.config.numbers.max_cons
  pub signs : AreSignsAt service.signs prepared.means.signs
  pub ready : IsReadyAt service.written.ready prepared.ready
  pub shown : AreShownAt service.written.running service.written.status service.status_port
      prepared.means.shown
  pub log : IsLogAt service.written.log prepared.means.log
  pub form : form_of (option_map string_bytes service.log_form) ≡ Some prepared.means.form
  pub syncs : prepared.means.syncs ≡ service.syncs
  pub user_sessions : StateSessions (option_map string_bytes service.user_sessions)
      prepared.means.user_sessions
  pub patience_is : prepared.means.patience ≡ service.patience
