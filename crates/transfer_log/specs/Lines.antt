-- The line of a transfer, as of xferlog(5).
use Rattle.std.specs.Prelude.{◌≡◌, ℕ, ◌/◌, Bool, true, false, ◌||◌, if◌then◌else◌, List, [], ◌∷◌, ◌++◌, codes, max, min}
use Rattle.std.specs.Fmt.{decimal}
use Rattle.std.specs.Net.Text.{ipv4_text}
use Rattle.std.specs.Str.{bytes_eq}
use Rattle.ftp_terms.specs.declared.entries.TheConstants.{LATEST}
use Rattle.transfer_log.specs.Moments.{IsMoment}
use Rattle.transfer_log.specs.Names.{field_text}
use Rattle.transfer_log.specs.declared.line.FileTransfer.{FileTransfer}

-- the moment of the end, within the calendar
abbrev pub reported_moment : FileTransfer → ℕ
reported_moment transfer = min transfer.ended LATEST

-- the whole seconds of a time, at least 1
abbrev pub whole_seconds : ℕ → ℕ
whole_seconds micros = max (micros / 1_000_000) 1

-- transfer-time, remote-host and file-size
abbrev pub size_text : FileTransfer → List ℕ
size_text transfer =
    codes " " ++ decimal (whole_seconds transfer.micros) ++ codes " " ++ ipv4_text transfer.peer
    ++ codes " " ++ decimal transfer.octets ++ codes " "

abbrev direction_text : Bool → List ℕ
direction_text true = codes "o "
direction_text false = codes "i "

-- transfer-type, special-action-flag and direction
abbrev pub type_text : FileTransfer → List ℕ
type_text transfer =
    (if transfer.is_text then codes " a _ " else codes " b _ ") ++ direction_text transfer.is_sent

-- access-mode: `a` for the users that are for everybody, otherwise `r`
abbrev pub access_text : List ℕ → List ℕ
access_text user =
    if bytes_eq user (codes "anonymous") || bytes_eq user (codes "ftp") then codes "a "
    else codes "r "

-- service-name, authentication-method, authenticated-user-id and completion-status
abbrev pub ending_text : Bool → List ℕ
ending_text true = codes " ftp 0 * c\n"
ending_text false = codes " ftp 0 * i\n"

-- the fields after the filename
abbrev pub user_text : FileTransfer → List ℕ
user_text transfer =
    type_text transfer ++ access_text transfer.user.now ++ field_text transfer.user.now
    ++ ending_text transfer.is_whole

-- the text is the line of the transfer
pub record IsTransferLine (transfer : FileTransfer) (text : List ℕ) : Type 0 where
  pub moment : List ℕ
  pub is_moment : IsMoment (reported_moment transfer) moment
  pub text_is : text ≡ moment ++ size_text transfer ++ field_text transfer.path.now
      ++ user_text transfer
