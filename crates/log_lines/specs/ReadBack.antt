-- The lines that the server writes are read back.
use Rattle.std.specs.Prelude.{◌≡◌, ℕ, ◌<◌, ◌^◌, ◌/◌, ◌%◌, Bool, ◌||◌, List, ◌++◌, Option, Some, codes, slice_index, unsigned_abs}
use Rattle.std.specs.Net.Text.{ipv4_text}
use Rattle.std.specs.Str.{IsUtf8, bytes_eq}
use Rattle.jiff_core.specs.declared.civil.date.Date.{Date}
use Rattle.ftp_reply.specs.Dates.{FallsOn}
use Rattle.transfer_log.specs.Lines.{IsTransferLine, reported_moment, whole_seconds}
use Rattle.transfer_log.specs.Names.{field_text}
use Rattle.transfer_log.specs.declared.line.FileTransfer.{FileTransfer}
use Rattle.log_lines.specs.Lines.{Line, line_of}
use Rattle.log_lines.specs.Words.{Octets}
use Rattle.log_lines.specs.declared.moment.LogMoment.{LogMoment}

-- the users that are for everybody
abbrev pub is_public : Octets → Bool
is_public user = bytes_eq user (codes "anonymous") || bytes_eq user (codes "ftp")

-- the second of the day of a moment, in seconds since 1970, in UTC
abbrev pub moment_on : Date → ℕ → LogMoment
moment_on date seconds = record {
  day = record { year = unsigned_abs date.year; month = date.month; day = date.day };
  hour = seconds / 3600 % 24;
  minute = seconds / 60 % 60;
  second = seconds % 60;
}

-- the fields of the line of a transfer, by the day of its end
abbrev pub recorded : FileTransfer → Date → Line
recorded transfer date = record {
  ended = moment_on date (reported_moment transfer);
  size = record {
    seconds = whole_seconds transfer.micros;
    address = ipv4_text transfer.peer;
    octets = transfer.octets;
    path = field_text transfer.path.now;
  };
  kind = record {
    is_text = transfer.is_text;
    is_sent = transfer.is_sent;
    is_public = is_public transfer.user.now;
  };
  user = field_text transfer.user.now;
  is_whole = transfer.is_whole;
}

-- the text is a line, with its end, that says what is recorded of the transfer
pub record IsReadBack (transfer : FileTransfer) (text : List ℕ) : Type 0 where
  pub date : Date
  pub falls_on : FallsOn (reported_moment transfer) date
  pub line : List ℕ
  pub ends : text ≡ line ++ codes "\n"
  pub said : line_of line ≡ Some (recorded transfer date)

-- a transfer that a program has: its numbers are of their types, and its texts UTF-8
pub record IsHeld (transfer : FileTransfer) : Type 0 where
  pub micros : transfer.micros < 2 ^ 64
  pub octets : transfer.octets < 2 ^ 64
  pub peer : (i : ℕ) → slice_index transfer.peer i < 256
  pub path : IsUtf8 transfer.path.now
  pub user : IsUtf8 transfer.user.now

-- the line of a transfer, as the server writes it, is read as what is recorded of it
abbrev pub WhatIsWrittenIsRead : Type 0
WhatIsWrittenIsRead =
    (transfer : FileTransfer) (text : List ℕ) → IsHeld transfer → IsTransferLine transfer text
    → IsReadBack transfer text
