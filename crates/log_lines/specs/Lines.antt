-- The line of a transfer log, read.
use Rattle.std.specs.Prelude.{ℕ, Bool, ◌&&◌, if◌then◌else◌, List, [], ◌∷◌, Option, Some, None, option_map}
use Rattle.std.specs.Option.{option_and_then}
use Rattle.std.specs.Str.{is_utf8}
use Rattle.log_lines.specs.Kinds.{ending_of, kind_taken}
use Rattle.log_lines.specs.Moments.{moment_taken}
use Rattle.log_lines.specs.Names.{is_name}
use Rattle.log_lines.specs.Numbers.{number_of}
use Rattle.log_lines.specs.Words.{Octets, parts}
use Rattle.log_lines.specs.declared.kind.Kind.{Kind}
use Rattle.log_lines.specs.declared.line.LogLine.{LogLine}
use Rattle.log_lines.specs.declared.line.SizeWords.{SizeWords}
use Rattle.log_lines.specs.declared.moment.LogMoment.{LogMoment}

-- transfer-time, remote-host, file-size and filename
pub record Size : Type 0 where
  pub seconds : ℕ
  pub address : Octets
  pub octets : ℕ
  pub path : Octets

-- the fields of a line
pub record Line : Type 0 where
  pub ended : LogMoment
  pub size : Size
  pub kind : Kind
  pub user : Octets
  pub is_whole : Bool

abbrev pub size_at : Octets → Octets → ℕ → ℕ → Size
size_at address path seconds octets =
    record { seconds = seconds; address = address; octets = octets; path = path }

-- two numbers and two names
abbrev pub size_of : Octets → Octets → Octets → Octets → Option Size
size_of seconds address octets path =
    if is_name address && is_name path
    then option_and_then
    (λ s. option_map (size_at address path s) (number_of octets)) (number_of seconds)
    else None

-- the size that was read
abbrev pub size_view : SizeWords → Size
size_view size = size_at size.address.now size.path.now size.seconds size.octets

-- the size that words begin with, and the words after it
abbrev pub size_taken : List Octets → Option (Size × List Octets)
size_taken (seconds ∷ address ∷ octets ∷ path ∷ more) =
    option_map (λ size. (size, more)) (size_of seconds address octets path)
size_taken words = None

-- the name that words begin with, and the words after it
abbrev pub name_taken : List Octets → Option (Octets × List Octets)
name_taken [] = None
name_taken (word ∷ more) = if is_name word then Some (word, more) else None

-- the fields of a line in their order, by the words between single blanks
abbrev pub line_of_words : List Octets → Option Line
line_of_words words =
    option_and_then
    (λ moment. option_and_then
    (λ size. option_and_then
    (λ kind. option_and_then
    (λ user. option_map
    (λ whole. record {
      ended = moment.0;
      size = size.0;
      kind = kind.0;
      user = user.0;
      is_whole = whole;
    }) (ending_of user.1)) (name_taken kind.1)) (kind_taken size.1)) (size_taken moment.1))
    (moment_taken words)

-- the line of a text
abbrev pub line_of : Octets → Option Line
line_of text = if is_utf8 text then line_of_words (parts 32 text) else None

-- the fields of a line that was read
abbrev pub line_view : LogLine → Line
line_view line = record {
  ended = line.ended;
  size = record {
    seconds = line.seconds;
    address = line.address.now;
    octets = line.octets;
    path = line.path.now;
  };
  kind = record {
    is_text = line.is_text;
    is_sent = line.is_sent;
    is_public = line.is_public;
  };
  user = line.user.now;
  is_whole = line.is_whole;
}
