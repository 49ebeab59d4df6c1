-- The line of a table or of a key in the text of a file.
use Rattle.std.specs.Prelude.{ℕ, suc, Bool, true, false, ◌||◌, ◌&&◌, not, ◌-◌, nat_eq, nat_le, nat_lt, List, [], ◌∷◌, codes, Option, Some, None, unwrap_or, slice_get, if◌then◌else◌}
use Rattle.config_file.specs.declared.fault.TableName.{TableName}
use Rattle.config_file.specs.declared.fault.TableName.TheVariants as name
use Rattle.config_file.specs.declared.lines.Point.{Point}
use Rattle.config_file.specs.declared.lines.Within.{Within}
use Rattle.config_file.specs.declared.lines.Within.TheVariants.{Plain, Comment, Text, Escaped, Opened, Doubled, Long, LongEscaped, Closing, Closed}
use Rattle.config_file.specs.Statements.{is_blank, is_headed, is_header, is_stated}

-- ---- texts and comments

-- after an octet outside texts and comments
abbrev pub from_plain : ℕ → Within
from_plain octet =
    if nat_eq octet 35 then Comment
    else if nat_eq octet 34 || nat_eq octet 39 then Opened octet else Plain

-- after an octet of a text of one line, with this quote: a backslash escapes between double quotes
abbrev pub from_text : ℕ → ℕ → Within
from_text quote octet =
    if nat_eq octet quote || nat_eq octet 10 then Plain
    else if nat_eq octet 92 && nat_eq quote 34 then Escaped quote else Text quote

-- after an octet of a text of several lines, which ends at its third quote
abbrev pub from_long : ℕ → ℕ → Within
from_long quote octet =
    if nat_eq octet quote then Closing quote
    else if nat_eq octet 92 && nat_eq quote 34 then LongEscaped quote else Long quote

abbrev pub turn : Within → ℕ → Within
turn Plain octet = from_plain octet
turn Comment octet = if nat_eq octet 10 then Plain else Comment
turn (Text quote) octet = from_text quote octet
turn (Escaped quote) octet = Text quote
turn (Opened quote) octet = if nat_eq octet quote then Doubled quote else from_text quote octet
turn (Doubled quote) octet = if nat_eq octet quote then Long quote else from_plain octet
turn (Long quote) octet = from_long quote octet
turn (LongEscaped quote) octet = Long quote
turn (Closing quote) octet = if nat_eq octet quote then Closed quote else from_long quote octet
turn (Closed quote) octet = if nat_eq octet quote then Plain else from_long quote octet

-- outside texts and comments: after two quotes, of an empty text, too
abbrev pub is_outside : Within → Bool
is_outside Plain = true
is_outside (Doubled quote) = true
is_outside _ = false

-- ---- points of a text

-- a statement begins here, unless there is a blank, a comment or the end of a line
abbrev pub is_start : Point → Bool
is_start point = (point.fresh && nat_eq point.depth 0) && is_outside point.within

-- only blanks, and a byte order mark, are between the begin of the line and what follows the octet
abbrev pub is_fresh : Bool → ℕ → Bool
is_fresh fresh octet = nat_eq octet 10 || (fresh && (is_blank octet || nat_le 128 octet))

-- the depth of brackets after an octet that is outside texts and comments
abbrev pub depth_after : ℕ → ℕ → ℕ
depth_after depth octet =
    if nat_eq octet 91 || nat_eq octet 123 then suc depth
    else if nat_eq octet 93 || nat_eq octet 125 then depth - 1 else depth

abbrev pub point_after : Point → ℕ → Point
point_after point octet = record {
  line = if nat_eq octet 10 then suc point.line else point.line;
  fresh = is_fresh point.fresh octet;
  headed = point.headed || (is_start point && nat_eq octet 91);
  depth = if is_outside point.within then depth_after point.depth octet else point.depth;
  within = turn point.within octet;
}

abbrev pub begin : Point
begin = record { line = 1; fresh = true; headed = false; depth = 0; within = Plain }

-- ---- lines

-- the text that begins here states the table; or, above all tables, the key
abbrev pub is_about : TableName → List ℕ → Bool → List ℕ → Bool
is_about name.Top key headed octets =
    is_headed key octets || (not headed && is_stated key octets)
is_about table key headed octets = is_header table octets

-- such a statement begins at the point, in a line after this one
abbrev pub is_found : TableName → List ℕ → ℕ → Point → List ℕ → Bool
is_found table key behind point octets =
    (is_start point && nat_lt behind point.line) && is_about table key point.headed octets

-- the lines, after one, of statements that are about a table or a key, in a text from a point on
abbrev pub lines_about : TableName → List ℕ → ℕ → Point → List ℕ → List ℕ
lines_about table key behind point [] = []
lines_about table key behind point (octet ∷ octets) =
    if is_found table key behind point (octet ∷ octets)
    then point.line ∷ lines_about table key behind (point_after point octet) octets
    else lines_about table key behind (point_after point octet) octets

-- the line of the row, which counts from 1, after a line
abbrev pub row_line : List ℕ → TableName → List ℕ → ℕ → ℕ → Option ℕ
row_line octets table key behind row =
    slice_get (lines_about table key behind begin octets) (row - 1)

-- the line of a key above all tables, or of the first header that begins with it; otherwise line 1
abbrev pub key_line : List ℕ → List ℕ → ℕ
key_line octets key = unwrap_or (row_line octets name.Top key 0 1) 1

-- the line of the header of the row; or the line of the key, if its table has none
abbrev pub header_line : List ℕ → TableName → ℕ → List ℕ → ℕ
header_line octets table row key =
    unwrap_or (row_line octets table key 0 row) (key_line octets key)

-- the line of an override: that of its header, the row-th below its user's; otherwise its user's
abbrev pub rule_line : List ℕ → ℕ → ℕ → ℕ
rule_line octets user row =
    let above = header_line octets name.User user (codes "user") in
    unwrap_or (row_line octets (name.Override user) (codes "override") above row) above

-- the line of a fault: of its table, or above all tables of its key
abbrev pub line_of : List ℕ → TableName → ℕ → List ℕ → ℕ
line_of octets name.Top row key = key_line octets key
line_of octets name.Server row key = header_line octets name.Server row (codes "server")
line_of octets name.Group row key = header_line octets name.Group row (codes "group")
line_of octets name.User row key = header_line octets name.User row (codes "user")
line_of octets (name.Override user) row key = rule_line octets user row
line_of octets name.Dir row key = header_line octets name.Dir row (codes "dir")
line_of octets name.File row key = header_line octets name.File row (codes "file")
