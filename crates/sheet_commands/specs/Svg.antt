-- The text of a picture. Its axis is at 400, the largest grant is 300 high, and a column is 20
-- wide; names are below the axis, and the legend is below the longest name.
use Rattle.std.specs.Prelude.{ℕ, ◌+◌, ◌*◌, ◌-◌, ◌/◌, ◌%◌, nat_eq, nat_lt, if◌then◌else◌, List, [], ◌∷◌, ◌++◌, Option, Some, None, codes, max}
use Rattle.std.specs.Fmt.{decimal}
use Rattle.std.specs.List.{flat_map}
use Rattle.sheet_commands.specs.declared.column.Column.{Column}
use Rattle.sheet_commands.specs.declared.column.Holder.{Holder}
use Rattle.sheet_commands.specs.declared.frame.Frame.{Frame}
use Rattle.sheet_commands.specs.declared.frame.Level.{Level}
use Rattle.sheet_commands.specs.declared.frame.Placed.{Placed}
use Rattle.sheet_commands.specs.declared.texts.TheConstants.{END, HEAD, MARKS, MET, NO_LEVEL, NO_LIMIT, STYLE, TEXT_END, TITLE_END}
use Rattle.sheet_commands.specs.Escapes.{escaped}
use Rattle.sheet_commands.specs.Frames.{frame_of, level}
use Rattle.sheet_commands.specs.Parts.{joined}

-- the height of octets: 300 for the largest grant
abbrev pub height : ℕ → ℕ → ℕ
height octets largest = octets * 300 / largest

-- the upper edge of octets
abbrev pub y_of : ℕ → ℕ → ℕ
y_of octets largest = 400 - height octets largest

-- room for all columns, and for the longest text, at 8 for a character
abbrev pub width_of : Frame → ℕ
width_of frame =
    max (124 + 24 * frame.columns + 12 * frame.numbers) (720 + 8 * frame.longest)

abbrev pub height_of : Frame → ℕ
height_of frame = 470 + 8 * frame.longest + 20 * frame.numbers

-- the size of the picture, its title and its style
unfoldable pub head_text : ℕ → ℕ → ℕ → List ℕ
head_text width height columns = joined (
    HEAD.now ∷ decimal width ∷ codes "\" height=\"" ∷ decimal height
    ∷ codes "\" viewBox=\"0 0 " ∷ decimal width ∷ codes " " ∷ decimal height
    ∷ codes "\">\n<title>shares of " ∷ decimal columns ∷ codes " wants</title>\n" ∷ STYLE.now ∷ [])

-- the ground and the heading
unfoldable pub heading_text : ℕ → ℕ → ℕ → List ℕ
heading_text width height columns = joined (
    codes "<rect class=\"page\" width=\"" ∷ decimal width ∷ codes "\" height=\"" ∷ decimal height
    ∷ codes "\"/>\n<text x=\"100\" y=\"24\">shares of " ∷ decimal columns
    ∷ codes " wants, in octets</text>\n" ∷ MARKS.now ∷ [])

-- the largest grant at its height, and the axis
unfoldable pub axis_text : ℕ → ℕ → List ℕ
axis_text width largest = joined (
    codes "<text x=\"92\" y=\"104\" text-anchor=\"end\">" ∷ decimal largest
    ∷ codes "</text>\n<path class=\"axis\" d=\"M96 400H" ∷ decimal width ∷ codes "\"/>\n" ∷ [])

-- the text before the columns
unfoldable pub top_text : Frame → List ℕ
top_text frame =
    head_text (width_of frame) (height_of frame) frame.columns
    ++ heading_text (width_of frame) (height_of frame) frame.columns
    ++ axis_text (width_of frame) frame.largest

-- the parts of a column's title: its share, what holds it back, its floor, and a limit of its own
unfoldable pub share_text : List ℕ → ℕ → ℕ → List ℕ
share_text path grant want = joined (
    codes "<g><title>" ∷ escaped path ∷ codes ": " ∷ decimal grant ∷ codes " of " ∷ decimal want
    ∷ [])

unfoldable pub held_by : List ℕ → List ℕ
held_by path = joined (codes ", held back by " ∷ escaped path ∷ [])

abbrev pub held_text : Option Holder → List ℕ
held_text None = []
held_text (Some holder) = held_by holder.path.now

unfoldable pub guaranteed : ℕ → List ℕ
guaranteed floor = joined (codes ", guaranteed " ∷ decimal floor ∷ [])

abbrev pub floor_text : ℕ → List ℕ
floor_text floor = if nat_eq floor 0 then [] else guaranteed floor

unfoldable pub own_limit_text : ℕ → List ℕ
own_limit_text most = joined (codes ", limit of its own " ∷ decimal most ∷ [])

abbrev pub own_text : Option ℕ → List ℕ
own_text None = []
own_text (Some most) = own_limit_text most

unfoldable pub title_text : Column → List ℕ
title_text column =
    share_text column.path.now column.grant column.want ++ held_text column.holder
    ++ floor_text column.floor ++ own_text column.lid ++ TITLE_END.now

-- the beginning of a rectangle of the colour of a number, or of that of wants that nothing holds
-- back
unfoldable pub coloured : ℕ → List ℕ
coloured digit = joined (codes "<rect class=\"c" ∷ decimal digit ∷ codes "\"" ∷ [])

abbrev pub colour_text : Option Holder → ℕ → List ℕ
colour_text None number = MET.now
colour_text (Some holder) number = coloured (number % 10)

abbrev pub class_text : Placed → List ℕ
class_text placed = colour_text placed.column.holder placed.number

unfoldable pub rect_text : ℕ → ℕ → ℕ → List ℕ
rect_text x y height = joined (
    codes " x=\"" ∷ decimal x ∷ codes "\" y=\"" ∷ decimal y ∷ codes "\" width=\"20\" height=\""
    ∷ decimal height ∷ codes "\"/>\n" ∷ [])

unfoldable pub bar_text : ℕ → Placed → List ℕ
bar_text largest placed =
    class_text placed
    ++ rect_text placed.x (y_of placed.column.grant largest) (height placed.column.grant largest)

-- the beginning of a foot
unfoldable pub foot_start : List ℕ
foot_start = joined (codes "<rect class=\"foot\"" ∷ [])

-- the foot, if there is a floor
unfoldable pub foot_bar : ℕ → ℕ → ℕ → List ℕ
foot_bar x floor largest = foot_start ++ rect_text x (y_of floor largest) (height floor largest)

abbrev pub foot_at : ℕ → ℕ → ℕ → List ℕ
foot_at largest x floor = if nat_eq floor 0 then [] else foot_bar x floor largest

unfoldable pub foot_text : ℕ → Placed → List ℕ
foot_text largest placed = foot_at largest placed.x placed.column.floor

unfoldable pub lid_line : ℕ → ℕ → List ℕ
lid_line x y = joined (
    codes "<path class=\"lid\" d=\"M" ∷ decimal x ∷ codes " " ∷ decimal y ∷ codes "m-2 0h24\"/>\n"
    ∷ [])

-- the lid at that limit, unless it is more than a tenth above the largest grant
abbrev pub lid_at : ℕ → ℕ → Option ℕ → List ℕ
lid_at largest x None = []
lid_at largest x (Some most) =
    if nat_lt 330 (height most largest) then [] else lid_line x (y_of most largest)

unfoldable pub lid_text : ℕ → Placed → List ℕ
lid_text largest placed = lid_at largest placed.x placed.column.lid

-- the number of the limit, and the path of the want
unfoldable pub label_text : ℕ → ℕ → List ℕ → List ℕ
label_text x number path = joined (
    codes "<text class=\"number\" x=\"" ∷ decimal x ∷ codes "\" y=\"414\" dx=\"10\">"
    ∷ decimal number ∷ codes "</text>\n<text transform=\"translate(" ∷ decimal x
    ∷ codes " 424) rotate(90)\" dy=\"-6\">" ∷ escaped path ∷ codes "</text></g>\n" ∷ [])

unfoldable pub column_text : ℕ → Placed → List ℕ
column_text largest placed =
    title_text placed.column ++ bar_text largest placed ++ foot_text largest placed
    ++ lid_text largest placed ++ label_text placed.x placed.number placed.column.path.now

-- the dashed line, and its level
unfoldable pub level_line : ℕ → ℕ → ℕ → List ℕ → List ℕ
level_line width y octets path = joined (
    codes "<path class=\"level\" d=\"M96 " ∷ decimal y ∷ codes "H" ∷ decimal width
    ∷ codes "\"/>\n<text x=\"100\" y=\"44\">dashed line: " ∷ decimal octets
    ∷ codes ", the lowest level of a limit that holds back two or more: "
    ∷ escaped path ∷ codes "</text>\n" ∷ [])

abbrev pub level_text : Frame → Option Level → List ℕ
level_text frame None = NO_LEVEL.now
level_text frame (Some level) =
    level_line (width_of frame) (y_of level.octets frame.largest) level.octets level.path.now

-- the line of the legend for a number: its colour, itself, and the path of the limit
unfoldable pub legend_line : ℕ → ℕ → List ℕ
legend_line y number = joined (
    codes " x=\"100\" y=\"" ∷ decimal y ∷ codes "\" width=\"12\" height=\"12\"/>\n"
    ∷ codes "<text x=\"120\" y=\"" ∷ decimal y ∷ codes "\" dy=\"11\">" ∷ decimal number
    ∷ codes ": " ∷ [])

abbrev pub named_text : Option Holder → List ℕ
named_text None = NO_LIMIT.now
named_text (Some holder) = escaped holder.path.now

unfoldable pub number_text : ℕ → Placed → List ℕ
number_text longest placed =
    class_text placed ++ legend_line (430 + 8 * longest + 20 * placed.number) placed.number
    ++ named_text placed.column.holder ++ TEXT_END.now

-- the line of the legend, at the first column of a number
abbrev pub legend_text : ℕ → Placed → List ℕ
legend_text longest placed = if placed.first then number_text longest placed else []

-- the picture of columns at their places, in its frame
abbrev pub framed_text : Frame → List Placed → List ℕ
framed_text frame placed =
    top_text frame ++ flat_map (column_text frame.largest) placed
    ++ level_text frame (level placed) ++ flat_map (legend_text frame.longest) placed ++ END.now

abbrev pub picture_text : List Placed → List ℕ
picture_text placed = framed_text (frame_of placed) placed
