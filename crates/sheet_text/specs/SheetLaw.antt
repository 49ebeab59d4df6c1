-- The law of a sheet's table.
use Rattle.std.specs.Prelude.{◌≡◌, Ok}
use Rattle.sheet_text.specs.Paths.{Octets}
use Rattle.sheet_text.specs.Table.{Table}
use Rattle.sheet_text.specs.Taken.{IsTreeOfLines, taken_all}
use Rattle.sheet_text.specs.Sheet.{statements, text_taken}

-- the table of the lines of a text is that of their statements, and so its tree is that of their
-- statements
abbrev pub SheetIsOfItsLines : Type 0
SheetIsOfItsLines =
    (text : Octets) (table : Table) → text_taken text ≡ Ok table
    → (taken_all (statements text) ≡ Ok table) × IsTreeOfLines table (statements text)
