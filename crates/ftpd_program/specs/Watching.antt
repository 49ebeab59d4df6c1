-- The screens of `top`: tables of the transfers of a server, one after another.
use Rattle.std.specs.Prelude.{◌≡◌, ◌⊎◌, ◌++◌, ◌-◌, ℕ, List, [], ◌∷◌, Option, Some, None, codes, max}
use Rattle.std.specs.Borrow.{Bor}
use Rattle.std.specs.Fmt.{decimal}
use Rattle.std.specs.List.{flat_map}
use Rattle.server_status.specs.ReadBack.{HasStatus}
use Rattle.server_status.specs.declared.status.Status.{Status}
use Rattle.status_table.specs.Tables.{IsTable}

-- the text has a status, and the other is the table of its transfers, each with its rate since its
-- begin
pub record IsTableOf (rows : ℕ) (text printed : List ℕ) : Type 0 where
  pub status : Status
  pub has : HasStatus text status
  pub table : IsTable None None status (max rows 6) printed

-- the screen is cleared, and the next text begins at its first place
abbrev pub cleared : List ℕ
cleared = 27 ∷ codes "[H" ++ 27 ∷ codes "[J"

-- the line that says that the server has written nothing for that number of seconds, if it is told
abbrev pub still_text : Option ℕ → List ℕ
still_text None = []
still_text (Some seconds) =
    codes "no new status for " ++ decimal seconds
    ++ codes " seconds: the server has ended, or writes no more" ++ 10 ∷ []

abbrev pub still_lines : Option ℕ → ℕ
still_lines None = 0
still_lines (Some seconds) = 1

-- the lines that are left to the table, beside that of the cursor
abbrev pub table_rows : ℕ → Option ℕ → ℕ
table_rows rows still = max (rows - 1 - still_lines still) 6

-- the text is the table of a status, or nothing if there has been none yet
abbrev pub IsTableOrNone : ℕ → List ℕ → Type 0
IsTableOrNone lines text =
    (text ≡ []) ⊎ ((earlier before : Option (Bor Status)) × (now : Status)
    × IsTable earlier before now lines text)

-- a screen of that number of lines: it is cleared, and has the table of a status, and below it that
-- the server writes no more, if this is told
pub record IsScreen (rows : ℕ) (text : List ℕ) : Type 0 where
  pub still : Option ℕ
  pub table : List ℕ
  pub is_table : IsTableOrNone (table_rows rows still) table
  pub text_is : text ≡ cleared ++ table ++ still_text still

-- screens, one after another
abbrev pub AreScreens : ℕ → List (List ℕ) → Type 0
AreScreens rows [] = Unit {0}
AreScreens rows (text ∷ texts) = IsScreen rows text × AreScreens rows texts

-- their text
abbrev pub one_text : List (List ℕ) → List ℕ
one_text screens = flat_map (λ text. text) screens
