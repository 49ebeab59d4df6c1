-- The numbers and the way of sharing that the words of a command state.
use Rattle.std.specs.Prelude.{◌≡◌, ◌⊎◌, ℕ, List, Option, Some, codes}
use Rattle.clap.specs.Words.{Row, Text}
use Rattle.client_patience.specs.declared.patience.Patience.{Patience}
use Rattle.command_line.specs.Numbers.{AreLinesIn, IsPortIn, IsUnnumberedBy}
use Rattle.command_line.specs.Timed.{IsPatienceIn, IsUntimedIn}
use Rattle.command_line.specs.Ways.{IsUnknownWayIn, IsWayIn}
use Rattle.line_rates.specs.declared.share_by.ShareBy.{ShareBy}
use Rattle.command_line.specs.declared.numbers.NumberForm.TheVariants.{Port, Lines}
use Rattle.command_line.specs.declared.words.WordsFault.{WordsFault}

-- the command that the parser entered states that patience and that port, if it is `serve`, that
-- number of lines, if it is `top`, and that way of sharing, if it is `serve`, `plan` or
-- `check-config`
abbrev pub IsStatedBy : Option (Text × List Row) → Patience → Option ℕ → ℕ → ShareBy → Type 0
IsStatedBy found p port lines way =
    ((rows : List Row) → found ≡ Some (codes "serve", rows)
    → IsPatienceIn rows p × IsPortIn rows port × IsWayIn rows way)
    × ((rows : List Row) → found ≡ Some (codes "top", rows) → AreLinesIn rows lines)
    × ((rows : List Row) → found ≡ Some (codes "plan", rows) → IsWayIn rows way)
    × ((rows : List Row) → found ≡ Some (codes "check-config", rows) → IsWayIn rows way)

-- each option of that command that is to be a number, or a way of sharing, is one
abbrev pub IsNumbered : Option (Text × List Row) → Type 0
IsNumbered found =
    (p : Patience) × (port : Option ℕ) × (lines : ℕ) × (way : ShareBy)
    × IsStatedBy found p port lines way

-- memory ran out, or one of the options of `serve` that are to be numbers, or a way of sharing, is
-- none, which the fault refuses
abbrev pub IsServeUnnumberedIn : List Row → WordsFault → Type 0
IsServeUnnumberedIn rows fault =
    IsUntimedIn rows fault
    ⊎ (IsUnnumberedBy Port (codes "status-port") rows fault ⊎ IsUnknownWayIn rows fault)

-- the same for the command that the parser entered, which is `serve`
abbrev pub IsServeUnnumbered : Option (Text × List Row) → WordsFault → Type 0
IsServeUnnumbered found fault =
    (rows : List Row) × (found ≡ Some (codes "serve", rows)) × IsServeUnnumberedIn rows fault

-- the same for the number of lines of `top`
abbrev pub IsTopUnnumbered : Option (Text × List Row) → WordsFault → Type 0
IsTopUnnumbered found fault =
    (rows : List Row) × (found ≡ Some (codes "top", rows))
    × IsUnnumberedBy Lines (codes "rows") rows fault

-- the same for the way of sharing of `plan`
abbrev pub IsPlanUnnumbered : Option (Text × List Row) → WordsFault → Type 0
IsPlanUnnumbered found fault =
    (rows : List Row) × (found ≡ Some (codes "plan", rows)) × IsUnknownWayIn rows fault

-- the same for that of `check-config`
abbrev pub IsConfigUnnumbered : Option (Text × List Row) → WordsFault → Type 0
IsConfigUnnumbered found fault =
    (rows : List Row) × (found ≡ Some (codes "check-config", rows)) × IsUnknownWayIn rows fault

-- the same for the command that the parser entered
abbrev pub IsUnnumbered : Option (Text × List Row) → WordsFault → Type 0
IsUnnumbered found fault =
    IsServeUnnumbered found fault
    ⊎ (IsTopUnnumbered found fault
    ⊎ (IsPlanUnnumbered found fault ⊎ IsConfigUnnumbered found fault))
