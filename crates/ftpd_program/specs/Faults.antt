-- The faults of a command for the texts that it reads and writes. A file is given by a test of the
-- octets that it may contain; Refuses is the test of the octets that the output may refuse.
use Rattle.std.specs.Prelude.{◌<◌, ℕ, List, Option, IfSome, length}
use Rattle.sheets_program.specs.Runs.{Octets}
use Rattle.text_io.specs.Texts.{IsTextOf}
use Rattle.text_io.specs.declared.fault.TextFault.{TextFault}
use Rattle.text_io.specs.declared.fault.TextFault.TheVariants.{TooLong, ReadFault, WriteFault, Memory}
use Rattle.text_io.specs.declared.read.TheConstants.{MAX_TEXT}

-- a text that the file may contain is longer than the longest that is read
abbrev pub GivesTooMuch : Octets → Type 0
GivesTooMuch gives =
    (text : Option (List ℕ)) × gives text × IfSome text (λ known. MAX_TEXT < length known)

-- the output may refuse the print of a text that the file may contain
abbrev pub PrintsRefused : Octets → (List ℕ → List ℕ → Type 0) → (List ℕ → Type 0) → Type 0
PrintsRefused gives Prints Refuses =
    (left : Option (List ℕ)) × gives left
    × ((text printed : List ℕ) × IsTextOf text left × Prints text printed × Refuses printed)

-- the fault of a text that is read whole, by the contents that its file may have
abbrev pub IsReadingFaultOf : Octets → TextFault → Type 0
IsReadingFaultOf gives TooLong = GivesTooMuch gives
IsReadingFaultOf gives ReadFault = Unit {0}
IsReadingFaultOf gives WriteFault = ⊥
IsReadingFaultOf gives Memory = Unit {0}

-- the fault of a text that is read whole, and of its print that is then written: Prints relates the
-- two
abbrev pub IsPrintingFaultOf : Octets → (List ℕ → List ℕ → Type 0) → (List ℕ → Type 0) → TextFault
    → Type 0
IsPrintingFaultOf gives Prints Refuses TooLong = GivesTooMuch gives
IsPrintingFaultOf gives Prints Refuses ReadFault = Unit {0}
IsPrintingFaultOf gives Prints Refuses WriteFault = PrintsRefused gives Prints Refuses
IsPrintingFaultOf gives Prints Refuses Memory = Unit {0}
