-- The reasons for which grants are not checked.
use Rattle.std.specs.Prelude.{◌≡◌, ◌≢◌, ◌⊎◌}
use Rattle.sheet_text.specs.declared.fault.SheetFault.{SheetFault}
use Rattle.sheet_text.specs.declared.fault.SheetFault.TheVariants.{Memory as NoSheetMemory}
use Rattle.text_io.specs.declared.fault.TextFault.TheVariants.{Memory, WriteFault}
use Rattle.sheet_commands.specs.declared.check_fault.CheckFault.{CheckFault}
use Rattle.sheet_commands.specs.declared.check_fault.CheckFault.TheVariants.{SheetText, Sheet, GrantsText, Grants, Text}
use Rattle.sheet_commands.specs.declared.grants_fault.GrantsFault.{GrantsFault}
use Rattle.sheet_commands.specs.declared.grants_fault.GrantsFault.TheVariants.{Memory as NoGrantsMemory}

-- the command's fault for a fault of a sheet; its lack of memory is that of the command
abbrev pub of_sheet : SheetFault → CheckFault
of_sheet NoSheetMemory = Text Memory
of_sheet fault = Sheet fault

-- the same for a fault of a grants file
abbrev pub of_grants : GrantsFault → CheckFault
of_grants NoGrantsMemory = Text Memory
of_grants fault = Grants fault

-- the file of the sheet was not read whole
abbrev pub IsSheetUnread : CheckFault → Type 0
IsSheetUnread (SheetText why) = why ≢ WriteFault
IsSheetUnread (Sheet fault) = ⊥
IsSheetUnread (GrantsText why) = ⊥
IsSheetUnread (Grants fault) = ⊥
IsSheetUnread (Text why) = why ≡ Memory

-- one of the files was not read whole
abbrev pub IsUnread : CheckFault → Type 0
IsUnread (GrantsText why) = why ≢ WriteFault
IsUnread fault = IsSheetUnread fault

-- the fault is one that its place can have: files are read and not written, the output is written
-- and not read
abbrev pub IsOfItsPlace : CheckFault → Type 0
IsOfItsPlace (SheetText why) = why ≢ WriteFault
IsOfItsPlace (Sheet fault) = fault ≢ NoSheetMemory
IsOfItsPlace (GrantsText why) = why ≢ WriteFault
IsOfItsPlace (Grants fault) = fault ≢ NoGrantsMemory
IsOfItsPlace (Text why) = (why ≡ WriteFault) ⊎ (why ≡ Memory)
