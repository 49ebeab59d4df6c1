-- The reasons for which a sheet is not shared.
use Rattle.std.specs.Prelude.{◌≡◌, ◌≢◌, ℕ, List, Option, Some, None}
use Rattle.depth_users.specs.declared.fault.DepthFault.{DepthFault}
use Rattle.depth_users.specs.declared.fault.DepthFault.TheVariants.{Memory as NoDepthMemory, UserTooLarge as TooLargeUser}
use Rattle.sheet_text.specs.Sheet.{IsSheetFaultOf, sheet_fault}
use Rattle.sheet_text.specs.declared.fault.SheetFault.{SheetFault}
use Rattle.sheet_text.specs.declared.fault.SheetFault.TheVariants.{Memory as NoSheetMemory}
use Rattle.text_io.specs.declared.fault.TextFault.TheVariants.{Memory, WriteFault}
use Rattle.sheet_commands.specs.declared.share_fault.ShareFault.{ShareFault}
use Rattle.sheet_commands.specs.declared.share_fault.ShareFault.TheVariants.{Sheet, Text, UserTooLarge}

-- the command's fault for a fault of a sheet; its lack of memory is that of the command
abbrev pub of_sheet : SheetFault → ShareFault
of_sheet NoSheetMemory = Text Memory
of_sheet fault = Sheet fault

-- the same for a fault of sharing among users
abbrev pub of_depth : DepthFault → ShareFault
of_depth NoDepthMemory = Text Memory
of_depth TooLargeUser = UserTooLarge

-- the file of the sheet was not read whole
abbrev pub IsUnread : ShareFault → Type 0
IsUnread (Text why) = why ≢ WriteFault
IsUnread (Sheet fault) = ⊥
IsUnread UserTooLarge = ⊥

-- the fault of sharing a text's sheet, among the users of a depth, if there is one
abbrev pub IsUnshared : Option ℕ → List ℕ → ShareFault → Type 0
IsUnshared by text (Text why) = why ≡ Memory
IsUnshared by text (Sheet fault) = IsSheetFaultOf text fault
IsUnshared None text UserTooLarge = ⊥
IsUnshared (Some depth) text UserTooLarge = sheet_fault text ≡ None
