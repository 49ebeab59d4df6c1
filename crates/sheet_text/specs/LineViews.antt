-- Lines as the code represents them.
use Rattle.std.specs.Prelude.{Option, IfSome}
use Rattle.std.specs.Option.{option_map}
use Rattle.std.specs.Borrow.{Bor}
use Rattle.sheet_text.specs.Mentions.{Entry}
use Rattle.sheet_text.specs.Paths.{IsPathText, Octets, Path, names_of}
use Rattle.sheet_text.specs.Text.{GrantLine}
use Rattle.sheet_text.specs.declared.entry.SheetLine.{SheetLine}
use Rattle.sheet_text.specs.declared.grant.GrantsLine.{GrantsLine}

abbrev pub entry_view : SheetLine → Entry
entry_view e = record { path = names_of e.path.now; kind = e.kind }

abbrev pub name_view : Option (Bor Octets) → Option Path
name_view name = option_map (λ text. names_of text.now) name

abbrev pub grant_view : GrantsLine → GrantLine
grant_view line =
    record { path = names_of line.path.now; octets = line.octets; node = name_view line.node }

-- the texts of the line's paths are empty, or begin with a slash
abbrev pub ArePathTexts : GrantsLine → Type 0
ArePathTexts line = IsPathText line.path.now × IfSome line.node (λ name. IsPathText name.now)
