use Rattle.std.proofs.Common.{◌≡◌, ◌++◌, take}
use Rattle.std.specs.Prelude.{string_bytes}
use Rattle.std.specs.List.{flat_map}
use Rattle.change_report.specs.Lines.{setting_line}
use Rattle.change_report.proofs.lines.write_settings.Given as goal

abbrev pub invariant-loop-change : goal.invariant-loop-change
invariant-loop-change l = string_bytes l.text ≡ string_bytes l.fn.text ++ flat_map setting_line (take l.change-index l.changes)
