use Rattle.std.proofs.Common.{◌≡◌, ◌++◌, take}
use Rattle.std.specs.Prelude.{string_bytes}
use Rattle.std.specs.List.{flat_map}
use Rattle.config_report.specs.Lines.{warning_line}
use Rattle.config_report.proofs.lines.write_warnings.Given as goal

abbrev pub invariant-loop-warning : goal.invariant-loop-warning
invariant-loop-warning l = string_bytes l.text ≡ string_bytes l.fn.text ++ flat_map warning_line (take l.warning-index l.warnings)
