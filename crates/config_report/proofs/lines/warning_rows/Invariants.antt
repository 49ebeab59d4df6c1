use Rattle.std.proofs.Common.{◌≡◌, take}
use Rattle.std.specs.Prelude.{string_bytes}
use Rattle.std.specs.List.{flat_map}
use Rattle.config_report.specs.Lines.{warning_row}
use Rattle.config_report.proofs.lines.warning_rows.Given as goal

abbrev pub invariant-loop-warning : goal.invariant-loop-warning
invariant-loop-warning l = string_bytes l.text ≡ flat_map warning_row (take l.warning-index l.warnings)
