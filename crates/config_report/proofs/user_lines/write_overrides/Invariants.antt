use Rattle.std.proofs.Common.{◌≡◌, ◌++◌, take}
use Rattle.std.specs.Prelude.{string_bytes}
use Rattle.std.specs.List.{flat_map}
use Rattle.config_report.specs.UserLines.{override_line}
use Rattle.config_report.proofs.user_lines.write_overrides.Given as goal

abbrev pub invariant-loop-rule : goal.invariant-loop-rule
invariant-loop-rule l = string_bytes l.text ≡ string_bytes l.fn.text ++ flat_map override_line (take l.rule-index l.rules)
