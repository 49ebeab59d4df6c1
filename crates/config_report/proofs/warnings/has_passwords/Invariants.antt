use Rattle.std.proofs.Common.{◌≡◌, drop}
use Rattle.std.specs.List.{list_any}
use Rattle.config_report.specs.Warnings.{has_word}
use Rattle.config_report.proofs.warnings.has_passwords.Given as goal

abbrev pub invariant-loop-row : goal.invariant-loop-row
invariant-loop-row l = list_any has_word l.rows ≡ list_any has_word (drop l.row-index l.rows)
