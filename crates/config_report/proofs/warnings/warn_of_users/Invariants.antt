use Rattle.std.proofs.Common.{◌≡◌, ◌++◌, take}
use Rattle.std.specs.List.{flat_map}
use Rattle.config_report.specs.Warnings.{user_warnings}
use Rattle.config_report.proofs.warnings.warn_of_users.Given as goal

abbrev pub invariant-loop-row : goal.invariant-loop-row
invariant-loop-row l = l.found.items ≡ l.fn.found.items ++ flat_map (user_warnings l.share_by l.server l.groups l.root) (take l.row-index l.rows)
