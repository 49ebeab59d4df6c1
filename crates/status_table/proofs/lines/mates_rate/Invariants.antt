use Rattle.std.proofs.Common.{◌≡◌, min, take}
use Rattle.std.specs.Prelude.{if◌then◌else◌}
use Rattle.std.specs.List.{sum_by}
use Rattle.status_table.specs.Lines.{is_mate}
use Rattle.status_table.specs.Rates.{most, rate_since}
use Rattle.status_table.proofs.lines.mates_rate.Given as goal

abbrev pub invariant-loop-other : goal.invariant-loop-other
invariant-loop-other l =
    l.total ≡ min (sum_by (λ other. if is_mate l.transfer other then rate_since l.before l.now other else 0) (take l.other-index l.now.transfers.items)) most
