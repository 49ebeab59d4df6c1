use Rattle.std.proofs.Common.{◌≡◌, ◌≤◌, take}
use Rattle.status_table.specs.Lines.{is_mate, number_of}
use Rattle.status_table.proofs.lines.mates_number.Given as goal

abbrev pub invariant-loop-other : goal.invariant-loop-other
invariant-loop-other l =
    (l.count ≡ number_of (is_mate l.transfer) (take l.other-index l.now.transfers.items)) × (l.count ≤ l.other-index)
