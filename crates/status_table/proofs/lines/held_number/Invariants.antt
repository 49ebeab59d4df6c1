use Rattle.std.proofs.Common.{◌≡◌, ◌≤◌, take}
use Rattle.status_table.specs.Lines.{is_held_by, number_of}
use Rattle.status_table.proofs.lines.held_number.Given as goal

abbrev pub invariant-loop-other : goal.invariant-loop-other
invariant-loop-other l =
    (l.count ≡ number_of (is_held_by l.before l.limit l.transfer) (take l.other-index l.now.transfers.items)) × (l.count ≤ l.other-index)
