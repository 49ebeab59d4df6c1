use Rattle.std.proofs.Common.{◌≡◌, ◌+◌, min, take}
use Rattle.std.specs.List.{sum_by}
use Rattle.status_page.proofs.samples.moved_in_all.Given as goal

abbrev pub invariant-loop-transfer : goal.invariant-loop-transfer
invariant-loop-transfer l =
    l.total ≡ min (l.status.ended_moved + sum_by (λ t. t.moved) (take l.transfer-index l.status.transfers.items)) 18446744073709551615
