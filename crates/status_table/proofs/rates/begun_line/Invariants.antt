use Rattle.std.proofs.Common.{◌≡◌, min, take}
use Rattle.std.specs.Prelude.{if◌then◌else◌}
use Rattle.std.specs.List.{sum_by}
use Rattle.status_table.specs.Rates.{is_way, most, since_begin}
use Rattle.status_table.proofs.rates.begun_line.Given as goal

abbrev pub invariant-loop-transfer : goal.invariant-loop-transfer
invariant-loop-transfer l =
    l.total ≡ min (sum_by (λ t. if is_way l.way t then since_begin l.now t else 0) (take l.transfer-index l.now.transfers.items)) most
