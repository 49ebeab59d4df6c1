use Rattle.std.proofs.Common.{◌≡◌, ◌≤◌, take}
use Rattle.status_page.specs.Metrics.{waiting}
use Rattle.status_page.proofs.samples.waiting.Given as goal

abbrev pub invariant-loop-transfer : goal.invariant-loop-transfer
invariant-loop-transfer l = record {
  count : l.count ≡ waiting (take l.transfer-index l.transfers);
  few : l.count ≤ l.transfer-index;
}
