use Rattle.std.proofs.Common.{◌≡◌, ◌≤◌, take}
use Rattle.status_page.specs.Metrics.{idle}
use Rattle.status_page.proofs.samples.idle.Given as goal

abbrev pub invariant-loop-session : goal.invariant-loop-session
invariant-loop-session l = record {
  count : l.count ≡ idle l.now (take l.session-index l.sessions);
  few : l.count ≤ l.session-index;
}
