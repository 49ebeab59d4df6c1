use Rattle.std.proofs.Common.{◌≡◌, ◌+◌, ◌-◌, ◌^◌, ◌<◌, ◌≤◌}
use Rattle.limit_tree.specs.Flat.{taken_below}
use Rattle.round_allocator.proofs.level.search.Given as goal

abbrev pub invariant-loop-step : goal.invariant-loop-step
invariant-loop-step g l = record {
  order : l.window.low < l.window.high;
  top : l.window.high ≤ l.level;
  below : l.window.taken ≡ taken_below l.window.low l.tree l.node;
  fits : l.window.taken ≤ l.most;
  above : l.most < taken_below l.window.high l.tree l.node;
  width : l.window.high ≤ l.window.low + 2 ^ (32 - l._step);
  counted : l.probes ≤ l.fn.probes + l._step;
}
