use Rattle.std.proofs.Common.{◌≡◌, ◌+◌, ◌-◌, ◌*◌, ◌≤◌}
use Rattle.limit_tree.specs.Outline.{limits}
use Rattle.limit_tree.specs.declared.bounds.TheConstants.{MAX_WANT}
use Rattle.round_allocator.specs.Levels.{upto}
use Rattle.round_allocator.proofs.probe.floor_sum.Given as goal

abbrev pub invariant-loop-leaf : goal.invariant-loop-leaf
invariant-loop-leaf g l = record {
  from : l.first ≤ l.leaf;
  sum : l.total + upto (limits l.flat).floors l.first ≡ upto (limits l.flat).floors l.leaf;
  few : l.total ≤ (l.leaf - l.first) * MAX_WANT;
}
