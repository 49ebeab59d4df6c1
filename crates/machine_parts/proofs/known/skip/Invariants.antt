use Rattle.std.proofs.Common.{◌≡◌, ◌+◌, ◌-◌, ◌≤◌}
use Rattle.machine_parts.proofs.known.skip.Given as goal

abbrev pub invariant-loop-number : goal.invariant-loop-number
invariant-loop-number l = record {
  users : l.users.users ≡ l.initial.users.users;
  within : l._number - l.from ≤ l.to - l.from;
  next : l.users.next ≡ l.initial.users.next + (l._number - l.from);
}
