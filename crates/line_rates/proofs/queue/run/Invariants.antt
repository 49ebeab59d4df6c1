use Rattle.std.proofs.Common.{◌≡◌, ◌-◌, ◌<◌, ◌≤◌, ℕ, length, get_or}
use Rattle.line_rates.specs.declared.queue.Queued.{Queued}
use Rattle.line_rates.proofs.queue.run.Given as goal

abbrev pub invariant-loop-end : goal.invariant-loop-end
invariant-loop-end l = record {
  some : 0 < l.end;
  within : l.end ≤ length l.queue;
  same : (i : ℕ) (d : Queued) → i < l.end → (get_or l.queue i d).name ≡ (get_or l.queue 0 d).name;
}

abbrev pub decreases-loop-end : goal.decreases-loop-end
decreases-loop-end l = length l.queue - l.end
