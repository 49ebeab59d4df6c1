use Rattle.std.proofs.Common.{◌≡◌, ◌≤◌, ℕ, true, take}
use Rattle.round_pace.specs.Offered.{put_groups}
use Rattle.round_pace.specs.Quiet.{is_full_group, mark_at, AllMarked}
use Rattle.round_pace.proofs.paced.put_groups.Given as goal

abbrev pub invariant-loop-place : goal.invariant-loop-place
invariant-loop-place g l = record {
  offered : l.offered ≡ put_groups l.fn.offered (take l.place l.groups);
  full : AllMarked (λ r. is_full_group r ≡ true) l.marks.items l.groups;
  later : (k : ℕ) → l.place ≤ k → mark_at l.marks.items k ≡ mark_at l.fn.marks.items k;
}
