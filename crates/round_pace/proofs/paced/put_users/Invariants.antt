use Rattle.std.proofs.Common.{◌≡◌, ◌≤◌, ℕ, true, take}
use Rattle.round_pace.specs.Offered.{put_users}
use Rattle.round_pace.specs.Quiet.{is_full_user, mark_at, AllMarked}
use Rattle.round_pace.proofs.paced.put_users.Given as goal

abbrev pub invariant-loop-place : goal.invariant-loop-place
invariant-loop-place g l = record {
  offered : l.offered ≡ put_users l.down l.up l.groups l.fn.offered (take l.place l.users);
  full : AllMarked (λ r. is_full_user r ≡ true) l.marks.items l.users;
  later : (k : ℕ) → l.place ≤ k → mark_at l.marks.items k ≡ mark_at l.fn.marks.items k;
}
