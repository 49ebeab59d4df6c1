use Rattle.std.proofs.Common.{◌≡◌, ◌≤◌, take, drop}
use Rattle.line_mender.specs.Mended.{after_all, kept}
use Rattle.line_mender.proofs.mender.Mender.mend.Given as goal

abbrev pub invariant-loop-place : goal.invariant-loop-place
invariant-loop-place l = record {
  kept : take l.count l.buffer ≡ kept l.initial.self (take l.place l.initial.buffer);
  rest : drop l.place l.buffer ≡ drop l.place l.initial.buffer;
  count : l.count ≤ l.place;
  after : l.self ≡ after_all l.initial.self (take l.place l.initial.buffer);
}
