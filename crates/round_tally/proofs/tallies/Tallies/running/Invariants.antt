use Rattle.std.proofs.Common.{◌≡◌, ◌<◌, ◌≤◌, ℕ, length}
use Rattle.std.specs.Prelude.{slice_index, slice_index_or}
use Rattle.round_tally.specs.Counts.{lane_begun, no_tally, tallied}
use Rattle.round_tally.proofs.tallies.Tallies.running.Given as goal

abbrev pub invariant-loop-lane : goal.invariant-loop-lane
invariant-loop-lane l = record {
  size : length l.tallies.lanes ≡ 64;
  total : tallied l.tallies ≡ tallied l.self;
  done : (i : ℕ) → i < l.lane → slice_index_or l.tallies.lanes i (no_tally 0) ≡ lane_begun (slice_index l.transfers i) (slice_index_or l.self.lanes i (no_tally 0));
  left : (i : ℕ) → l.lane ≤ i → slice_index_or l.tallies.lanes i (no_tally 0) ≡ slice_index_or l.self.lanes i (no_tally 0);
}
