use Rattle.std.proofs.Common.{ℕ, ◌≡◌, ◌<◌, ◌≤◌, ◌⊎◌}
use Rattle.std.specs.Prelude.{slice_index}
use Rattle.grant_certificate.specs.Ranges.{IsAtMostOrFloor}
use Rattle.grant_certificate.proofs.range.greatest.Given as goal

abbrev pub invariant-loop-leaf : goal.invariant-loop-leaf
invariant-loop-leaf l = record {
  above : (j : ℕ) → l.first ≤ j → j < l.leaf → IsAtMostOrFloor l.grants l.floors l.most j;
  one : (l.most ≡ 0) ⊎ ((j : ℕ) × (l.first ≤ j) × (j < l.leaf) × (slice_index l.grants j ≡ l.most) × (slice_index l.grants j ≡ slice_index l.floors j → ⊥));
}
