use Rattle.std.proofs.Common.{◌<◌, ◌≤◌, ℕ}
use Rattle.std.specs.Prelude.{slice_index}
use Rattle.limit_tree.specs.declared.bounds.TheConstants.{MAX_WANT}
use Rattle.user_shares.proofs.stages.first_too_large.Given as goal

abbrev pub invariant-loop-user : goal.invariant-loop-user
invariant-loop-user l = (u : ℕ) → u < l.user → slice_index l.most u ≤ MAX_WANT
