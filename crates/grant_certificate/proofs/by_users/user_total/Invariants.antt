use Rattle.std.proofs.Common.{◌≡◌}
use Rattle.std.specs.Prelude.{slice_index}
use Rattle.limit_tree.proofs.Sums.{sum_in}
use Rattle.grant_certificate.specs.Users.{leaves_of}
use Rattle.grant_certificate.proofs.by_users.user_total.Given as goal

abbrev pub invariant-loop-leaf : goal.invariant-loop-leaf
invariant-loop-leaf l = l.total ≡ sum_in l.leaf (leaves_of l.owners l.user) (λ i. slice_index l.grants i)
