use Rattle.std.proofs.Common.{arith}
use Rattle.grant_certificate.specs.Users.{leaves_of}
use Rattle.grant_certificate.proofs.UserRanges.{in_fits}
use Rattle.grant_certificate.proofs.by_users.user_total.Goals as goal

pub overflow_add-total : goal.overflow_add-total
overflow_add-total c =
    omega (arith, c.loop-leaf.invariant, c.requires.fits, in_fits (leaves_of c.args.owners.now c.args.user) c.args.grants.now c.loop-leaf.leaf (omega (arith, c.requires.owners, c.loop-leaf-test.true)))
