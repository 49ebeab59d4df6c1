use Rattle.std.proofs.Common.{arith, ◌+◌, ◌-◌}
use Rattle.user_shares.proofs.Kinded.{owned-ends, owned-last}
use Rattle.user_shares.proofs.kinds.is_owned.Goals as goal

pub returns : goal.returns
returns c =
    let p = c.args.place in
    let last = p.first + p.leaves - 1 in
    record {
      owned = (
        λ yes. owned-ends c.args.owners.now p c.requires.ranges c.requires.inside (omega arith) last (omega arith) (c.are_same.ensures.same.0 yes),
        λ owned. c.are_same.ensures.same.1 (owned-last c.args.owners.now p owned last (omega arith)),
      );
    }
