use Rattle.std.proofs.Common.{arith}
use Rattle.share_world.proofs.Small.{rates_fit}
use Rattle.share_world.proofs.share.fits_rates.Goals as goal

pub returns : goal.returns
returns g c = record {
  fit = rates_fit c.args.limits.now c.groups-groups.result.now c.users-users.result.now c.groups-groups.ensures.rows c.users-users.ensures.rows c.groups-groups.ensures.fit c.users-users.ensures.fit (omega (arith, c.rate-server.ensures.rate, c.rate-server.ensures.most)) (omega (arith, c.rate-down.ensures.rate, c.rate-down.ensures.most)) (omega (arith, c.rate-up.ensures.rate, c.rate-up.ensures.most));
}
