use Rattle.std.proofs.Common.{◌≡◌, ◌≤◌, ◌+◌, take}
use Rattle.line_rates.specs.declared.ask.Way.TheVariants.{Down, Up}
use Rattle.rate_floors.specs.declared.fits.TheConstants.{MAX_PROMISED}
use Rattle.rate_floors.specs.Promises.{promised}
use Rattle.rate_floors.proofs.carry.sums.Given as goal

abbrev pub invariant-loop-entry : goal.invariant-loop-entry
invariant-loop-entry l = record {
  down_so_far : l.down ≡ promised (take l.entry-index l.users) Down;
  up_so_far : l.up ≡ promised (take l.entry-index l.users) Up;
  small : l.down + l.up ≤ MAX_PROMISED;
}
