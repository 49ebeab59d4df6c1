use Rattle.std.proofs.Common.{◌≡◌, ◌≤◌, map, take}
use Rattle.std.specs.List.{All}
use Rattle.rate_floors.specs.declared.find.UserSessions.{UserSessions}
use Rattle.rate_floors.specs.declared.fits.TheConstants.{MAX_PROMISED}
use Rattle.rate_floors.specs.Carried.{carried_entry}
use Rattle.rate_floors.proofs.floors.Floors.carried_users.Given as goal

abbrev pub invariant-loop-row : goal.invariant-loop-row
invariant-loop-row g l = record {
  users_so_far : l.users.items ≡ map (carried_entry l.self) (take l.row-index l.rows);
  few : All (λ (entry : UserSessions). entry.sessions ≤ MAX_PROMISED) l.users.items;
}
