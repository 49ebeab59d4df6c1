use Rattle.std.proofs.Common.{◌≡◌, map, take}
use Rattle.std.specs.List.{All}
use Rattle.rate_floors.specs.Promises.{group_row, IsPromised}
use Rattle.rate_floors.proofs.carry.promised_groups.Given as goal

abbrev pub invariant-loop-entry : goal.invariant-loop-entry
invariant-loop-entry g l = record {
  rows : map group_row l.groups.items ≡ l.rows;
  reported : All (IsPromised (take l.entry-index l.users)) l.groups.items;
}
