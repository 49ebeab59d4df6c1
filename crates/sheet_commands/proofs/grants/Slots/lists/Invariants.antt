use Rattle.std.proofs.Common.{◌≡◌, Option, map, filter_map, take}
use Rattle.sheet_commands.specs.declared.grants.Given.{Given}
use Rattle.sheet_commands.proofs.grants.Slots.lists.Given as goal

abbrev pub invariant-loop-slot : goal.invariant-loop-slot
invariant-loop-slot g l = record {
  grants : l.grants.items ≡ map (λ (given : Given). given.octets) (filter_map (λ (slot : Option Given). slot) (take l.slot-index l.self.slots.items));
  entries : l.entries.items ≡ map (λ (given : Given). given.node) (filter_map (λ (slot : Option Given). slot) (take l.slot-index l.self.slots.items));
}
