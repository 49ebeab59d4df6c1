use Rattle.std.proofs.Common.{◌≡◌, ◌≤◌, List, ℕ, take}
use Rattle.config_change.specs.Named.{number_named}
use Rattle.machine_parts.specs.Names.{number_in}
use Rattle.machine_parts.proofs.Numbers.{IsOwned}
use Rattle.machine_parts.proofs.known.Known.authorizer.Given as goal

abbrev pub invariant-loop-user : goal.invariant-loop-user
invariant-loop-user l = record {
  next : l.users.next ≡ l.next;
  most : l.next ≤ l.self.next;
  own : IsOwned (take l.user-index l.self.users.items);
  numbers : (name : List ℕ) → number_named l.users name ≡ number_in (take l.user-index l.self.users.items) name;
}
