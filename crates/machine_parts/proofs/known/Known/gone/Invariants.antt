use Rattle.std.proofs.Common.{◌≡◌, ◌≤◌, count_by, nat_eq, not, take}
use Rattle.std.specs.List.{list_any}
use Rattle.machine_parts.proofs.known.Known.gone.Given as goal

abbrev pub invariant-loop-number : goal.invariant-loop-number
invariant-loop-number l = record {
  count : l.count ≡ count_by (λ number. not (list_any (λ other. nat_eq other number) l.next.present.items)) (take l.number-index l.self.present.items);
  most : l.count ≤ l.number-index;
}
