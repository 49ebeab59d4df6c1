use Rattle.std.proofs.Common.{Global, List, Vec, ℕ, ap, subst, ◌∙◌}
use Rattle.std.specs.Arc.{arc_value}
use Rattle.std.specs.declared.sync.Arc.{Arc}
use Rattle.machine_parts.specs.Reloads.{IsNext}
use Rattle.ftpd.proofs.reload_file.next_of.Goals as goal

pub returns-in-Ok-clause-next : goal.returns-in-Ok-clause-next
returns-in-Ok-clause-next c = record {
  next = c.in_ok-next.next;
  is_next = subst (λ (octets : List ℕ). IsNext octets c.args.at_start.now c.args.known.now c.in_ok-next.next) c.as_slice.ensures.value c.in_ok-next.ensures.next;
  parts = c.parted.ensures.parted;
  octets_are = ap (λ (handle : Arc (Vec ℕ Global) Global). (arc_value handle).items) c.parted.ensures.octets ∙ ap (λ (octets : Vec ℕ Global). octets.items) c.in-Ok.ensures.ok;
}
