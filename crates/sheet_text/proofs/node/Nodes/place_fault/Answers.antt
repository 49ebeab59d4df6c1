use Rattle.std.proofs.Common.{◌∙◌, ap, ℕ, List, Option, ◌==◌, refl, count_by}
use Rattle.std.specs.Option.{is_some}
use Rattle.sheet_text.proofs.Stands.{fault_is}
use Rattle.sheet_text.proofs.node.Nodes.place_fault.Goals as goal

pub returns : goal.returns
returns g c = record {
  fault = c.fault_shown.ensures.fault
      ∙ fault_is c.args.self.now c.args.path.now c.args.walk c.args.number c.count_slashes-deep.result c.args.kind _ c.is_some-has_line.result c.is_leaf.result _ c.len-nodes.ensures.table c.requires.text c.requires.walk refl (c.is_some-has_line.ensures ∙ ap (λ (o : Option ℕ). is_some o) c.line.ensures.line) c.is_leaf.ensures.leaf
      (c.count_slashes-deep.ensures.count ∙ ap (λ (t : List ℕ). count_by (λ octet. octet == 47) t) c.as_bytes.ensures.value) refl;
}
