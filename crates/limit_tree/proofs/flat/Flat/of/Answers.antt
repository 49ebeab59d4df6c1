use Rattle.std.proofs.Common.{◌∙◌, ap, subst, sym, List}
use Rattle.limit_tree.specs.Outline.{limits}
use Rattle.limit_tree.specs.Flat.{IsFlat}
use Rattle.limit_tree.specs.declared.place.Place.{Place}
use Rattle.limit_tree.proofs.flat.Flat.of.Goals as goal

pub invariant_of-result : goal.invariant_of-result
invariant_of-result g c =
    let copied = c.in_ok-copy_into.ensures.copied in
    record {
      flat = subst (λ (ps : List Place). IsFlat ps) (sym copied.nodes) c.nodes_are_a_tree.ensures.flat;
      wants_are = copied.wants_are ∙ ap (λ (ps : List Place). (limits ps).wants) (sym copied.nodes);
      floors_are = copied.floors_are ∙ ap (λ (ps : List Place). (limits ps).floors) (sym copied.nodes);
    }

pub returns : goal.returns
returns g c =
    let copied = c.in_ok-copy_into.ensures.copied in
    record { of = copied.nodes }
