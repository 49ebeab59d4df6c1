use Rattle.std.proofs.Common.{rules, ◌∙◌, sym, ap, subst, length}
use Rattle.sheet_text.specs.Rows.{AreBelow}
use Rattle.sheet_text.specs.Tree.{paths_to}
use Rattle.sheet_text.proofs.sheet.read_sheet.Goals as goal

pub new-requires : goal.new-requires
new-requires g c =
    let table = c.in_ok-nodes.field-0.nodes in
    record {
      read = (
        c.args.text.now,
        record {
          taken_is = c.in_ok-nodes.ensures.taken;
          sound = c.in_ok-tree.ensures.whole.1;
          outline_is = c.in_ok-tree.ensures.whole.0;
          few_nodes = search rules;
          few_leaves = search rules;
          order_is = c.in_ok-tree.ensures.order;
          order_below = c.in_ok-tree.ensures.below;
          places_are = ap (paths_to table) c.deref.ensures.value ∙ c.in_ok-nodes.ensures.wants;
          places_below = subst (AreBelow (length table)) (sym c.deref.ensures.value) c.in_ok-nodes.ensures.below;
        },
      );
    }

pub returns : goal.returns
returns g c =
    let table = c.in_ok-nodes.field-0.nodes in
    record {
      read = c.in_ok-sheet.ensures.sheet c.args.text.now (record {
        taken_is = c.in_ok-nodes.ensures.taken;
        sound = c.in_ok-tree.ensures.whole.1;
        outline_is = c.in_ok-tree.ensures.whole.0;
        few_nodes = search rules;
        few_leaves = search rules;
        order_is = c.in_ok-tree.ensures.order;
        order_below = c.in_ok-tree.ensures.below;
        places_are = ap (paths_to table) c.deref.ensures.value ∙ c.in_ok-nodes.ensures.wants;
        places_below = subst (AreBelow (length table)) (sym c.deref.ensures.value) c.in_ok-nodes.ensures.below;
      });
    }
