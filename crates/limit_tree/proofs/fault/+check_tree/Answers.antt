use Rattle.std.proofs.Common.{rules, arith, ◌≡◌, ◌+◌, ◌∙◌, length, ap}
use Rattle.limit_tree.specs.Outline.{leaf_count, kids_of, kind_of}
use Rattle.limit_tree.specs.declared.place.NodeKind.TheVariants.{Branch}
use Rattle.limit_tree.proofs.Places.{places_of_all, own_leaves, length_places_out, leaf_count_out, length_places_of_all-drop, leaf_count_of_all-drop}
use Rattle.limit_tree.proofs.FaultLemmas.{first_fault_below, first_fault_passed, first_fault_found}
use Rattle.limit_tree.specs.declared.node.Node.TheViews.{the_lemmas}
use Rattle.limit_tree.proofs.fault.+check_tree.Goals as goal

pub loop-kid-init : goal.loop-kid-init
loop-kid-init g t c =
    let below : places_of_all (kids_of c.args.node.now) ≡ places_of_all c.deref-kid-items.result.now = search (rules, the_lemmas) in
    let kind : kind_of c.args.node.now ≡ Branch c.in-Branch.limit = search (rules, the_lemmas) in
    record {
      fault = first_fault_below c.args.depth c.args.passed.nodes c.args.passed.leaves c.args.node.now c.in_ok-check_alone.ensures.fault ∙ search (rules, the_lemmas);
      nodes = omega (arith, length_places_out c.args.node.now, ap length below);
      leaves = omega (arith, leaf_count_out c.args.node.now, ap own_leaves kind, ap leaf_count below);
      few_nodes = omega (arith, c.in_ok-check_alone.ensures.within);
      few_leaves = omega arith;
    }

pub returns-in_err-next-in-Branch-clause-fault : goal.returns-in_err-next-in-Branch-clause-fault
returns-in_err-next-in-Branch-clause-fault g t c =
    let found = c.loop-kid.invariant.fault ∙ first_fault_found (c.args.depth + 1) c.loop-kid.next.nodes c.loop-kid.next.leaves c.deref-kid-items.result.now c.loop-kid.kid-index c.kid-item.result c.in_err-next-in-Branch.field-0.0 c.loop-kid-test.true c.kid-item.is c.in_err-next-in-Branch.ensures.fault in
    search (rules, found)

pub loop-kid-preserved : goal.loop-kid-preserved
loop-kid-preserved g t c =
    let kids = c.deref-kid-items.result.now in
    let kid = c.kid-item.result in
    let i = c.loop-kid.kid-index in
    let next = c.in_ok-next-in-Branch.next in
    record {
      fault = c.loop-kid.invariant.fault ∙ first_fault_passed (c.args.depth + 1) c.loop-kid.next.nodes c.loop-kid.next.leaves next.nodes next.leaves kids i kid c.loop-kid-test.true c.kid-item.is c.in_ok-next-in-Branch.ensures.fault c.in_ok-next-in-Branch.ensures.nodes c.in_ok-next-in-Branch.ensures.leaves;
      nodes = omega (arith, length_places_of_all-drop kids i kid c.loop-kid-test.true c.kid-item.is, c.in_ok-next-in-Branch.ensures.nodes, c.loop-kid.invariant.nodes);
      leaves = omega (arith, leaf_count_of_all-drop kids i kid c.loop-kid-test.true c.kid-item.is, c.in_ok-next-in-Branch.ensures.leaves, c.loop-kid.invariant.leaves);
      few_nodes = c.in_ok-next-in-Branch.ensures.few_nodes;
      few_leaves = c.in_ok-next-in-Branch.ensures.few_leaves;
    }
