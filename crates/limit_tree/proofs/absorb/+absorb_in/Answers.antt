use Rattle.std.proofs.Common.{rules, arith, ◌≡◌, ◌+◌, ◌-◌, ◌∙◌, ◌^◌, ◌<◌, length, sum, sym, ap, suc}
use Rattle.limit_tree.specs.Outline.{places, kids_of, absorbed}
use Rattle.limit_tree.specs.declared.node.Node.TheViews.{the_lemmas}
use Rattle.limit_tree.proofs.Leaves.{wants_in}
use Rattle.limit_tree.proofs.Places.{places_of_all, length_places_out, length_places_of_all-drop}
use Rattle.limit_tree.proofs.Absorbs.{absorbed_kid, absorbed_past_kid, absorbed_below, sum_wants_more, sum_wants_below}
use Rattle.limit_tree.proofs.absorb.+absorb_in.Goals as goal

pub loop-kid-init : goal.loop-kid-init
loop-kid-init g t c =
    let node = c.args.node.now in
    let below : places_of_all (kids_of node) ≡ places_of_all c.deref-kid-items.result.now = search (rules, the_lemmas) in
    let next : c.args.number ≡ suc (c.args.number - 1) = omega arith in
    record {
      past = omega arith;
      nodes = omega (arith, length_places_out node, ap length below);
      wants = omega (arith, sum_wants_below node, ap sum (ap wants_in below));
      value = absorbed_below c.args.level node c.args.number (c.args.number - 1) next ∙ ap (λ ps. absorbed c.args.level ps (c.args.number - 1)) below;
    }

pub absorb_in-requires : goal.absorb_in-requires
absorb_in-requires g t c =
    let kids = c.deref-kid-items.result.now in
    let kid = c.kid-item.result in
    let i = c.loop-kid.kid-index in
    let nodes : length (places kid) < 2 ^ 63 = omega (arith, length_places_of_all-drop kids i kid c.loop-kid-test.true c.kid-item.is, c.loop-kid.invariant.nodes, c.requires.nodes) in
    let wants : sum (wants_in (places kid)) < 2 ^ 63 = omega (arith, sum_wants_more kids i kid c.loop-kid-test.true c.kid-item.is, c.loop-kid.invariant.wants, c.requires.wants) in
    search (rules, the_lemmas, nodes, wants)

pub returns-in-Ok-clause-absorbed : goal.returns-in-Ok-clause-absorbed
returns-in-Ok-clause-absorbed g t c =
    c.in-Ok.ensures.absorbed ∙
    (sym (absorbed_kid c.args.level c.deref-kid-items.result.now c.loop-kid.kid-index c.kid-item.result (c.args.number - c.loop-kid.passed) c.loop-kid-test.true c.kid-item.is c.in-Ok.ensures.inside) ∙
    sym c.loop-kid.invariant.value)

pub returns-in-Ok-clause-inside : goal.returns-in-Ok-clause-inside
returns-in-Ok-clause-inside g t c =
    omega (arith, length_places_of_all-drop c.deref-kid-items.result.now c.loop-kid.kid-index c.kid-item.result c.loop-kid-test.true c.kid-item.is, c.in-Ok.ensures.inside, c.loop-kid.invariant.nodes, c.loop-kid.invariant.past)

pub returns-in-Ok-clause-most : goal.returns-in-Ok-clause-most
returns-in-Ok-clause-most g t c =
    omega (arith, sum_wants_more c.deref-kid-items.result.now c.loop-kid.kid-index c.kid-item.result c.loop-kid-test.true c.kid-item.is, c.in-Ok.ensures.most, c.loop-kid.invariant.wants)

pub loop-kid-preserved : goal.loop-kid-preserved
loop-kid-preserved g t c =
    let kids = c.deref-kid-items.result.now in
    let kid = c.kid-item.result in
    let i = c.loop-kid.kid-index in
    let passed = c.loop-kid.passed in
    let left : c.args.number - passed ≡ length (places kid) + (c.args.number - (passed + c.in-Err.nodes)) = omega (arith, c.in-Err.ensures.nodes, c.in-Err.ensures.past, c.loop-kid.invariant.past) in
    record {
      past = omega (arith, c.in-Err.ensures.past, c.loop-kid.invariant.past);
      nodes = omega (arith, length_places_of_all-drop kids i kid c.loop-kid-test.true c.kid-item.is, c.in-Err.ensures.nodes, c.loop-kid.invariant.nodes);
      wants = omega (arith, sum_wants_more kids i kid c.loop-kid-test.true c.kid-item.is, c.loop-kid.invariant.wants);
      value = absorbed_past_kid c.args.level kids i kid (c.args.number - passed) (c.args.number - (passed + c.in-Err.nodes)) (absorbed c.args.level (places c.args.node.now) c.args.number) c.loop-kid-test.true c.kid-item.is left c.loop-kid.invariant.value;
    }
