use Rattle.std.proofs.Common.{rules, arith, ◌≡◌, ◌∙◌, ◌^◌, ◌<◌, sum, sum_by, ap}
use Rattle.limit_tree.specs.Outline.{places, kids_of, cut}
use Rattle.limit_tree.specs.declared.node.Node.TheViews.{the_lemmas}
use Rattle.limit_tree.proofs.Leaves.{wants_in}
use Rattle.limit_tree.proofs.Places.{places_of_all}
use Rattle.limit_tree.proofs.Absorbs.{absorb_of, absorb_out, absorb_more, absorb_total, absorb_branch, sum_wants_more, sum_wants_below}
use Rattle.limit_tree.proofs.absorb.+absorb_tree.Goals as goal

pub loop-kid-init : goal.loop-kid-init
loop-kid-init g t c =
    let below : places_of_all (kids_of c.args.node.now) ≡ places_of_all c.deref-kid-items.result.now = search (rules, the_lemmas) in
    record {
      value = omega arith;
      most = omega (arith, sum_wants_below c.args.node.now, ap sum (ap wants_in below));
    }

pub absorb_tree-total-requires : goal.absorb_tree-total-requires
absorb_tree-total-requires g t c =
    let wants : sum (wants_in (places c.kid-item.result)) < 2 ^ 63 = omega (arith, sum_wants_more c.deref-kid-items.result.now c.loop-kid.kid-index c.kid-item.result c.loop-kid-test.true c.kid-item.is, c.loop-kid.invariant.most, c.requires.wants) in
    search (rules, the_lemmas, wants)

pub overflow_add-total : goal.overflow_add-total
overflow_add-total g t c = omega (arith, sum_wants_more c.deref-kid-items.result.now c.loop-kid.kid-index c.kid-item.result c.loop-kid-test.true c.kid-item.is, c.absorb_tree-total.ensures.most, c.loop-kid.invariant.most)

pub loop-kid-preserved : goal.loop-kid-preserved
loop-kid-preserved g t c =
    let kids = c.deref-kid-items.result.now in
    let kid = c.kid-item.result in
    let i = c.loop-kid.kid-index in
    record {
      value = omega (arith, absorb_more c.args.level kids i kid c.loop-kid-test.true c.kid-item.is, c.absorb_tree-total.ensures.absorbed, c.loop-kid.invariant.value);
      most = omega (arith, sum_wants_more kids i kid c.loop-kid-test.true c.kid-item.is, c.absorb_tree-total.ensures.most, c.loop-kid.invariant.most);
    }

pub returns-after-loop-kid-clause-absorbed : goal.returns-after-loop-kid-clause-absorbed
returns-after-loop-kid-clause-absorbed g t c =
    let kids = c.deref-kid-items.result.now in
    let total = absorb_total c.args.level kids c.loop-kid.kid-index c.loop-kid.total c.loop-kid-test.false c.loop-kid.invariant.value in
    let out : absorb_of c.args.level c.args.node.now ≡ cut c.in-Branch.limit (sum_by (absorb_of c.args.level) kids) = absorb_out c.args.level c.args.node.now ∙ search (rules, the_lemmas) in
    absorb_branch c.args.level c.args.node.now c.in-Branch.limit (sum_by (absorb_of c.args.level) kids) c.loop-kid.total c.at_most.result out total c.at_most.ensures.cut
