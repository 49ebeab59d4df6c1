use Rattle.std.proofs.Common.{rules, arith, ◌≡◌, ◌+◌, ◌∙◌, ℕ, List, Option, [], length, drop, ap, sym}
use Rattle.std.proofs.lemmas.List.{drop_all}
use Rattle.limit_tree.specs.Outline.{places, floor_sum, kids_of, kind_of}
use Rattle.limit_tree.specs.Faults.{or_else, over_limit, first_over}
use Rattle.limit_tree.specs.declared.node.Node.{Node}
use Rattle.limit_tree.specs.declared.place.NodeKind.{NodeKind}
use Rattle.limit_tree.specs.declared.place.NodeKind.TheVariants.{Branch}
use Rattle.limit_tree.specs.declared.place.Place.{Place}
use Rattle.limit_tree.specs.declared.node.Node.TheViews.{the_lemmas}
use Rattle.limit_tree.proofs.Places.{places_of_all, length_places_of_all-drop, floor_sum_of_all-drop}
use Rattle.limit_tree.proofs.FaultLemmas.{or_else-assoc}
use Rattle.limit_tree.proofs.OverLemmas.{or_else-none, first_over_more, first_over_out}
use Rattle.limit_tree.proofs.fault.+floors_of.Goals as goal

pub overflow_add-below-in-loop-kid : goal.overflow_add-below-in-loop-kid
overflow_add-below-in-loop-kid g t c = omega (arith, floor_sum_of_all-drop c.deref-kid-items.result.now c.loop-kid.kid-index c.kid-item.result c.loop-kid-test.true c.kid-item.is, c.floors_of-more.ensures.sum, c.loop-kid.invariant.sum)

pub loop-kid-preserved : goal.loop-kid-preserved
loop-kid-preserved g t c =
    let kids = c.deref-kid-items.result.now in
    let kid = c.kid-item.result in
    let i = c.loop-kid.kid-index in
    let below = c.loop-kid.below in
    let number = c.args.number + below.nodes in
    let others = places_of_all (drop (i + 1) kids) in
    let next : number + length (places kid) ≡ c.args.number + (below.nodes + c.floors_of-more.result.nodes) = omega (arith, c.floors_of-more.ensures.nodes) in
    record {
      nodes = omega (arith, length_places_of_all-drop kids i kid c.loop-kid-test.true c.kid-item.is, c.floors_of-more.ensures.nodes, c.loop-kid.invariant.nodes);
      sum = omega (arith, floor_sum_of_all-drop kids i kid c.loop-kid-test.true c.kid-item.is, c.floors_of-more.ensures.sum, c.loop-kid.invariant.sum);
      over =
          c.loop-kid.invariant.over ∙
          (ap (or_else below.over) (first_over_more number kids i kid c.loop-kid-test.true c.kid-item.is) ∙
          (sym (or_else-assoc below.over (first_over number (places kid)) (first_over (number + length (places kid)) others)) ∙
          (ap (λ (o : Option ℕ). or_else (or_else below.over o) (first_over (number + length (places kid)) others)) (sym c.floors_of-more.ensures.over) ∙
          (ap (λ (o : Option ℕ). or_else o (first_over (number + length (places kid)) others)) (sym c.first_of-below.ensures.first) ∙
          ap (λ (n : ℕ). or_else c.first_of-below.result (first_over n others)) next))));
    }

pub returns-after-loop-kid-clause-over : goal.returns-after-loop-kid-clause-over
returns-after-loop-kid-clause-over g t c =
    let node = c.args.node.now in
    let kids = c.deref-kid-items.result.now in
    let below = c.loop-kid.below in
    let next = c.args.number + 1 in
    let same : places_of_all (kids_of node) ≡ places_of_all kids = search (rules, the_lemmas) in
    let kind : kind_of node ≡ Branch c.in-Branch.limit = search (rules, the_lemmas) in
    let none : drop c.loop-kid.kid-index kids ≡ [] = drop_all c.loop-kid.kid-index kids c.loop-kid-test.false in
    let floors : floor_sum (places node) ≡ below.sum = omega (arith, c.loop-kid.invariant.sum, ap (λ (ks : List (Node g.row.A.Denot)). floor_sum (places_of_all ks)) none) in
    let over : first_over next (places_of_all kids) ≡ below.over =
    c.loop-kid.invariant.over ∙ (ap (λ (ks : List (Node g.row.A.Denot)). or_else below.over (first_over (c.args.number + below.nodes) (places_of_all ks))) none ∙ or_else-none below.over) in
    let out : first_over c.args.number (places node) ≡ or_else (over_limit c.args.number below.sum (Branch c.in-Branch.limit)) below.over =
    first_over_out c.args.number node ∙
    (ap (λ (k : NodeKind). or_else (over_limit c.args.number (floor_sum (places node)) k) (first_over next (places_of_all (kids_of node)))) kind ∙
    (ap (λ (f : ℕ). or_else (over_limit c.args.number f (Branch c.in-Branch.limit)) (first_over next (places_of_all (kids_of node)))) floors ∙
    (ap (λ (ps : List Place). or_else (over_limit c.args.number below.sum (Branch c.in-Branch.limit)) (first_over next ps)) same ∙
    ap (or_else (over_limit c.args.number below.sum (Branch c.in-Branch.limit))) over))) in
    c.first_of.ensures.first ∙ (ap (λ (o : Option ℕ). or_else o below.over) c.over.ensures.over ∙ sym out)
