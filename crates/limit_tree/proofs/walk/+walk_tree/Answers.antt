use Rattle.std.proofs.Common.{rules, arith, ◌≡◌, ◌+◌, ◌^◌, ◌<◌, ◌≤◌, ◌∙◌, ◌∷◌, ◌++◌, [], ℕ, List, length, map, drop, sym, ap, subst, length-append, append_assoc}
use Rattle.std.proofs.lemmas.List.{length-map, at_drop_all}
use Rattle.limit_tree.specs.declared.place.Place.{Place}
use Rattle.limit_tree.specs.Outline.{places, leaf_count, floor_sum, moved, kids_of, kind_of, own_floor}
use Rattle.limit_tree.specs.declared.place.NodeKind.TheVariants.{Branch}
use Rattle.limit_tree.specs.declared.node.Node.TheViews.{the_lemmas}
use Rattle.limit_tree.proofs.Places.{places_of_all, own_leaves, leaf_count-append, leaf_count-cons, length_places_out, leaf_count_out, floor_sum_out, length_places_of_all-drop, leaf_count_of_all-drop, floor_sum_of_all-drop}
use Rattle.limit_tree.proofs.Moves.{leaf_count-moved, moved_out, moved_of_all-drop}
use Rattle.limit_tree.proofs.Shown.{HasShown, shown-all}
use Rattle.limit_tree.proofs.walk.+walk_tree.Goals as goal

pub loop-kid-init : goal.loop-kid-init
unfolding HasShown
loop-kid-init g t c =
    let below : places_of_all (kids_of c.args.node.now) ≡ places_of_all c.deref-kid-items.result.now = search (rules, the_lemmas) in
    let kind : kind_of c.args.node.now ≡ Branch c.in-Branch.limit = search (rules, the_lemmas) in
    let count : c.len-left.result ≡ length c.deref-kid-items.result.now = search (rules, the_lemmas) in
    let root = c.place_of-place.result in
    let rest = moved (c.args.depth + 1) c.args.passed.leaves in
    record {
      some = omega arith;
      nodes = omega (arith, length_places_out c.args.node.now, ap length below);
      leaves = omega (arith, leaf_count_out c.args.node.now, ap own_leaves kind, ap leaf_count below);
      floors = omega (arith, floor_sum_out c.args.node.now, ap floor_sum below);
      left = omega (arith, count);
      rest = record {
        nodes = omega (arith, length_places_out c.args.node.now, ap length below, c.requires.size.nodes);
        leaves = omega (arith, leaf_count_out c.args.node.now, ap own_leaves kind, ap leaf_count below, c.requires.size.leaves);
        floors = omega (arith, floor_sum_out c.args.node.now, ap own_floor kind, ap floor_sum below, c.requires.size.floors);
      };
      same = c.visit.ensures.leaves;
      saw = λ start seen count leaves saw. (
        root ∷ [],
        length-append seen (root ∷ []) ∙ omega (arith, count),
        leaf_count-append seen (root ∷ []) ∙ omega (arith, leaves, leaf_count-cons root [], ap own_leaves (ap (λ (p : Place). p.kind) c.place_of-place.ensures.place ∙ kind)),
        c.visit.ensures.saw start seen count (leaves ∙ sym (ap (λ (p : Place). p.first) c.place_of-place.ensures.place)) saw,
        moved_out c.args.depth c.args.passed.leaves c.args.node.now ∙
            (ap (λ (p : Place). p ∷ map rest (places_of_all (kids_of c.args.node.now))) (sym c.place_of-place.ensures.place) ∙
            ap (λ (ps : List Place). root ∷ map rest ps) below),
      );
    }

pub loop-kid-preserved : goal.loop-kid-preserved
unfolding HasShown
loop-kid-preserved g t c =
    let kids = c.deref-kid-items.result.now in
    let kid = c.kid-item.result in
    let i = c.loop-kid.kid-index in
    let depth = c.args.depth + 1 in
    let here = map (moved depth c.loop-kid.next.leaves) (places kid) in
    let others = places_of_all (drop (i + 1) kids) in
    record {
      some = omega (arith, c.walk_tree-next.ensures.nodes, c.loop-kid.invariant.some);
      nodes = omega (arith, length_places_of_all-drop kids i kid c.loop-kid-test.true c.kid-item.is, c.walk_tree-next.ensures.nodes, c.loop-kid.invariant.nodes);
      leaves = omega (arith, leaf_count_of_all-drop kids i kid c.loop-kid-test.true c.kid-item.is, c.walk_tree-next.ensures.leaves, c.loop-kid.invariant.leaves);
      floors = omega (arith, floor_sum_of_all-drop kids i kid c.loop-kid-test.true c.kid-item.is, c.loop-kid.invariant.floors);
      left = omega (arith, c.loop-kid.invariant.left, c.loop-kid-test.true);
      rest = record {
        nodes = omega (arith, length_places_of_all-drop kids i kid c.loop-kid-test.true c.kid-item.is, c.loop-kid.invariant.rest.nodes, c.size_of_next-own.ensures.size.nodes);
        leaves = omega (arith, leaf_count_of_all-drop kids i kid c.loop-kid-test.true c.kid-item.is, c.loop-kid.invariant.rest.leaves, c.size_of_next-own.ensures.size.leaves);
        floors = omega (arith, floor_sum_of_all-drop kids i kid c.loop-kid-test.true c.kid-item.is, c.loop-kid.invariant.rest.floors, c.size_of_next-own.ensures.size.floors);
      };
      same = c.walk_tree-next.ensures.same ∙ c.loop-kid.invariant.same;
      saw = λ start seen count leaves saw.
          let was = c.loop-kid.invariant.saw start seen count leaves saw in (
            was.0 ++ here,
            ap length (sym (append_assoc seen was.0 here)) ∙ (length-append (seen ++ was.0) here ∙ omega (arith, was.1, length-map (places kid) (moved depth c.loop-kid.next.leaves), c.walk_tree-next.ensures.nodes)),
            ap leaf_count (sym (append_assoc seen was.0 here)) ∙ (leaf_count-append (seen ++ was.0) here ∙ omega (arith, was.2, leaf_count-moved depth c.loop-kid.next.leaves (places kid), c.walk_tree-next.ensures.leaves)),
            subst (λ (shown : List Place). g.V.Visitor.Saw start shown c.walk_tree-next.new.visitor) (append_assoc seen was.0 here) (c.walk_tree-next.ensures.saw start (seen ++ was.0) was.1 was.2 was.3),
            was.4 ∙
                (ap (λ (ps : List Place). was.0 ++ ps) (moved_of_all-drop depth c.loop-kid.next.leaves kids i kid c.loop-kid-test.true c.kid-item.is) ∙
                (sym (append_assoc was.0 here (map (moved depth (c.loop-kid.next.leaves + leaf_count (places kid))) others)) ∙
                ap (λ (n : ℕ). was.0 ++ here ++ map (moved depth n) others) (sym c.walk_tree-next.ensures.leaves))),
          );
    }

pub size_of_next-own-requires-clause-last : goal.size_of_next-own-requires-clause-last
size_of_next-own-requires-clause-last g t c = λ one.
    let kids = c.deref-kid-items.result.now in
    let kid = c.kid-item.result in
    let i = c.loop-kid.kid-index in
    let past : length kids ≤ i + 1 = omega (arith, one, c.loop-kid.invariant.left) in
    record {
      nodes = omega (arith, length_places_of_all-drop kids i kid c.loop-kid-test.true c.kid-item.is, c.loop-kid.invariant.rest.nodes, at_drop_all (λ ks. length (places_of_all ks)) kids (i + 1) past);
      leaves = omega (arith, leaf_count_of_all-drop kids i kid c.loop-kid-test.true c.kid-item.is, c.loop-kid.invariant.rest.leaves, at_drop_all (λ ks. leaf_count (places_of_all ks)) kids (i + 1) past);
      floors = omega (arith, floor_sum_of_all-drop kids i kid c.loop-kid-test.true c.kid-item.is, c.loop-kid.invariant.rest.floors, at_drop_all (λ ks. floor_sum (places_of_all ks)) kids (i + 1) past);
    }

pub overflow_sub-rest-in-loop-kid : goal.overflow_sub-rest-in-loop-kid
overflow_sub-rest-in-loop-kid g t c = omega (arith, length_places_of_all-drop c.deref-kid-items.result.now c.loop-kid.kid-index c.kid-item.result c.loop-kid-test.true c.kid-item.is, c.loop-kid.invariant.rest.nodes, c.size_of_next-own.ensures.size.nodes)

pub overflow_sub-rest-in-loop-kid-3 : goal.overflow_sub-rest-in-loop-kid-3
overflow_sub-rest-in-loop-kid-3 g t c = omega (arith, floor_sum_of_all-drop c.deref-kid-items.result.now c.loop-kid.kid-index c.kid-item.result c.loop-kid-test.true c.kid-item.is, c.loop-kid.invariant.rest.floors, c.size_of_next-own.ensures.size.floors)

pub returns-after-loop-kid-clause-saw : goal.returns-after-loop-kid-clause-saw
returns-after-loop-kid-clause-saw g t c =
    let kids = c.deref-kid-items.result.now in
    let rest = moved (c.args.depth + 1) c.loop-kid.next.leaves in
    shown-all g.V.Visitor.Saw _ _ _ _ _ _ _ _ (at_drop_all (λ ks. map rest (places_of_all ks)) kids c.loop-kid.kid-index c.loop-kid-test.false) c.loop-kid.invariant.saw

pub place_of-place-requires : goal.place_of-place-requires
place_of-place-requires g t c = record { size = c.requires.size }

pub overflow_add-next : goal.overflow_add-next
overflow_add-next g t c = omega (arith, c.requires.nodes)

pub overflow_add-next-in-Leaf : goal.overflow_add-next-in-Leaf
overflow_add-next-in-Leaf g t c = omega (arith, c.requires.leaves)

pub overflow_sub-rest : goal.overflow_sub-rest
overflow_sub-rest g t c = omega (arith, length_places_out c.args.node.now, c.requires.size.nodes)

pub size_of_next-own-requires-clause-nodes : goal.size_of_next-own-requires-clause-nodes
size_of_next-own-requires-clause-nodes g t c =
    omega (arith, length_places_of_all-drop c.deref-kid-items.result.now c.loop-kid.kid-index c.kid-item.result c.loop-kid-test.true c.kid-item.is, c.loop-kid.invariant.nodes, c.requires.nodes)

pub size_of_next-own-requires-clause-leaves : goal.size_of_next-own-requires-clause-leaves
size_of_next-own-requires-clause-leaves g t c =
    omega (arith, leaf_count_of_all-drop c.deref-kid-items.result.now c.loop-kid.kid-index c.kid-item.result c.loop-kid-test.true c.kid-item.is, c.loop-kid.invariant.leaves, c.requires.leaves)

pub size_of_next-own-requires-clause-floors : goal.size_of_next-own-requires-clause-floors
size_of_next-own-requires-clause-floors g t c =
    omega (arith, floor_sum_of_all-drop c.deref-kid-items.result.now c.loop-kid.kid-index c.kid-item.result c.loop-kid-test.true c.kid-item.is, c.loop-kid.invariant.floors, c.requires.floors)

pub overflow_add-depth : goal.overflow_add-depth
overflow_add-depth g t c = omega (arith, c.requires.depth)

pub walk_tree-next-requires : goal.walk_tree-next-requires
walk_tree-next-requires g t c =
    let kids = c.deref-kid-items.result.now in
    let kid = c.kid-item.result in
    let i = c.loop-kid.kid-index in
    let more = length_places_of_all-drop kids i kid c.loop-kid-test.true c.kid-item.is in
    let more_leaves = leaf_count_of_all-drop kids i kid c.loop-kid-test.true c.kid-item.is in
    let depth : length (places kid) + (c.args.depth + 1) < 2 ^ 63 = omega (arith, more, c.loop-kid.invariant.nodes, c.loop-kid.invariant.some, c.requires.depth) in
    let nodes : c.loop-kid.next.nodes + length (places kid) < 2 ^ 63 = omega (arith, more, c.loop-kid.invariant.nodes, c.requires.nodes) in
    let leaves : c.loop-kid.next.leaves + leaf_count (places kid) < 2 ^ 63 = omega (arith, more_leaves, c.loop-kid.invariant.leaves, c.requires.leaves) in
    let floors : floor_sum (places kid) < 2 ^ 63 = omega (arith, floor_sum_of_all-drop kids i kid c.loop-kid-test.true c.kid-item.is, c.loop-kid.invariant.floors, c.requires.floors) in
    let inside : c.loop-kid.next.leaves + leaf_count (places kid) ≤ g.V.Visitor.leaves c.loop-kid.visitor = omega (arith, more_leaves, c.loop-kid.invariant.leaves, c.requires.inside, c.loop-kid.invariant.same) in
    search (rules, the_lemmas, depth, nodes, leaves, floors, c.size_of_next-own.ensures.size, inside)

pub overflow_sub-left : goal.overflow_sub-left
overflow_sub-left g t c = omega (arith, c.loop-kid.invariant.left, c.loop-kid-test.true)

pub overflow_sub-rest-in-loop-kid-2 : goal.overflow_sub-rest-in-loop-kid-2
overflow_sub-rest-in-loop-kid-2 g t c = omega (arith, leaf_count_of_all-drop c.deref-kid-items.result.now c.loop-kid.kid-index c.kid-item.result c.loop-kid-test.true c.kid-item.is, c.loop-kid.invariant.rest.leaves, c.size_of_next-own.ensures.size.leaves)

pub returns-after-loop-kid-clause-nodes : goal.returns-after-loop-kid-clause-nodes
returns-after-loop-kid-clause-nodes g t c =
    omega (arith, c.loop-kid.invariant.nodes, at_drop_all (λ ks. length (places_of_all ks)) c.deref-kid-items.result.now c.loop-kid.kid-index c.loop-kid-test.false)

pub returns-after-loop-kid-clause-leaves : goal.returns-after-loop-kid-clause-leaves
returns-after-loop-kid-clause-leaves g t c =
    omega (arith, c.loop-kid.invariant.leaves, at_drop_all (λ ks. leaf_count (places_of_all ks)) c.deref-kid-items.result.now c.loop-kid.kid-index c.loop-kid-test.false)

pub returns-after-loop-kid-clause-same : goal.returns-after-loop-kid-clause-same
returns-after-loop-kid-clause-same g t c = c.loop-kid.invariant.same
