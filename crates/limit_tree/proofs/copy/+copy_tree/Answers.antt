use Rattle.std.proofs.Common.{rules, arith, ◌≡◌, ◌+◌, ◌∙◌, ◌∷◌, ◌++◌, [], length, map, ap, refl}
use Rattle.limit_tree.specs.declared.place.NodeKind.TheVariants.{Branch, Leaf}
use Rattle.limit_tree.specs.declared.node.Node.TheViews.{the_lemmas}
use Rattle.limit_tree.specs.declared.copy.TheConstants.{UNSEEN}
use Rattle.limit_tree.specs.Outline.{places, leaf_count, floor_sum, moved, kids_of, kind_of, own_floor, leaf_want, leaf_floor}
use Rattle.limit_tree.proofs.Places.{places_of_all, length_places_out, floor_sum_out, length_places_of_all-drop, floor_sum_of_all-drop}
use Rattle.limit_tree.proofs.Reported.{reported, table-more}
use Rattle.limit_tree.proofs.Copied.{copied-start, reported-branch, reported-leaf, copied-leaf, reached-more, length-copied, copied-more, copied-settled, nothing-left}
use Rattle.limit_tree.proofs.copy.+copy_tree.Goals as goal

pub loop-kid-init : goal.loop-kid-init
loop-kid-init g t c =
    let node = c.args.node.now in
    let below : places_of_all (kids_of node) ≡ places_of_all c.deref-kid-items.result.now = search (rules, the_lemmas) in
    let kind : kind_of node ≡ Branch c.in-Branch.limit = search (rules, the_lemmas) in
    let kids = c.deref-kid-items.result.now in
    record {
      nodes = omega (arith, length_places_out node, ap length below);
      sum = omega (arith, floor_sum_out node, ap own_floor kind, ap floor_sum below);
      places_are = copied-start (c.args.depth + 1) (length c.args.copy.now.wants.items) node kids UNSEEN c.args.copy.now.places.items c.push.new.self.items c.in_ok-push.ensures.items below;
      wants_are = reported-branch leaf_want node kids c.in-Branch.limit c.args.copy.now.wants.items refl kind below;
      floors_are = reported-branch leaf_floor node kids c.in-Branch.limit c.args.copy.now.floors.items refl kind below;
    }

pub overflow_add-sum : goal.overflow_add-sum
overflow_add-sum g t c =
    omega (arith, c.requires.floors, c.loop-kid.invariant.sum, c.in_ok-sum-in-Branch.ensures.floors, floor_sum_of_all-drop c.deref-kid-items.result.now c.loop-kid.kid-index c.kid-item.result c.loop-kid-test.true c.kid-item.is)

pub loop-kid-preserved : goal.loop-kid-preserved
loop-kid-preserved g t c =
    let kids = c.deref-kid-items.result.now in
    let kid = c.kid-item.result in
    let i = c.loop-kid.kid-index in
    let was = c.loop-kid.copy in
    let now = c.copy_tree.new.copy in
    let copied = c.in_ok-sum-in-Branch.ensures.copied in
    let reached : length now.wants.items ≡ length was.wants.items + leaf_count (places kid) = reached-more was.wants.items now.wants.items (places kid) copied.wants_are in
    record {
      nodes = omega (arith, c.loop-kid.invariant.nodes, length_places_of_all-drop kids i kid c.loop-kid-test.true c.kid-item.is);
      sum = omega (arith, c.loop-kid.invariant.sum, c.in_ok-sum-in-Branch.ensures.floors, floor_sum_of_all-drop kids i kid c.loop-kid-test.true c.kid-item.is);
      places_are = copied-more (c.args.depth + 1) (length was.wants.items) (length now.wants.items) kids i kid was.places.items now.places.items (c.args.copy.now.places.items ++ UNSEEN ∷ [] ++ map (moved (c.args.depth + 1) (length c.args.copy.now.wants.items)) (places_of_all (kids_of c.args.node.now))) c.loop-kid-test.true c.kid-item.is copied.nodes reached c.loop-kid.invariant.places_are;
      wants_are = table-more leaf_want kids i kid was.wants.items now.wants.items (c.args.copy.now.wants.items ++ reported leaf_want (places c.args.node.now)) c.loop-kid-test.true c.kid-item.is copied.wants_are c.loop-kid.invariant.wants_are;
      floors_are = table-more leaf_floor kids i kid was.floors.items now.floors.items (c.args.copy.now.floors.items ++ reported leaf_floor (places c.args.node.now)) c.loop-kid-test.true c.kid-item.is copied.floors_are c.loop-kid.invariant.floors_are;
    }

pub settle-requires-in-Branch-clause-number : goal.settle-requires-in-Branch-clause-number
settle-requires-in-Branch-clause-number g t c =
    let copy = c.loop-kid.copy in
    let all = nothing-left (λ ks. map (moved (c.args.depth + 1) (length copy.wants.items)) (places_of_all ks)) c.deref-kid-items.result.now c.loop-kid.kid-index copy.places.items (c.args.copy.now.places.items ++ UNSEEN ∷ [] ++ map (moved (c.args.depth + 1) (length c.args.copy.now.wants.items)) (places_of_all (kids_of c.args.node.now))) refl c.loop-kid-test.false c.loop-kid.invariant.places_are in
    omega (arith, c.len-number.ensures, length-copied (c.args.depth + 1) (length c.args.copy.now.wants.items) c.args.node.now UNSEEN c.args.copy.now.places.items copy.places.items all)

pub settle-requires-in-Branch-clause-first : goal.settle-requires-in-Branch-clause-first
settle-requires-in-Branch-clause-first g t c =
    let copy = c.loop-kid.copy in
    let all = nothing-left (λ ks. reported leaf_want (places_of_all ks)) c.deref-kid-items.result.now c.loop-kid.kid-index copy.wants.items (c.args.copy.now.wants.items ++ reported leaf_want (places c.args.node.now)) refl c.loop-kid-test.false c.loop-kid.invariant.wants_are in
    omega (arith, c.len-first.ensures, reached-more c.args.copy.now.wants.items copy.wants.items (places c.args.node.now) all)

pub settle-requires-in-Branch-clause-some : goal.settle-requires-in-Branch-clause-some
settle-requires-in-Branch-clause-some g t c = omega (arith, settle-requires-in-Branch-clause-number g t c, length_places_out c.args.node.now)

pub returns-in_ok-push-in-Leaf-2-clause-copied : goal.returns-in_ok-push-in-Leaf-2-clause-copied
returns-in_ok-push-in-Leaf-2-clause-copied g t c =
    let node = c.args.node.now in
    let was = c.args.copy.now in
    let kind : kind_of node ≡ Leaf c.in-Leaf.want c.in-Leaf.floor = search (rules, the_lemmas) in
    let none : places_of_all (kids_of node) ≡ [] = search (rules, the_lemmas) in
    record {
      nodes = copied-settled c.args.depth (length was.wants.items) c.len-first.result c.len-number.result node UNSEEN was.places.items _ c.settle.new.copy.places.items (omega (arith, c.len-first.ensures)) (omega (arith, c.len-number.ensures))
          (copied-leaf (c.args.depth + 1) (length was.wants.items) node UNSEEN was.places.items c.push.new.self.items c.in_ok-push.ensures.items none) c.settle.ensures.places;
      wants_are = reported-leaf leaf_want node c.in-Leaf.want c.in-Leaf.floor c.in-Leaf.want was.wants.items c.settle.new.copy.wants.items refl kind none (c.settle.ensures.wants ∙ c.in_ok-push-in-Leaf.ensures.items);
      floors_are = reported-leaf leaf_floor node c.in-Leaf.want c.in-Leaf.floor c.in-Leaf.floor was.floors.items c.settle.new.copy.floors.items refl kind none (c.settle.ensures.floors_are ∙ c.in_ok-push-in-Leaf-2.ensures.items);
    }

pub returns-after-loop-kid-clause-copied : goal.returns-after-loop-kid-clause-copied
returns-after-loop-kid-clause-copied g t c =
    let was = c.args.copy.now in
    let kids = c.deref-kid-items.result.now in
    let i = c.loop-kid.kid-index in
    let copy = c.loop-kid.copy in
    record {
      nodes = copied-settled c.args.depth (length was.wants.items) c.len-first.result c.len-number.result c.args.node.now UNSEEN was.places.items copy.places.items c.settle-in-Branch.new.copy.places.items (omega (arith, c.len-first.ensures)) (omega (arith, c.len-number.ensures))
          (nothing-left (λ ks. map (moved (c.args.depth + 1) (length copy.wants.items)) (places_of_all ks)) kids i copy.places.items (c.args.copy.now.places.items ++ UNSEEN ∷ [] ++ map (moved (c.args.depth + 1) (length c.args.copy.now.wants.items)) (places_of_all (kids_of c.args.node.now))) refl c.loop-kid-test.false c.loop-kid.invariant.places_are) c.settle-in-Branch.ensures.places;
      wants_are = c.settle-in-Branch.ensures.wants ∙ nothing-left (λ ks. reported leaf_want (places_of_all ks)) kids i copy.wants.items (c.args.copy.now.wants.items ++ reported leaf_want (places c.args.node.now)) refl c.loop-kid-test.false c.loop-kid.invariant.wants_are;
      floors_are = c.settle-in-Branch.ensures.floors_are ∙ nothing-left (λ ks. reported leaf_floor (places_of_all ks)) kids i copy.floors.items (c.args.copy.now.floors.items ++ reported leaf_floor (places c.args.node.now)) refl c.loop-kid-test.false c.loop-kid.invariant.floors_are;
    }
