use Rattle.std.proofs.Common.{rules, arith, ◌≡◌, ◌+◌, ◌≤◌, ◌<◌, ◌∙◌, ◌++◌, ◌∷◌, [], ℕ, List, length, take, sym, ap}
use Rattle.std.specs.List.{cons_option}
use Rattle.std.proofs.lemmas.List.{at_drop_all, take_more_set}
use Rattle.limit_tree.specs.Outline.{places, leaf_count, kids_of, kind_of, leaf_want, leaf_floor}
use Rattle.limit_tree.specs.declared.place.NodeKind.{NodeKind}
use Rattle.limit_tree.specs.declared.place.NodeKind.TheVariants.{Branch, Leaf}
use Rattle.limit_tree.specs.declared.place.Place.{Place}
use Rattle.limit_tree.specs.declared.node.Node.TheViews.{the_lemmas}
use Rattle.limit_tree.proofs.Places.{places_of_all, own_leaves, leaf_count_out, leaf_count_of_all-drop}
use Rattle.limit_tree.proofs.Reported.{reported, reported-out, table-more}
use Rattle.limit_tree.proofs.tables.+leaves_into.Goals as goal

pub loop-kid-init : goal.loop-kid-init
loop-kid-init g t c =
    let node = c.args.node.now in
    let below : places_of_all (kids_of node) ≡ places_of_all c.deref-kid-items.result.now = search (rules, the_lemmas) in
    let kind : kind_of node ≡ Branch c.in-Branch.limit = search (rules, the_lemmas) in
    record {
      next = omega (arith, leaf_count_out node, ap own_leaves kind, ap leaf_count below);
      size = omega arith;
      floors_size = omega arith;
      wants = ap (λ (ws : List ℕ). take c.args.first c.args.wants.now ++ ws) (sym (reported-out leaf_want node ∙ (ap (λ (k : NodeKind). cons_option (leaf_want k) (reported leaf_want (places_of_all (kids_of node)))) kind ∙ ap (reported leaf_want) below)));
      floors = ap (λ (fs : List ℕ). take c.args.first c.args.floors.now ++ fs) (sym (reported-out leaf_floor node ∙ (ap (λ (k : NodeKind). cons_option (leaf_floor k) (reported leaf_floor (places_of_all (kids_of node)))) kind ∙ ap (reported leaf_floor) below)));
    }

pub loop-kid-preserved : goal.loop-kid-preserved
loop-kid-preserved g t c =
    let kids = c.deref-kid-items.result.now in
    let kid = c.kid-item.result in
    let i = c.loop-kid.kid-index in
    record {
      next = omega (arith, leaf_count_of_all-drop kids i kid c.loop-kid-test.true c.kid-item.is, c.leaves_into-next.ensures.next, c.loop-kid.invariant.next);
      size = omega (arith, c.leaves_into-next.ensures.size, c.loop-kid.invariant.size);
      floors_size = omega (arith, c.leaves_into-next.ensures.floors_size, c.loop-kid.invariant.floors_size);
      wants = table-more leaf_want kids i kid _ _ _ c.loop-kid-test.true c.kid-item.is c.leaves_into-next.ensures.wants c.loop-kid.invariant.wants;
      floors = table-more leaf_floor kids i kid _ _ _ c.loop-kid-test.true c.kid-item.is c.leaves_into-next.ensures.floors c.loop-kid.invariant.floors;
    }

pub returns-in-Leaf-clause-wants : goal.returns-in-Leaf-clause-wants
returns-in-Leaf-clause-wants g t c =
    let node = c.args.node.now in
    let kind : kind_of node ≡ Leaf c.in-Leaf.want c.in-Leaf.floor = search (rules, the_lemmas) in
    let none : places_of_all (kids_of node) ≡ [] = search (rules, the_lemmas) in
    let inside : c.args.first < length c.args.wants.now = omega (arith, c.requires.room, leaf_count_out node, ap own_leaves kind) in
    take_more_set c.args.wants.now c.args.first c.in-Leaf.want inside ∙
    ap (λ (ws : List ℕ). take c.args.first c.args.wants.now ++ ws) (sym (reported-out leaf_want node ∙ (ap (λ (k : NodeKind). cons_option (leaf_want k) (reported leaf_want (places_of_all (kids_of node)))) kind ∙ ap (λ (ps : List Place). c.in-Leaf.want ∷ reported leaf_want ps) none)))

pub returns-in-Leaf-clause-floors : goal.returns-in-Leaf-clause-floors
returns-in-Leaf-clause-floors g t c =
    let node = c.args.node.now in
    let kind : kind_of node ≡ Leaf c.in-Leaf.want c.in-Leaf.floor = search (rules, the_lemmas) in
    let none : places_of_all (kids_of node) ≡ [] = search (rules, the_lemmas) in
    let inside : c.args.first < length c.args.floors.now = omega (arith, c.requires.room, c.requires.tables, leaf_count_out node, ap own_leaves kind) in
    take_more_set c.args.floors.now c.args.first c.in-Leaf.floor inside ∙
    ap (λ (fs : List ℕ). take c.args.first c.args.floors.now ++ fs) (sym (reported-out leaf_floor node ∙ (ap (λ (k : NodeKind). cons_option (leaf_floor k) (reported leaf_floor (places_of_all (kids_of node)))) kind ∙ ap (λ (ps : List Place). c.in-Leaf.floor ∷ reported leaf_floor ps) none)))

pub bounds-wants-first : goal.bounds-wants-first
bounds-wants-first g t c =
    let node = c.args.node.now in
    let kind : kind_of node ≡ Leaf c.in-Leaf.want c.in-Leaf.floor = search (rules, the_lemmas) in
    omega (arith, c.requires.room, leaf_count_out node, ap own_leaves kind)

pub bounds-floors-first : goal.bounds-floors-first
bounds-floors-first g t c =
    let node = c.args.node.now in
    let kind : kind_of node ≡ Leaf c.in-Leaf.want c.in-Leaf.floor = search (rules, the_lemmas) in
    omega (arith, c.requires.room, c.requires.tables, leaf_count_out node, ap own_leaves kind)

pub leaves_into-next-requires : goal.leaves_into-next-requires
leaves_into-next-requires g t c =
    let kid = c.kid-item.result in
    let more = leaf_count_of_all-drop c.deref-kid-items.result.now c.loop-kid.kid-index kid c.loop-kid-test.true c.kid-item.is in
    let room : c.loop-kid.next + leaf_count (places kid) ≤ length c.loop-kid.wants = omega (arith, more, c.loop-kid.invariant.next, c.loop-kid.invariant.size, c.requires.room) in
    let tables : length c.loop-kid.floors ≡ length c.loop-kid.wants = omega (arith, c.loop-kid.invariant.size, c.loop-kid.invariant.floors_size, c.requires.tables) in
    search (rules, the_lemmas, room, tables)

pub returns-in-Leaf-clause-next : goal.returns-in-Leaf-clause-next
returns-in-Leaf-clause-next g t c =
    let node = c.args.node.now in
    let kind : kind_of node ≡ Leaf c.in-Leaf.want c.in-Leaf.floor = search (rules, the_lemmas) in
    let none : places_of_all (kids_of node) ≡ [] = search (rules, the_lemmas) in
    omega (arith, leaf_count_out node, ap own_leaves kind, ap leaf_count none)

pub returns-after-loop-kid-clause-next : goal.returns-after-loop-kid-clause-next
returns-after-loop-kid-clause-next g t c =
    omega (arith, c.loop-kid.invariant.next, at_drop_all (λ ks. leaf_count (places_of_all ks)) c.deref-kid-items.result.now c.loop-kid.kid-index c.loop-kid-test.false)

pub returns-after-loop-kid-clause-size : goal.returns-after-loop-kid-clause-size
returns-after-loop-kid-clause-size g t c = c.loop-kid.invariant.size

pub returns-after-loop-kid-clause-floors_size : goal.returns-after-loop-kid-clause-floors_size
returns-after-loop-kid-clause-floors_size g t c = c.loop-kid.invariant.floors_size
