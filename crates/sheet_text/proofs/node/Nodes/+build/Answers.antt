use Rattle.std.proofs.Common.{rules, ◌≡◌, ◌<◌, ◌∙◌, ◌-◌, ◌∷◌, ◌++◌, [], ℕ, List, length, map, take, get_or, ap, sym, subst, arith}
use Rattle.std.specs.Prelude.{flat_map}
use Rattle.std.proofs.Math.Seq.{take_all}
use Rattle.limit_tree.specs.Outline.{places}
use Rattle.sheet_text.specs.Paths.{Path}
use Rattle.sheet_text.specs.Table.{path_at}
use Rattle.sheet_text.specs.Rows.{AreBelow}
use Rattle.sheet_text.specs.Tree.{outline_below, paths_below, paths_to}
use Rattle.sheet_text.proofs.Trees.{below_push, paths_push, built_more, order_more, built_all, order_all, kind_there}
use Rattle.sheet_text.proofs.node.Nodes.+build.Goals as goal

pub loop-kid-init : goal.loop-kid-init
loop-kid-init g t c = record {
  below = subst (AreBelow (length c.args.self.now)) (sym c.in_ok-push.ensures.items) (below_push (length c.args.self.now) c.args.order.now.items c.args.place c.requires.below c.requires.place);
  built = ap (map places) c.in_ok-kids.ensures.items;
  order = ap (paths_to c.args.self.now) c.in_ok-push.ensures.items ∙ paths_push c.args.self.now c.args.order.now.items c.args.place;
}

pub build-requires : goal.build-requires
build-requires g t c =
    let row = c.kids_to-below.result.now in
    let i = c.loop-kid.kid-index in
    let some : 0 < c.args.levels = c.kids_to-below.ensures.levels (omega (arith, c.loop-kid-test.true)) in
    let falls : c.args.levels - 1 < c.args.levels = omega arith in
    let place : get_or row i 0 < length c.args.self.now = c.kids_to-below.ensures.below i c.loop-kid-test.true in
    search (rules, falls, c.requires.rows, place, c.loop-kid.invariant.below)

pub loop-kid-preserved : goal.loop-kid-preserved
loop-kid-preserved g t c =
    let table = c.args.self.now in
    let row = c.kids_to-below.result.now in
    let i = c.loop-kid.kid-index in
    record {
      below = c.in_ok-node.ensures.below;
      built = ap (map places) c.in_ok-push-2.ensures.items
          ∙ built_more (λ place. outline_below table (c.args.levels - 1) (path_at table place)) places c.loop-kid.kids.items c.in_ok-node.node row i c.loop-kid-test.true c.loop-kid.invariant.built c.in_ok-node.ensures.built;
      order = order_more (λ place. paths_below table (c.args.levels - 1) (path_at table place)) _ _ _ row i c.loop-kid-test.true c.loop-kid.invariant.order c.in_ok-node.ensures.order;
    }

pub returns-clause-built : goal.returns-clause-built
returns-clause-built g t c =
    let table = c.args.self.now in
    let row = c.kids_to-below.result.now in
    let all : take c.loop-kid.kid-index row ≡ row = take_all c.loop-kid.kid-index row (omega arith) in
    built_all table c.args.levels c.args.place row c.kind.result (map places c.loop-kid.kids.items) (places c.node_over.result) c.node_over.ensures.node
    (c.kind.ensures.kind ∙ sym (kind_there table c.args.place c.len-table.ensures.table.names.once c.requires.place))
    (c.loop-kid.invariant.built ∙ ap (map (λ place. outline_below table (c.args.levels - 1) (path_at table place))) all) c.kids_to-below.ensures.kids

pub returns-clause-order : goal.returns-clause-order
returns-clause-order g t c =
    let table = c.args.self.now in
    let row = c.kids_to-below.result.now in
    let all : take c.loop-kid.kid-index row ≡ row = take_all c.loop-kid.kid-index row (omega arith) in
    let old = paths_to table c.args.order.now.items in
    let below : List ℕ → List Path = flat_map (λ place. paths_below table (c.args.levels - 1) (path_at table place)) in
    order_all table c.args.levels c.args.place old (paths_to table c.loop-kid.order.items) row
    (c.loop-kid.invariant.order ∙ ap (λ (ks : List ℕ). (old ++ path_at table c.args.place ∷ []) ++ below ks) all) c.kids_to-below.ensures.kids

pub returns-clause-below : goal.returns-clause-below
returns-clause-below g t c = c.loop-kid.invariant.below
