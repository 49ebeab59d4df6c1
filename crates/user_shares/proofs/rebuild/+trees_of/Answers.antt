use Rattle.std.proofs.Common.{rules, arith, ◌≡◌, ◌+◌, ◌-◌, ◌<◌, ◌≤◌, ◌∙◌, ◌++◌, [], ◌∷◌, ℕ, List, length, length-append, append-nil, take, suc, sym, ap, subst}
use Rattle.limit_tree.specs.declared.node.Node.{Node}
use Rattle.limit_tree.specs.Flat.{IsRow, HasRow}
use Rattle.limit_tree.proofs.Hops.{row-next, row-inside, row-onward}
use Rattle.user_shares.specs.Rebuilt.{reshaped, shapes, nodes_of}
use Rattle.user_shares.proofs.Reshaping.{reshaped-more, reshaped-node, kids-row, row-done}
use Rattle.user_shares.proofs.rebuild.+trees_of.Goals as goal

pub loop-tree-init : goal.loop-tree-init
loop-tree-init g t c =
    let none : c.args.trees ≡ c.args.trees - 0 = omega arith in
    let before = take c.args.first (reshaped c.args.flat.now c.args.kinds.now) in
    record {
      past = omega arith;
      has = subst (λ (n : ℕ). HasRow c.args.flat.now c.args.first n) none c.requires.row;
      row = λ begin last past row. (begin, subst (λ (n : ℕ). IsRow c.args.flat.now c.args.first begin n last past) none row);
      count = ap length c.new-built.ensures.items;
      built = ap (λ ns. before ++ shapes (nodes_of ns)) c.new-built.ensures.items ∙ append-nil before;
    }

pub place-place-requires : goal.place-place-requires
place-place-requires g t c = record { node = row-inside c.args.flat.now c.loop-tree.at (c.args.trees - c.loop-tree._tree) c.loop-tree.invariant.has (omega arith) }

pub trees_of-requires : goal.trees_of-requires
trees_of-requires g t c =
    let ps = c.args.flat.now in
    let shaped = c.nodes-nodes.ensures.flat.shaped in
    let tree = shaped c.loop-tree.at c.place-place.result c.place-place.ensures.place in
    let falls : length ps - (c.loop-tree.at + 1) < length ps - c.args.first = omega (arith, tree.inside, tree.some, c.loop-tree.invariant.past) in
    let row : HasRow ps (c.loop-tree.at + 1) c.place-place.result.kids = kids-row ps c.loop-tree.at c.place-place.result shaped c.place-place.ensures.place in
    search (rules, falls, row)

pub kind_at-requires : goal.kind_at-requires
kind_at-requires g t c =
    let tree = c.nodes-nodes.ensures.flat.shaped c.loop-tree.at c.place-place.result c.place-place.ensures.place in
    record { node = omega (arith, tree.inside, tree.some, c.requires.kinds.nodes) }

pub overflow_add-at-in-loop-tree : goal.overflow_add-at-in-loop-tree
overflow_add-at-in-loop-tree g t c =
    let tree = c.nodes-nodes.ensures.flat.shaped c.loop-tree.at c.place-place.result c.place-place.ensures.place in
    omega (arith, tree.inside, c.nodes-nodes.ensures.flat.few_nodes)

pub loop-tree-preserved : goal.loop-tree-preserved
loop-tree-preserved g t c =
    let ps = c.args.flat.now in
    let kinds = c.args.kinds.now in
    let p = c.place-place.result in
    let got = c.place-place.ensures.place in
    let at = c.loop-tree.at in
    let inv = c.loop-tree.invariant in
    let shaped = c.nodes-nodes.ensures.flat.shaped in
    let left = c.args.trees - (c.loop-tree._tree + 1) in
    let more : c.args.trees - c.loop-tree._tree ≡ suc left = omega arith in
    let made = reshaped-node ps kinds at p c.kind_at.result c.in_ok-kids.kids.items c.node_over-node.result shaped c.requires.kinds got c.kind_at.ensures.kind c.in_ok-kids.ensures.count c.in_ok-kids.ensures.reshaped c.node_over-node.ensures.places in
    record {
      past = omega (arith, inv.past);
      has = row-next ps at (c.args.trees - c.loop-tree._tree) left p shaped inv.has more got;
      row = λ begin last past row.
          let now = inv.row begin last past row in
          (now.0 + p.leaves, (row-onward ps at now.0 (c.args.trees - c.loop-tree._tree) left last past p now.1 more got).1);
      count = omega (arith, inv.count, ap length c.in_ok-push.ensures.items, length-append c.loop-tree.built.items (c.node_over-node.result ∷ []));
      built = reshaped-more ps kinds c.args.first at (at + p.nodes) c.loop-tree.built.items _ c.node_over-node.result inv.built made c.in_ok-push.ensures.items;
    }

pub returns : goal.returns
returns g t c =
    let ps = c.args.flat.now in
    let inv = c.loop-tree.invariant in
    let none : c.args.trees - c.loop-tree._tree ≡ 0 = omega arith in
    record {
      count = omega (arith, inv.count);
      reshaped = λ begin last past row.
          let now = inv.row begin last past row in
          inv.built ∙ ap (λ (n : ℕ). take n (reshaped ps c.args.kinds.now)) (row-done ps c.loop-tree.at now.0 (c.args.trees - c.loop-tree._tree) last past now.1 none);
    }
