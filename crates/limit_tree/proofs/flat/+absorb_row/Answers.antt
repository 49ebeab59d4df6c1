use Rattle.std.proofs.Common.{arith, ◌≡◌, ◌+◌, ◌-◌, ◌∙◌, suc, ap}
use Rattle.limit_tree.specs.Outline.{cut}
use Rattle.limit_tree.specs.Flat.{taken_in}
use Rattle.limit_tree.proofs.Bare.{absorbed-bare, bare-row}
use Rattle.limit_tree.proofs.Hops.{absorbed-leaf, absorbed-branch, taken-more, taken-wants, row-inside, row-onward}
use Rattle.limit_tree.proofs.flat.+absorb_row.Goals.{in-Leaf, in-Branch, in-Branch-2}
use Rattle.limit_tree.proofs.flat.+absorb_row.Goals as goal

pub place_at-place-requires : goal.place_at-place-requires
place_at-place-requires t c = let row = c.loop-tree.invariant.row in record { node = row-inside c.args.places.now c.loop-tree.node (c.args.trees - c.loop-tree._tree) (row.0, row.1, c.args.past, row.2) (omega arith) }

pub absorb_row-below-requires : goal.absorb_row-below-requires
absorb_row-below-requires t c =
    let p = c.place_at-place.result in
    let tree = c.requires.flat.shaped c.loop-tree.node p c.place_at-place.ensures.place in
    (omega (arith, tree.inside, tree.some, c.loop-tree.invariant.past), (c.requires.flat, (p.first, c.loop-tree.node + p.nodes, tree.branch c.in-Branch-2.limit c.in-Branch-2.is)))

pub overflow_add-total : goal.overflow_add-total
overflow_add-total t c =
    let ps = c.args.places.now in
    let p = c.place_at-place.result in
    let node = c.loop-tree.node in
    let left = c.args.trees - (c.loop-tree._tree + 1) in
    let more : c.args.trees - c.loop-tree._tree ≡ suc left = omega arith in
    let taken = taken-more c.args.level ps node left p c.requires.flat.shaped c.place_at-place.ensures.place in
    let was : taken_in c.args.level ps node (c.args.trees - c.loop-tree._tree) ≡ taken_in c.args.level ps node (suc left) = ap (taken_in c.args.level ps node) more in
    let wants = taken-wants c.args.level ps c.args.first c.args.trees in
    let octets = c.requires.flat.few_octets in
    let leaves = c.requires.flat.few_leaves in
    elim c.match-place.branch [
      | in-Leaf w ↦ omega (arith, c.loop-tree.invariant.value, was, taken, wants, octets, leaves, absorbed-leaf c.args.level ps node p w.in-Leaf.want w.in-Leaf.floor c.place_at-place.ensures.place w.in-Leaf.is, w.total-is)
      | in-Branch w ↦
          let bare = absorbed-bare c.args.level ps node p c.requires.flat.shaped c.place_at-place.ensures.place w.if-place-eq0.true in
          omega (arith, c.loop-tree.invariant.value, was, taken, wants, octets, leaves, bare, w.total-is)
      | in-Branch-2 w ↦
          let below = absorbed-branch c.args.level ps node p w.in-Branch-2.limit c.place_at-place.ensures.place w.in-Branch-2.is in
          let cuts = w.at_most.ensures.cut ∙ ap (cut w.in-Branch-2.limit) w.absorb_row-below.ensures.absorbed in
          omega (arith, c.loop-tree.invariant.value, was, taken, wants, octets, leaves, below, cuts, w.total-is)
    ]

pub overflow_add-node-in-loop-tree : goal.overflow_add-node-in-loop-tree
overflow_add-node-in-loop-tree t c =
    let tree = c.requires.flat.shaped c.loop-tree.node c.place_at-place.result c.place_at-place.ensures.place in
    omega (arith, tree.inside, c.requires.flat.few_nodes)

pub loop-tree-preserved : goal.loop-tree-preserved
loop-tree-preserved t c =
    let ps = c.args.places.now in
    let p = c.place_at-place.result in
    let node = c.loop-tree.node in
    let left = c.args.trees - (c.loop-tree._tree + 1) in
    let more : c.args.trees - c.loop-tree._tree ≡ suc left = omega arith in
    let taken = taken-more c.args.level ps node left p c.requires.flat.shaped c.place_at-place.ensures.place in
    let was : taken_in c.args.level ps node (c.args.trees - c.loop-tree._tree) ≡ taken_in c.args.level ps node (suc left) = ap (taken_in c.args.level ps node) more in
    let row = c.loop-tree.invariant.row in
    record {
      past = omega (arith, c.loop-tree.invariant.past);
      row = (row.0 + p.leaves, row.1, (row-onward ps node row.0 (c.args.trees - c.loop-tree._tree) left row.1 c.args.past p row.2 more c.place_at-place.ensures.place).1);
      value = elim c.match-place.branch [
        | in-Leaf w ↦ omega (arith, c.loop-tree.invariant.value, was, taken, absorbed-leaf c.args.level ps node p w.in-Leaf.want w.in-Leaf.floor c.place_at-place.ensures.place w.in-Leaf.is, w.total-is)
        | in-Branch w ↦
            let bare = absorbed-bare c.args.level ps node p c.requires.flat.shaped c.place_at-place.ensures.place w.if-place-eq0.true in
            omega (arith, c.loop-tree.invariant.value, was, taken, bare, w.total-is)
        | in-Branch-2 w ↦
            let below = absorbed-branch c.args.level ps node p w.in-Branch-2.limit c.place_at-place.ensures.place w.in-Branch-2.is in
            let cuts = w.at_most.ensures.cut ∙ ap (cut w.in-Branch-2.limit) w.absorb_row-below.ensures.absorbed in
            omega (arith, c.loop-tree.invariant.value, was, taken, below, cuts, w.total-is)
      ];
    }

pub returns : goal.returns
returns t c =
    let none : c.args.trees - c.loop-tree._tree ≡ 0 = omega arith in
    let past : taken_in c.args.level c.args.places.now c.loop-tree.node (c.args.trees - c.loop-tree._tree) ≡ 0 = ap (taken_in c.args.level c.args.places.now c.loop-tree.node) none in
    record { absorbed = omega (arith, c.loop-tree.invariant.value, past) }

-- (no leaf of the row is left)
pub returns-then-place-past : goal.returns-then-place-past
returns-then-place-past t c =
    let ps = c.args.places.now in
    let row = c.loop-tree.invariant.row in
    let rest = c.args.trees - c.loop-tree._tree in
    let here = row-onward ps c.loop-tree.node row.0 rest (c.args.trees - (c.loop-tree._tree + 1)) row.1 c.args.past c.place_at-place.result row.2 (omega arith) c.place_at-place.ensures.place in
    let bare : taken_in c.args.level ps c.loop-tree.node rest ≡ 0 = bare-row c.args.level ps row.1 c.requires.flat.shaped rest c.loop-tree.node row.0 row.1 c.args.past row.2 (omega (arith, here.0, c.if-place-past.true)) (omega arith) in
    record { absorbed = omega (arith, c.loop-tree.invariant.value, bare) }
