use Rattle.std.proofs.Common.{rules, arith, ◌≡◌, ◌+◌, ◌-◌, ◌*◌, ◌^◌, ◌<◌, ◌≤◌, ◌∙◌, ℕ, List, length, take, sum, suc, refl, sym, ap, subst}
use Rattle.std.proofs.Math.ListN.{length-set}
use Rattle.limit_tree.specs.Outline.{limits}
use Rattle.limit_tree.specs.Flat.{IsRow, HasRow}
use Rattle.limit_tree.proofs.Hops.{row-next, row-inside}
use Rattle.round_allocator.specs.declared.level.TheConstants.{MAX_PROBES}
use Rattle.round_allocator.specs.Levels.{IsPouring, AreAhead, branch_count}
use Rattle.round_allocator.proofs.Counts.{branches-branch, branches-leaf}
use Rattle.round_allocator.proofs.Pours.{left_of, leaf-floored, plan-level, plan-spare, pouring-start, pouring-end, pouring-leaf, pouring-branch}
use Rattle.round_allocator.proofs.Ahead.{in_turn-start, turn-next, turn-end}
use Rattle.round_allocator.proofs.fill.+fill.Goals.{in-Leaf, in-Branch}
use Rattle.round_allocator.proofs.fill.+fill.Goals as goal

pub loop-tree-init : goal.loop-tree-init
loop-tree-init g t c =
    let none : c.args.trees ≡ c.args.trees - 0 = omega arith in
    record {
      past = omega arith;
      row = subst (λ (n : ℕ). HasRow c.args.tree.now c.args.first n) none c.requires.row;
      size = refl;
      spare = omega arith;
      counted = c.requires.counted;
      poured = λ begin last past row. (
        begin,
        subst (λ (n : ℕ). IsRow c.args.tree.now c.args.first begin n last past) none row,
        subst (λ (n : ℕ). IsPouring c.args.tree.now c.args.first c.args.trees begin c.args.share c.args.grants.now c.args.first n begin c.args.share.spare c.args.grants.now) none (pouring-start c.args.tree.now c.args.first c.args.trees begin c.args.share c.args.grants.now),
        in_turn-start c.args.tree.now c.args.grants.now begin c.args.share.level c.args.share.spare,
      );
    }

pub place-place-requires : goal.place-place-requires
place-place-requires g t c = record { node = row-inside c.args.tree.now c.loop-tree.node (c.args.trees - c.loop-tree._tree) c.loop-tree.invariant.row (omega arith) }

pub leaf_grant-grant-requires-clause-floor : goal.leaf_grant-grant-requires-clause-floor
leaf_grant-grant-requires-clause-floor g t c = leaf-floored c.args.tree.now c.loop-tree.node c.place-place.result c.in-Leaf.want c.in-Leaf.floor c.is_flat.ensures.flat c.place-place.ensures.place c.in-Leaf.is

pub bounds-grants-place : goal.bounds-grants-place
bounds-grants-place g t c =
    let one = (c.is_flat.ensures.flat.shaped c.loop-tree.node c.place-place.result c.place-place.ensures.place).leaf c.in-Leaf.want c.in-Leaf.floor c.in-Leaf.is in
    omega (arith, one.1, c.place-place.ensures.inside, c.loop-tree.invariant.size, c.requires.grants)

pub fill-rest-requires : goal.fill-rest-requires
fill-rest-requires g t c =
    let ps = c.args.tree.now in
    let p = c.place-place.result in
    let tree = c.is_flat.ensures.flat.shaped c.loop-tree.node p c.place-place.ensures.place in
    let plan = c.share_out-plan.ensures.shared in
    let row : HasRow ps (c.loop-tree.node + 1) p.kids = (p.first, c.loop-tree.node + p.nodes, p.first + p.leaves, tree.branch c.in-Branch.limit c.in-Branch.is) in
    let level : c.share_out-plan.result.share.level < 2 ^ 32 = omega (arith, c.requires.level, plan-level ps c.loop-tree.node c.in-Branch.limit (left_of c.args.share c.loop-tree.left) c.share_out-plan.result plan) in
    let spare : c.share_out-plan.result.share.spare ≤ sum (limits ps).wants = plan-spare ps c.loop-tree.node c.in-Branch.limit (left_of c.args.share c.loop-tree.left) c.share_out-plan.result plan (omega (arith, c.loop-tree.invariant.spare, c.requires.spare)) in
    let size : length c.loop-tree.grants ≡ length (limits ps).wants = c.loop-tree.invariant.size ∙ c.requires.grants in
    let counted : c.share_out-plan.new.probes ≤ MAX_PROBES * branch_count (take (c.loop-tree.node + 1) ps) = omega (arith, c.share_out-plan.ensures.counted, c.loop-tree.invariant.counted, branches-branch ps c.loop-tree.node p c.in-Branch.limit c.place-place.ensures.place c.in-Branch.is) in
    let falls : length ps - (c.loop-tree.node + 1) < length ps - c.args.first = omega (arith, tree.inside, tree.some, c.loop-tree.invariant.past) in
    search (rules, falls, row, level, spare, size, counted)

pub overflow_add-left : goal.overflow_add-left
overflow_add-left g t c =
    let ps = c.args.tree.now in
    let p = c.place-place.result in
    let flat = c.is_flat.ensures.flat in
    let tree = flat.shaped c.loop-tree.node p c.place-place.ensures.place in
    let one = pouring-branch ps (left_of c.args.share c.loop-tree.left) c.loop-tree.grants c.loop-tree.node p c.in-Branch.limit c.share_out-plan.result c.fill-rest.result c.fill-rest.new.grants flat.shaped c.place-place.ensures.place c.in-Branch.is c.share_out-plan.ensures.shared
    (c.fill-rest.ensures.poured p.first (c.loop-tree.node + p.nodes) (p.first + p.leaves) (tree.branch c.in-Branch.limit c.in-Branch.is)) in
    omega (arith, one.rest, c.loop-tree.invariant.spare, c.requires.spare, flat.few_octets, flat.few_leaves)

pub loop-tree-preserved : goal.loop-tree-preserved
loop-tree-preserved g t c =
    let ps = c.args.tree.now in
    let p = c.place-place.result in
    let node = c.loop-tree.node in
    let left = c.args.trees - c.loop-tree._tree in
    let more = c.args.trees - (c.loop-tree._tree + 1) in
    let is : left ≡ suc more = omega (arith, c.loop-tree-test.true) in
    let flat = c.is_flat.ensures.flat in
    let got = c.place-place.ensures.place in
    let tree = flat.shaped node p got in
    let here = left_of c.args.share c.loop-tree.left in
    let old = c.loop-tree.grants in
    let step : (length c.match-place.grants ≡ length old) × (c.match-place.probes ≤ MAX_PROBES * branch_count (take (node + p.nodes) ps)) × IsPouring ps node 1 p.first here old (node + p.nodes) 0 (p.first + p.leaves) c.match-place.left c.match-place.grants × AreAhead ps c.match-place.grants p.first (p.first + p.leaves) = elim c.match-place.branch [
      | in-Leaf w ↦
          let want = w.in-Leaf.want in
          let floor = w.in-Leaf.floor in
          let grant = w.leaf_grant-grant.result in
          let one = tree.leaf want floor w.in-Leaf.is in
          let inside : p.first < length old = omega (arith, one.1, c.place-place.ensures.inside, c.loop-tree.invariant.size, c.requires.grants) in
          let poured = pouring-leaf ps here old node p want floor grant.octets grant.rest flat.shaped got w.in-Leaf.is inside w.leaf_grant-grant.ensures.grant in
          let next : node + p.nodes ≡ node + 1 = omega (arith, one.0) in
          let same : branch_count (take (node + p.nodes) ps) ≡ branch_count (take (node + 1) ps) = ap (λ (m : ℕ). branch_count (take m ps)) next in (
            ap length w.grants-is ∙ length-set old p.first grant.octets,
            omega (arith, w.probes-is, c.loop-tree.invariant.counted, same, branches-leaf ps node p want floor got w.in-Leaf.is),
            subst (λ (l : ℕ). IsPouring ps node 1 p.first here old (node + p.nodes) 0 (p.first + p.leaves) l c.match-place.grants) (sym w.left-is)
                (subst (λ (h : List ℕ). IsPouring ps node 1 p.first here old (node + p.nodes) 0 (p.first + p.leaves) grant.rest h) (sym w.grants-is) poured),
            λ i j low less high. absurd (omega (arith, one.1)),
          )
      | in-Branch w ↦
          let limit = w.in-Branch.limit in
          let plan = w.share_out-plan.result in
          let rest = w.fill-rest.result in
          let below = tree.branch limit w.in-Branch.is in
          let poured = pouring-branch ps here old node p limit plan rest w.fill-rest.new.grants flat.shaped got w.in-Branch.is w.share_out-plan.ensures.shared (w.fill-rest.ensures.poured p.first (node + p.nodes) (p.first + p.leaves) below) in (
            ap length w.grants-is ∙ w.fill-rest.ensures.size,
            omega (arith, w.probes-is, w.fill-rest.ensures.counted p.first (node + p.nodes) (p.first + p.leaves) below),
            subst (λ (l : ℕ). IsPouring ps node 1 p.first here old (node + p.nodes) 0 (p.first + p.leaves) l c.match-place.grants) (sym w.left-is)
                (subst (λ (h : List ℕ). IsPouring ps node 1 p.first here old (node + p.nodes) 0 (p.first + p.leaves) (plan.kept + rest) h) (sym w.grants-is) poured),
            subst (λ (h : List ℕ). AreAhead ps h p.first (p.first + p.leaves)) (sym w.grants-is) (w.fill-rest.ensures.ahead p.first (node + p.nodes) (p.first + p.leaves) below),
          )
    ] in
    record {
      past = omega (arith, c.loop-tree.invariant.past);
      row = row-next ps node left more p flat.shaped c.loop-tree.invariant.row is got;
      size = step.0 ∙ c.loop-tree.invariant.size;
      spare = omega (arith, step.2.rest, c.loop-tree.invariant.spare);
      counted = step.1;
      poured = λ begin last past row.
          let was = c.loop-tree.invariant.poured begin last past row in
          turn-next ps c.args.first c.args.trees begin c.args.share c.args.grants.now node left more was.0 c.loop-tree.left old p c.match-place.left c.match-place.grants last past flat.shaped got is was.1 was.2 step.2 was.3 step.3;
    }

pub returns-clause-poured : goal.returns-clause-poured
returns-clause-poured g t c = λ begin last past row.
    let was = c.loop-tree.invariant.poured begin last past row in
    (pouring-end c.args.tree.now c.args.first c.args.trees begin c.args.share c.args.grants.now c.loop-tree.node (c.args.trees - c.loop-tree._tree) was.0 c.loop-tree.left c.loop-tree.grants last past (omega arith) was.1 was.2).1

pub returns-clause-counted : goal.returns-clause-counted
returns-clause-counted g t c = λ begin last past row.
    let was = c.loop-tree.invariant.poured begin last past row in
    let ends = (pouring-end c.args.tree.now c.args.first c.args.trees begin c.args.share c.args.grants.now c.loop-tree.node (c.args.trees - c.loop-tree._tree) was.0 c.loop-tree.left c.loop-tree.grants last past (omega arith) was.1 was.2).0 in
    subst (λ (n : ℕ). c.loop-tree.probes ≤ MAX_PROBES * branch_count (take n c.args.tree.now)) ends c.loop-tree.invariant.counted

pub returns-clause-ahead : goal.returns-clause-ahead
returns-clause-ahead g t c = λ begin last past row.
    let was = c.loop-tree.invariant.poured begin last past row in
    turn-end c.args.tree.now begin c.args.share.level c.loop-tree.node (c.args.trees - c.loop-tree._tree) was.0 c.loop-tree.left c.loop-tree.grants last past (omega arith) was.1 was.3
