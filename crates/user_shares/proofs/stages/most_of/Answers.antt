use Rattle.std.proofs.Common.{arith, ◌≡◌, ◌∙◌, ℕ, List, length, sym, ap}
use Rattle.limit_tree.specs.Outline.{limits}
use Rattle.user_shares.proofs.Alike.{inner-tree, has-users}
use Rattle.user_shares.proofs.InnerStage.{inner-most}
use Rattle.user_shares.proofs.Kinded.{ranges-of}
use Rattle.user_shares.proofs.stages.most_of.Goals as goal

pub inner_tree-requires-clause-ranges : goal.inner_tree-requires-clause-ranges
inner_tree-requires-clause-ranges g c = ranges-of c.args.flat.now c.args.users.now c.args.owners.now c.requires.users

pub totals_in-requires-clause-owners : goal.totals_in-requires-clause-owners
totals_in-requires-clause-owners g c =
    let inner = inner-tree c.args.flat.now c.in_ok-tree.tree c.args.owners.now c.in_ok-tree.ensures.alike in
    omega (arith, c.requires.users.each, ap (λ (xs : List ℕ). length xs) inner.wants)

pub returns : goal.returns
returns g c =
    let t = limits c.args.flat.now in
    let s = limits c.in_ok-tree.tree in
    let owners = c.args.owners.now in
    let found = c.in_ok-most.ensures.found in
    record {
      most = inner-most t s (length c.args.users.now) owners found.grants c.in_ok-most.most.items found.entries c.leaves-leaves.ensures.limit_tree.branches (has-users c.args.flat.now c.args.users.now owners c.leaves-bounded.ensures.limit_tree.branches c.requires.users) (inner-tree c.args.flat.now c.in_ok-tree.tree owners c.in_ok-tree.ensures.alike) found.within found.backed found.sums;
    }
