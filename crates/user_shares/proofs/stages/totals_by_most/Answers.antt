use Rattle.std.proofs.Common.{arith, ℕ, List, length, sym, subst}
use Rattle.limit_tree.specs.Outline.{limits}
use Rattle.grant_certificate.specs.Users.{HasUsers}
use Rattle.user_shares.specs.Kinds.{AreAlike, IsOuterKind}
use Rattle.user_shares.specs.Stages.{AreMost, AreTotals, HaveHeads}
use Rattle.user_shares.proofs.Alike.{outer-tree, has-users, have-heads}
use Rattle.user_shares.proofs.OuterStage.{outer-totals}
use Rattle.user_shares.proofs.Kinded.{ranges-of}
use Rattle.user_shares.proofs.stages.totals_by_most.Goals as goal

pub outer_tree-requires-clause-users : goal.outer_tree-requires-clause-users
outer_tree-requires-clause-users g c = subst (λ (n : ℕ). HasUsers (limits c.args.flat.now) n c.args.owners.now) (sym c.requires.most.each) (has-users c.args.flat.now c.args.users.now c.args.owners.now c.leaves-bounded.ensures.limit_tree.branches c.requires.users)

pub outer_tree-requires-clause-heads : goal.outer_tree-requires-clause-heads
outer_tree-requires-clause-heads g c = subst (λ (n : ℕ). HaveHeads n c.args.owners.now) (sym c.requires.most.each) (have-heads c.args.flat.now c.args.users.now c.args.owners.now c.requires.users)

pub outer_tree-requires-clause-ranges : goal.outer_tree-requires-clause-ranges
outer_tree-requires-clause-ranges g c = ranges-of c.args.flat.now c.args.users.now c.args.owners.now c.requires.users

pub outer_tree-requires-clause-most : goal.outer_tree-requires-clause-most
outer_tree-requires-clause-most g c = subst (λ (n : ℕ). AreMost (limits c.args.flat.now) n c.args.owners.now c.args.most.now) (sym c.requires.most.each) c.requires.most

pub outer_tree-requires-clause-floors : goal.outer_tree-requires-clause-floors
outer_tree-requires-clause-floors g c =
    let t = limits c.args.flat.now in
    let owners = c.args.owners.now in
    subst (λ (xs : List ℕ). AreTotals (length c.args.most.now) owners t.floors xs) (sym c.deref.ensures.value)
    (subst (λ (n : ℕ). AreTotals n owners t.floors c.in_ok-floors.floors.items) (sym c.requires.most.each) c.in_ok-floors.ensures.floors)

pub totals_in-requires-clause-owners : goal.totals_in-requires-clause-owners
totals_in-requires-clause-owners g c =
    let outer = outer-tree c.args.flat.now c.in_ok-tree.tree c.args.owners.now c.args.most.now c.deref.result.now c.nodes-nodes.ensures.flat c.nodes_are_a_tree.ensures.flat.shaped c.in_ok-tree.ensures.alike in
    omega (arith, c.requires.users.each, outer.leaves)

pub returns : goal.returns
returns g c =
    let ps = c.args.flat.now in
    let users = c.args.users.now in
    let owners = c.args.owners.now in
    let most = c.args.most.now in
    let floors = c.in_ok-floors.floors.items in
    let alike : AreAlike ps (IsOuterKind owners most floors) c.in_ok-tree.tree = subst (λ (xs : List ℕ). AreAlike ps (IsOuterKind owners most xs) c.in_ok-tree.tree) c.deref.ensures.value c.in_ok-tree.ensures.alike in
    let found = c.in_ok-totals.ensures.found in
    let tree = c.leaves-bounded.ensures.limit_tree.branches in
    record {
      totals = outer-totals (limits ps) (limits c.in_ok-tree.tree) (length users) owners most floors found.grants c.in_ok-totals.totals.items found.entries tree (has-users ps users owners tree c.requires.users) (have-heads ps users owners c.requires.users) c.requires.most c.in_ok-floors.ensures.floors
          (outer-tree ps c.in_ok-tree.tree owners most floors c.nodes-nodes.ensures.flat c.nodes_are_a_tree.ensures.flat.shaped alike) found.within found.backed found.sums;
    }
