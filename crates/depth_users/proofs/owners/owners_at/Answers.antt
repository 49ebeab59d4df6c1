use Rattle.std.proofs.Common.{◌≡◌, ◌∙◌, ◌+◌, ◌≤◌, ◌⊎◌, ℕ, List, length, sym, ap, subst, arith}
use Rattle.std.specs.Prelude.{slice_get, Some}
use Rattle.std.proofs.lemmas.Bool.{iff_false}
use Rattle.round_allocator.proofs.Pours.{back}
use Rattle.limit_tree.specs.declared.place.Place.{Place}
use Rattle.depth_users.proofs.Owned.{AreOwnedBelow, owned-all, owned-more, owned-none, owned-same, owners-have}
use Rattle.depth_users.proofs.owners.owners_at.Goals.{then-is_high, else-is_high}
use Rattle.depth_users.proofs.owners.owners_at.Goals as goal

pub loop-node-preserved : goal.loop-node-preserved
loop-node-preserved g c =
    let ps = c.args.tree.now in
    let got : slice_get ps c.loop-node.node ≡ Some c.place-place.result = ap (λ (qs : List Place). slice_get qs c.loop-node.node) (sym c.in_ok-flat.ensures.of) ∙ c.place-place.ensures.place in
    elim c.if-is_high.branch [
      | then-is_high w ↦
          let items = c.loop-node.owners.items in
          let new = w.own.new.owners in
          let value = w.deref_mut.ensures.value in
          let size = ap (λ (xs : List ℕ). length xs) value in
          let whole : length new ≡ length items = w.own.ensures.size ∙ size in
          let len : c.loop-node.owners.len ≡ length items = sym w.deref_mut.ensures.len ∙ size in
          let before = subst (λ (xs : List ℕ). AreOwnedBelow ps c.args.depth c.loop-node.node xs) (sym value) c.loop-node.invariant in
          subst (λ (xs : List ℕ). AreOwnedBelow ps c.args.depth (c.loop-node.node + 1) xs) (sym (back c.loop-node.owners.len new items whole len) ∙ sym (ap (λ v. v.items) w.owners-is))
          (owned-more ps c.args.depth c.loop-node.node c.place-place.result w.deref_mut.result.now new c.nodes_are_a_tree.ensures.flat before got (c.is_high.ensures.high.0 w.if-is_high.true) w.own.ensures.size w.own.ensures.own w.own.ensures.others)
      | else-is_high w ↦
          subst (λ (xs : List ℕ). AreOwnedBelow ps c.args.depth (c.loop-node.node + 1) xs) (sym (ap (λ v. v.items) w.owners-is))
          (owned-same ps c.args.depth c.loop-node.node c.place-place.result c.loop-node.owners.items c.loop-node.invariant got (iff_false c.is_high.ensures.high w.if-is_high.false))
    ]

pub returns-clause-owners : goal.returns-clause-owners
returns-clause-owners g c =
    let ps = c.args.tree.now in
    let same : c.loop-node.node ≡ length ps = omega (arith, c.loop-node.auto.node-end, c.loop-node-test.false, c.nodes-node-end.ensures.nodes, ap (λ (qs : List Place). length qs) c.in_ok-flat.ensures.of) in
    owned-all ps c.args.depth c.loop-node.owners.items c.nodes_are_a_tree.ensures.flat (subst (λ (n : ℕ). AreOwnedBelow ps c.args.depth n c.loop-node.owners.items) same c.loop-node.invariant)

pub returns-clause-users : goal.returns-clause-users
returns-clause-users g c = owners-have c.args.tree.now c.args.depth c.loop-node.owners.items c.nodes_are_a_tree.ensures.flat c.nodes_are_a_tree.ensures.deeper (returns-clause-owners g c)
