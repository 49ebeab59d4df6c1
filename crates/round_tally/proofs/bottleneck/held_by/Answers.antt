use Rattle.std.proofs.Common.{◌≡◌, ◌<◌, ◌∙◌, ap, arith, get_or, length, sym, subst, ℕ, Some, Option, None}
use Rattle.std.specs.Prelude.{slice_get}
use Rattle.std.proofs.lemmas.Option.{slice_get-get_or}
use Rattle.limit_tree.specs.Outline.{limits}
use Rattle.limit_tree.proofs.Looks.{branch_number}
use Rattle.round_tally.proofs.NameLemmas.{entries_each, entry_neck, entry_some, has_name, leaf_met, leaf_unmet}
use Rattle.round_tally.proofs.bottleneck.held_by.Goals as goal

pub name_of-requires-clause-node : goal.name_of-requires-clause-node
name_of-requires-clause-node g c =
    let unmet = leaf_unmet c.args.limits.now c.args.tick c.args.asks.now (limits c.args.tree.now) c.args.grants.now c.args.leaf _ c.requires.tree c.requires.leaf c.if-grants-leaf.false in
    let found = entry_neck c.args.limits.now.share_by c.args.asks.now (limits c.args.tree.now) c.args.grants.now c.args.entries.now c.args.leaf c.in-Some.node c.requires.backed c.requires.leaf (omega (arith, unmet.0, c.requires.leaf, c.requires.grants.leaves)) unmet.1 (slice_get-get_or c.args.entries.now c.args.leaf None (omega (arith, unmet.0, c.requires.leaf, (entries_each c.args.limits.now.share_by c.args.asks.now (limits c.args.tree.now) c.args.grants.now c.args.entries.now c.requires.backed))) ∙ ap (λ (x : Option ℕ). Some x) c.in-Some.is) in
    branch_number c.args.tree.now c.in-Some.node found.0 found.1

pub name_of-requires-clause-named : goal.name_of-requires-clause-named
name_of-requires-clause-named g c =
    let unmet = leaf_unmet c.args.limits.now c.args.tick c.args.asks.now (limits c.args.tree.now) c.args.grants.now c.args.leaf _ c.requires.tree c.requires.leaf c.if-grants-leaf.false in
    let found = entry_neck c.args.limits.now.share_by c.args.asks.now (limits c.args.tree.now) c.args.grants.now c.args.entries.now c.args.leaf c.in-Some.node c.requires.backed c.requires.leaf (omega (arith, unmet.0, c.requires.leaf, c.requires.grants.leaves)) unmet.1 (slice_get-get_or c.args.entries.now c.args.leaf None (omega (arith, unmet.0, c.requires.leaf, (entries_each c.args.limits.now.share_by c.args.asks.now (limits c.args.tree.now) c.args.grants.now c.args.entries.now c.requires.backed))) ∙ ap (λ (x : Option ℕ). Some x) c.in-Some.is) in
    has_name c.args.limits.now c.args.tick c.args.asks.now (limits c.args.tree.now) c.in-Some.node c.args.leaf found.0 _ c.requires.tree found.1 found.2 c.requires.leaf

pub unreachable-requires : goal.unreachable-requires
unreachable-requires g c =
    let unmet = leaf_unmet c.args.limits.now c.args.tick c.args.asks.now (limits c.args.tree.now) c.args.grants.now c.args.leaf _ c.requires.tree c.requires.leaf c.if-grants-leaf.false in
    entry_some c.args.limits.now.share_by c.args.asks.now (limits c.args.tree.now) c.args.grants.now c.args.entries.now c.args.leaf c.requires.backed c.requires.leaf (omega (arith, unmet.0, c.requires.leaf, c.requires.grants.leaves)) unmet.1 (slice_get-get_or c.args.entries.now c.args.leaf None (omega (arith, unmet.0, c.requires.leaf, (entries_each c.args.limits.now.share_by c.args.asks.now (limits c.args.tree.now) c.args.grants.now c.args.entries.now c.requires.backed))) ∙ ap (λ (x : Option ℕ). Some x) c.in-None.is)

pub returns : goal.returns
returns g c =
    let unmet = leaf_unmet c.args.limits.now c.args.tick c.args.asks.now (limits c.args.tree.now) c.args.grants.now c.args.leaf _ c.requires.tree c.requires.leaf c.if-grants-leaf.false in
    let found = entry_neck c.args.limits.now.share_by c.args.asks.now (limits c.args.tree.now) c.args.grants.now c.args.entries.now c.args.leaf c.in-Some.node c.requires.backed c.requires.leaf (omega (arith, unmet.0, c.requires.leaf, c.requires.grants.leaves)) unmet.1 (slice_get-get_or c.args.entries.now c.args.leaf None (omega (arith, unmet.0, c.requires.leaf, (entries_each c.args.limits.now.share_by c.args.asks.now (limits c.args.tree.now) c.args.grants.now c.args.entries.now c.requires.backed))) ∙ ap (λ (x : Option ℕ). Some x) c.in-Some.is) in
    record { held = (unmet.1, (found.0, c.name_of.ensures.name found.0 found.1, found.3)) }

pub returns-then-grants-leaf : goal.returns-then-grants-leaf
returns-then-grants-leaf g c = record {
  held = leaf_met c.args.limits.now c.args.tick c.args.asks.now (limits c.args.tree.now) c.args.grants.now c.args.leaf _ c.requires.tree c.requires.leaf c.if-grants-leaf.true;
}
