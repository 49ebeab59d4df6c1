use Rattle.std.proofs.Common.{arith, sym, ◌+◌, ℕ, subst, List, Option}
use Rattle.limit_tree.specs.Outline.{limits}
use Rattle.round_allocator.specs.Rounds.{IsNamed}
use Rattle.round_allocator.proofs.Names.{IsNamedBelow, named-more}
use Rattle.round_allocator.proofs.named.deepest_entries.Goals as goal

pub loop-leaf-preserved : goal.loop-leaf-preserved
loop-leaf-preserved g c = subst (λ (e : List (Option ℕ)). IsNamedBelow (limits c.args.flat.now) c.args.grants.now (c.loop-leaf.leaf + 1) e) (sym c.in_ok-push.ensures.items) (named-more (limits c.args.flat.now) c.args.grants.now c.loop-leaf.leaf c.loop-leaf.entries.items c.entry-node.result c.loop-leaf.invariant c.entry-node.ensures.entry)

pub returns : goal.returns
returns g c = record {
  named = subst (λ (e : List (Option ℕ)). IsNamed (limits c.args.flat.now) c.args.grants.now e) (sym c.new.ensures.entries) (record {
    leaves = omega (arith, c.loop-leaf.invariant.leaves);
    entries = λ i l. c.loop-leaf.invariant.entries i (omega arith);
  });
}
