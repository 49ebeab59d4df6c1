use Rattle.std.proofs.Common.{◌≡◌, ℕ, ◌+◌, ◌-◌, ◌<◌, ◌≤◌, ◌^◌, sym, ap, ◌∙◌, arith}
use Rattle.std.specs.FinMap as map
use Rattle.memory_store.specs.Tree.{total}
use Rattle.memory_store.proofs.Trees.{one_put, put_count, size_within}
use Rattle.memory_store.proofs.files.Files.put.Goals as goal

fits : (stored freed more after before size : ℕ) → freed ≡ before → more ≡ size → stored - freed + more ≡ after → freed ≤ stored → (before < size → after < 2 ^ 64) → stored < 2 ^ 64 → stored - freed + more < 2 ^ 64
fits stored freed more after before size is same count less room small = grind arith

pub overflow_sub-self : goal.overflow_sub-self
overflow_sub-self g c = size_within c.args.self.now c.args.key c.self.inside.stored c.size_at-freed.result (c.self.invariant ∙ ap total c.self.view_is) c.size_at-freed.ensures

pub overflow_add-self : goal.overflow_add-self
overflow_add-self g c =
    let count = put_count c.args.self.now c.args.key c.args.entry c.self.inside.stored c.size_at-freed.result c.size-size.result (c.self.invariant ∙ ap total c.self.view_is) c.size_at-freed.ensures c.size-size.ensures in
    let less = size_within c.args.self.now c.args.key c.self.inside.stored c.size_at-freed.result (c.self.invariant ∙ ap total c.self.view_is) c.size_at-freed.ensures in
    let less_than = fits _ _ _ _ _ _ c.size_at-freed.ensures c.size-size.ensures count less c.requires c.self.ranges.1.0.1 in
    omega (arith, less_than)

pub invariant_of-self-2 : goal.invariant_of-self-2
invariant_of-self-2 g c =
    put_count c.args.self.now c.args.key c.args.entry c.self.inside.stored c.size_at-freed.result c.size-size.result (c.self.invariant ∙ ap total c.self.view_is) c.size_at-freed.ensures c.size-size.ensures
    ∙ sym (ap total (one_put c.self.inside.nodes.entries c.insert.new.self.entries c.args.key c.args.entry c.in_ok-insert.ensures.updates.0 ∙ ap (λ tree. map.insert tree c.args.key c.args.entry) c.self.view_is))

pub returns-clause-ok : goal.returns-clause-ok
returns-clause-ok g c = one_put c.self.inside.nodes.entries c.insert.new.self.entries c.args.key c.args.entry c.in_ok-insert.ensures.updates.0 ∙ ap (λ tree. map.insert tree c.args.key c.args.entry) c.self.view_is
