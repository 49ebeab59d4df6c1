use Rattle.std.proofs.Common.{◌≡◌, ℕ, ◌+◌, ◌-◌, ◌≤◌, sym, ap, ◌∙◌, arith}
use Rattle.std.specs.FinMap as map
use Rattle.memory_store.specs.Tree.{total}
use Rattle.memory_store.proofs.Trees.{one_taken, total-remove}
use Rattle.memory_store.proofs.files.Files.take.Goals as goal

counted : (stored freed all after : ℕ) → after + freed ≡ all → stored ≡ all → stored - freed ≡ after
counted stored freed all after sum is = omega arith

within : (stored freed all after : ℕ) → after + freed ≡ all → stored ≡ all → freed ≤ stored
within stored freed all after sum is = omega arith

pub overflow_sub-self : goal.overflow_sub-self
overflow_sub-self g c =
    within c.self.inside.stored c.size_at-freed.result (total c.args.self.now) (total (map.remove c.args.self.now c.args.key.now))
    (ap (λ n. total (map.remove c.args.self.now c.args.key.now) + n) c.size_at-freed.ensures ∙ total-remove c.args.self.now c.args.key.now)
    (c.self.invariant ∙ ap total c.self.view_is)

pub invariant_of-self : goal.invariant_of-self
invariant_of-self g c =
    counted c.self.inside.stored c.size_at-freed.result (total c.args.self.now) (total (map.remove c.args.self.now c.args.key.now))
    (ap (λ n. total (map.remove c.args.self.now c.args.key.now) + n) c.size_at-freed.ensures ∙ total-remove c.args.self.now c.args.key.now)
    (c.self.invariant ∙ ap total c.self.view_is)
    ∙ sym (ap total (one_taken c.self.inside.nodes.entries c.remove.new.self.entries c.args.key.now c.remove.ensures.updates.0 ∙ ap (λ tree. map.remove tree c.args.key.now) c.self.view_is))

pub returns : goal.returns
returns g c = one_taken c.self.inside.nodes.entries c.remove.new.self.entries c.args.key.now c.remove.ensures.updates.0 ∙ ap (λ tree. map.remove tree c.args.key.now) c.self.view_is
