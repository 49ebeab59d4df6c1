use Rattle.std.proofs.Common.{rules, ap, ◌∙◌, sym, subst, ◌+◌}
use Rattle.crossbeam_queue.specs.Passes.{view}
use Rattle.transfer_worker.specs.Boards.{AreNewPasses}
use Rattle.transfer_worker.proofs.Orders.{forks}
use Rattle.transfer_worker.proofs.PassLemmas.{new_more}
use Rattle.transfer_worker.proofs.opened.cut_passes.Goals as goal

pub another-pass-requires-clause-rule : goal.another-pass-requires-clause-rule
another-pass-requires-clause-rule g c = forks _ _

pub loop-preserved : goal.loop-preserved
loop-preserved g c =
    let k = c.loop.invariant in
    let a = c.another-pass.ensures in
    let z = c.args.queue.now.table.shared.table_id in (
      (a.queue.0.0 ∙ k.0.0, a.queue.0.2 ∙ k.0.1),
      a.rule.0 ∙ k.1,
      subst (AreNewPasses z (c.loop.counter + 1)) (sym c.push_reserved.ensures.items) (new_more z c.loop.counter c.loop.passes.items c.new.result k.2
          (ap (λ p. p.table_id) c.new.ensures.pass ∙ a.queue.1.0) (ap (λ p. view p) c.new.ensures.pass ∙ a.rule.1)),
      search rules,
      search rules,
    )
