use Rattle.std.proofs.Common.{List, map, ap, ◌∙◌, sym, subst}
use Rattle.std.specs.List.{All}
use Rattle.std.proofs.lemmas.Result.{IfOk-weaker}
use Rattle.limit_tree.specs.Outline.{limits as seen}
use Rattle.line_rates.specs.Alike.{IsNumberOf, IsOrderedPlan}
use Rattle.line_rates.specs.Queue.{asker_of, numbered_of}
use Rattle.line_rates.specs.TickTree.{Asker}
use Rattle.line_rates.specs.declared.queue.Queued.{Queued}
use Rattle.line_rates.proofs.plan.tree_of.Goals as goal

pub returns-clause-in_order : goal.returns-clause-in_order
returns-clause-in_order g c =
    let queue = c.deref_mut.result.now in
    let same = ap (map asker_of) c.deref_mut.ensures.value ∙ c.in_ok-queue.ensures.askers in
    let numbers = subst (λ (xs : List Asker). All (IsNumberOf xs) (map numbered_of queue)) (sym same) (subst (λ (qs : List Queued). All (IsNumberOf c.args.asks.now) (map numbered_of qs)) (sym c.deref_mut.ensures.value) c.in_ok-queue.ensures.numbers) in
    IfOk-weaker c.plan_queue.result _ _ (λ p is. subst (λ (xs : List Asker). IsOrderedPlan c.args.limits.now c.args.tick xs (seen p.tree) p.lanes.items) same (is numbers)) c.plan_queue.ensures.in_order
