use Rattle.std.proofs.Common.{rules, refl, ◌∙◌, length, map}
use Rattle.limit_tree.proofs.Places.{places_of_all}
use Rattle.line_rates.specs.Queue.{asker_of}
use Rattle.line_rates.proofs.KidLemmas.{grown_before}
use Rattle.line_rates.proofs.WholeLemmas.{plan_is, fault_is, fault_of_floors}
use Rattle.line_rates.proofs.OrderSteps.{plan_order}
use Rattle.line_rates.proofs.plan.plan_queue.Goals as goal

pub returns-in-Ok-clause-plan : goal.returns-in-Ok-clause-plan
returns-in-Ok-clause-plan g c =
    plan_is c.args.limits.now c.args.tick (length c.in_ok-kids.kids.items) (map asker_of c.args.queue.now) (map asker_of c.args.queue.now) (map asker_of c.grow.new.queue) (places_of_all c.in_ok-kids.kids.items) c.in-Ok.tree c.rate_limit.result c.in_ok-lanes.lanes.items
    refl
    (grown_before c.args.limits.now c.args.tick 1 (map asker_of c.args.queue.now) (map asker_of c.arrange.new.queue) (map asker_of c.grow.new.queue) (places_of_all c.in_ok-kids.kids.items) c.arrange.ensures.all c.in_ok-kids.ensures.grown)
    (search rules) (c.in-Ok.ensures.new.0 ∙ c.branch-root.ensures.places) c.in_ok-lanes.ensures.lanes

pub returns-in-Err-clause-fault : goal.returns-in-Err-clause-fault
returns-in-Err-clause-fault g c =
    fault_is c.args.limits.now c.args.tick (length c.in_ok-kids.kids.items) (map asker_of c.args.queue.now) (map asker_of c.args.queue.now) (map asker_of c.grow.new.queue) (places_of_all c.in_ok-kids.kids.items) c.branch-root.result c.rate_limit.result c.in-Err.fault
    refl
    (grown_before c.args.limits.now c.args.tick 1 (map asker_of c.args.queue.now) (map asker_of c.arrange.new.queue) (map asker_of c.grow.new.queue) (places_of_all c.in_ok-kids.kids.items) c.arrange.ensures.all c.in_ok-kids.ensures.grown)
    (search rules) c.branch-root.ensures.places c.in-Err.ensures.new

pub returns-in-Err-clause-floors : goal.returns-in-Err-clause-floors
returns-in-Err-clause-floors g c = fault_of_floors c.args.limits.now c.args.tick (map asker_of c.args.queue.now) c.in-Err.fault (returns-in-Err-clause-fault g c)

pub returns-in-Ok-clause-in_order : goal.returns-in-Ok-clause-in_order
unfolding plan_is
returns-in-Ok-clause-in_order g c =
    let plan = plan_is c.args.limits.now c.args.tick (length c.in_ok-kids.kids.items) (map asker_of c.args.queue.now) (map asker_of c.args.queue.now) (map asker_of c.grow.new.queue) (places_of_all c.in_ok-kids.kids.items) c.in-Ok.tree c.rate_limit.result c.in_ok-lanes.lanes.items
    refl
    (grown_before c.args.limits.now c.args.tick 1 (map asker_of c.args.queue.now) (map asker_of c.arrange.new.queue) (map asker_of c.grow.new.queue) (places_of_all c.in_ok-kids.kids.items) c.arrange.ensures.all c.in_ok-kids.ensures.grown)
    (search rules) (c.in-Ok.ensures.new.0 ∙ c.branch-root.ensures.places) c.in_ok-lanes.ensures.lanes in
    plan_order c.args.limits.now c.args.tick c.args.queue.now c.arrange.new.queue c.grow.new.queue _ c.in_ok-lanes.lanes.items plan refl c.arrange.ensures.all c.arrange.ensures.numbers c.arrange.ensures.in_order
    c.in_ok-kids.ensures.numbers c.in_ok-kids.ensures.in_order
