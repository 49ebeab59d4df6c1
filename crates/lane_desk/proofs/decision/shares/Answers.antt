use Rattle.std.proofs.Common.{◌≡◌, ℕ, List, ap, ◌∙◌, sym, subst}
use Rattle.limit_tree.specs.Outline.{limits as seen}
use Rattle.limit_tree.specs.declared.place.Place.{Place}
use Rattle.std.proofs.lemmas.List.Sorted.{IsPermutation-trans}
use Rattle.line_rates.specs.Alike.{IsOrderedPlan}
use Rattle.line_rates.specs.TickTree.{Asker, IsPlan}
use Rattle.line_rates.specs.declared.fault.PlanFault.{PlanFault}
use Rattle.line_rates.specs.Refused.{HasFault, IsFaultOf}
use Rattle.fair_shares.proofs.AskedLemmas.{asked_order}
use Rattle.std.specs.List.Sorted.{IsNonDecreasingBy}
use Rattle.line_rates.specs.declared.share_by.ShareBy.TheVariants as share
use Rattle.lane_desk.specs.Turns.{turn_of, turns_by}
use Rattle.lane_desk.proofs.AskedLemmas.{plan_moved, fault_moved}
use Rattle.lane_desk.proofs.PeerLemmas.{turned, apart_moved}
use Rattle.lane_desk.proofs.decision.shares.Goals as goal

pub share_plan-requires-clause-plan : goal.share_plan-requires-clause-plan
share_plan-requires-clause-plan g c =
    let rates = c.args.limits.now in
    let tick = c.args.tick in
    let tree = seen c.in-Ok.plan.tree in
    let lanes = c.in-Ok.plan.lanes.items in
    let own = subst (λ (xs : List Asker). IsPlan rates tick xs tree lanes) c.deref.ensures.value c.in-Ok.ensures.plan in
    plan_moved rates tick c.args.asks.now c.in_ok-turned.turned.items tree lanes c.in_ok-turned.ensures.same own

pub returns-in-Err-Tree-clause-fault : goal.returns-in-Err-Tree-clause-fault
returns-in-Err-Tree-clause-fault g c =
    fault_moved g.row.A.Denot c.args.limits.now c.args.tick c.args.asks.now c.in_ok-turned.turned.items c.in-Err-Tree.fault c.in_ok-turned.ensures.same
    (subst (λ (xs : List Asker). HasFault g.row.A.Denot c.args.limits.now c.args.tick xs c.in-Err-Tree.fault) c.deref.ensures.value
    (subst (λ (fault : PlanFault). IsFaultOf g.row.A.Denot c.args.limits.now c.args.tick c.deref.result.now fault) c.in-Err-Tree.field-0-is c.in-Err-Tree.ensures.fault))

pub returns-in-Ok-share_plan-clause-turns : goal.returns-in-Ok-share_plan-clause-turns
returns-in-Ok-share_plan-clause-turns g c =
    let rates = c.args.limits.now in
    let tick = c.args.tick in
    let shares = c.in-Ok-share_plan.shares in
    let told = c.in-Ok-share_plan.ensures in
    let tree = seen shares.sealed.tree in
    let lanes = shares.lanes.items in
    let handed = c.in_ok-turned.turned.items in
    let planned = subst (λ (xs : List Asker). IsOrderedPlan rates tick xs (seen c.in-Ok.plan.tree) c.in-Ok.plan.lanes.items) c.deref.ensures.value c.in-Ok.ensures.in_order in
    let ordered = subst (λ (t : List Place). IsOrderedPlan rates tick handed (seen t) lanes) (sym told.same.0) (subst (λ (ls : List ℕ). IsOrderedPlan rates tick handed (seen c.in-Ok.plan.tree) ls) (sym told.same.1) planned) in
    let is = asked_order c.args.asks.now ordered.plan.order lanes shares.asks.items c.requires.apart (IsPermutation-trans c.args.asks.now handed ordered.plan.order c.in_ok-turned.ensures.same ordered.plan.all) ordered.plan.lanes_are told.asks in
    let sorted : rates.share_by ≡ share.Sessions → IsNonDecreasingBy (turn_of c.args.had.now) handed = λ sessions.
    subst (λ (ns : List ℕ). IsNonDecreasingBy (turn_of ns) handed) (c.turns_by-turns.ensures.turns ∙ ap (λ by. turns_by by c.args.asks.now c.args.had.now) (c.share_by.ensures.share_by ∙ sessions)) c.in_ok-turned.ensures.turns in
    turned rates tick c.args.had.now handed tree lanes shares.asks.items shares.sealed.grants ordered is (apart_moved c.args.asks.now handed c.in_ok-turned.ensures.same c.requires.apart) sorted
    told.each told.fair told.order c.equals_are_near.ensures.near
