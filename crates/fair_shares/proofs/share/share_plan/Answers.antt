use Rattle.std.proofs.Common.{rules, List, ap, map, ◌∙◌, sym, subst}
use Rattle.limit_tree.specs.Outline.{limits as seen}
use Rattle.limit_tree.specs.declared.place.Place.{Place}
use Rattle.round_allocator.specs.Order.{GivesInOrder}
use Rattle.fair_shares.specs.Asked.{asks_on, IsAskedPlan}
use Rattle.line_rates.specs.declared.ask.Ask.{Ask}
use Rattle.line_rates.specs.declared.share_by.ShareBy.{ShareBy}
use Rattle.line_rates.specs.TickTree.{ask_in}
use Rattle.fair_shares.specs.Faults.{IsFairFault}
use Rattle.fair_shares.specs.Users.{IsTreeOf}
use Rattle.fair_shares.proofs.AskedLemmas.{asked_plan}
use Rattle.fair_shares.proofs.LargeUsers.{fault_moved}
use Rattle.fair_shares.proofs.share.share_plan.Goals as goal

pub returns-clause-plan : goal.returns-clause-plan
returns-clause-plan g c =
    let rates = c.args.limits.now in
    let tick = c.args.tick in
    let lanes = c.args.plan.lanes.items in
    subst (λ (t : List Place). IsAskedPlan rates tick c.args.asks.now (seen t) lanes c.in_ok-leaf_asks.leaf_asks.items) (sym c.in_ok-sealed.ensures.tree)
    (asked_plan rates tick c.args.asks.now (seen c.args.plan.tree) lanes c.in_ok-leaf_asks.leaf_asks.items c.requires.apart c.requires.plan
    (c.in_ok-leaf_asks.ensures.asks ∙ ap (asks_on c.args.asks.now) c.deref.ensures.value))

pub returns-clause-order : goal.returns-clause-order
returns-clause-order g c = λ sessions.
    subst (λ (t : List Place). GivesInOrder (seen t) c.in_ok-sealed.sealed.grants) (sym c.in_ok-sealed.ensures.tree) (c.in_ok-sealed.ensures.order (c.share_by.ensures.share_by ∙ sessions))

pub share_tree-requires : goal.share_tree-requires
share_tree-requires g c =
    let asked : IsAskedPlan c.args.limits.now c.args.tick c.args.asks.now (seen c.args.plan.tree) c.args.plan.lanes.items c.in_ok-leaf_asks.leaf_asks.items =
    asked_plan c.args.limits.now c.args.tick c.args.asks.now (seen c.args.plan.tree) c.args.plan.lanes.items c.in_ok-leaf_asks.leaf_asks.items c.requires.apart c.requires.plan
    (c.in_ok-leaf_asks.ensures.asks ∙ ap (asks_on c.args.asks.now) c.deref.ensures.value) in
    let tree : IsTreeOf (map ask_in asked.plan.order) (seen c.args.plan.tree) = (c.args.limits.now, c.args.tick, asked.plan.tree) in
    record { asks = subst (λ (own : List Ask). IsTreeOf own (seen c.args.plan.tree)) (sym (c.deref-2.ensures.value ∙ asked.asks_are)) tree }

pub returns-in_err-sealed-clause-fault : goal.returns-in_err-sealed-clause-fault
returns-in_err-sealed-clause-fault g c =
    let asked : IsAskedPlan c.args.limits.now c.args.tick c.args.asks.now (seen c.args.plan.tree) c.args.plan.lanes.items c.in_ok-leaf_asks.leaf_asks.items =
    asked_plan c.args.limits.now c.args.tick c.args.asks.now (seen c.args.plan.tree) c.args.plan.lanes.items c.in_ok-leaf_asks.leaf_asks.items c.requires.apart c.requires.plan
    (c.in_ok-leaf_asks.ensures.asks ∙ ap (asks_on c.args.asks.now) c.deref.ensures.value) in
    let e = c.in_err-sealed.field-0.0 in
    let of_leaves : IsFairFault c.args.limits.now.share_by (map ask_in asked.plan.order) e =
    subst (λ (by : ShareBy). IsFairFault by (map ask_in asked.plan.order) e) c.share_by.ensures.share_by
    (subst (λ (own : List Ask). IsFairFault c.share_by.result own e) (c.deref-2.ensures.value ∙ asked.asks_are) c.in_err-sealed.ensures.fault) in
    let fault : IsFairFault c.args.limits.now.share_by (map ask_in c.args.asks.now) e =
    fault_moved c.args.limits.now.share_by c.args.asks.now asked.plan.order e asked.plan.all of_leaves in
    search (rules, fault)
