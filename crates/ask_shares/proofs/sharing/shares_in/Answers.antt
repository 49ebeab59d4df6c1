use Rattle.std.proofs.Common.{rules, ◌≡◌, ◌<◌, ◌∙◌, List, ℕ, length, map, sym, subst, Some}
use Rattle.std.specs.Prelude.{slice_get}
use Rattle.std.specs.List.{All}
use Rattle.limit_tree.specs.Outline.{limits}
use Rattle.line_rates.specs.TickTree.{IsTickTree, ask_in}
use Rattle.line_rates.specs.declared.ask.Ask.{Ask}
use Rattle.ask_shares.specs.Leaves.{AreBestLeaves}
use Rattle.ask_shares.specs.Faults.{IsUnshared}
use Rattle.ask_shares.proofs.Places.{lanes_within, same_order}
use Rattle.ask_shares.proofs.Refusing.{unshared_moved}
use Rattle.ask_shares.proofs.Shared.{ask_shares, names_are_kept, tree_shares}
use Rattle.ask_shares.proofs.sharing.shares_in.Goals as goal

pub in_order-requires : goal.in_order-requires
in_order-requires g c = record {
  places = subst (All (λ lane. lane < length c.args.asks.now)) (sym c.deref.ensures.value)
      (lanes_within c.args.asks.now c.requires.plan.0 c.requires.plan.2.order c.args.plan.lanes.items c.requires.plan.1 c.requires.plan.2.all c.requires.plan.2.lanes_are);
}

pub fair_leaves-requires-clause-tree : goal.fair_leaves-requires-clause-tree
fair_leaves-requires-clause-tree g c =
    subst (λ (x : List Ask). IsTickTree c.args.limits.now c.args.tick x (limits c.args.plan.tree)) (sym (c.deref-2.ensures.value
    ∙ same_order c.args.asks.now c.requires.plan.0 c.requires.plan.2.order c.in_ok-order.order.items c.args.plan.lanes.items c.requires.plan.1 c.requires.plan.2.all c.requires.plan.2.lanes_are
    (subst (λ (x : List ℕ). map (λ lane. slice_get c.args.asks.now lane) x ≡ map (λ ask. Some ask) c.in_ok-order.order.items) c.deref.ensures.value c.in_ok-order.ensures.order))) c.requires.plan.2.tree

pub returns-clause-shares : goal.returns-clause-shares
returns-clause-shares g c =
    let order_is : c.deref-2.result.now ≡ map ask_in c.requires.plan.2.order = c.deref-2.ensures.value
    ∙ same_order c.args.asks.now c.requires.plan.0 c.requires.plan.2.order c.in_ok-order.order.items c.args.plan.lanes.items c.requires.plan.1 c.requires.plan.2.all c.requires.plan.2.lanes_are
    (subst (λ (x : List ℕ). map (λ lane. slice_get c.args.asks.now lane) x ≡ map (λ ask. Some ask) c.in_ok-order.order.items) c.deref.ensures.value c.in_ok-order.ensures.order) in
    ask_shares c.args.limits.now c.args.tick c.args.asks.now c.requires.plan.0 c.requires.plan.2.order c.args.plan.lanes.items (limits c.args.plan.tree) c.in_ok-shares.shares.items c.sort_by_place.new.shares.items c.requires.plan.1 c.requires.plan.2.all c.requires.plan.2.lanes_are c.requires.plan.2.tree
    (subst (λ (x : List Ask). AreBestLeaves c.args.limits.now c.args.tick x c.args.plan.lanes.items (limits c.args.plan.tree) c.in_ok-shares.shares.items) order_is (subst (λ (ls : List ℕ). AreBestLeaves c.args.limits.now c.args.tick c.deref-2.result.now ls (limits c.args.plan.tree) c.in_ok-shares.shares.items) c.deref-3.ensures.value c.in_ok-shares.ensures.shares))
    c.sort_by_place.ensures.same c.sort_by_place.ensures.sorted

pub returns-clause-names : goal.returns-clause-names
returns-clause-names g c =
    let order_is : c.deref-2.result.now ≡ map ask_in c.requires.plan.2.order = c.deref-2.ensures.value
    ∙ same_order c.args.asks.now c.requires.plan.0 c.requires.plan.2.order c.in_ok-order.order.items c.args.plan.lanes.items c.requires.plan.1 c.requires.plan.2.all c.requires.plan.2.lanes_are
    (subst (λ (x : List ℕ). map (λ lane. slice_get c.args.asks.now lane) x ≡ map (λ ask. Some ask) c.in_ok-order.order.items) c.deref.ensures.value c.in_ok-order.ensures.order) in
    names_are_kept c.args.limits.now c.args.tick c.in_ok-shares.shares.items c.sort_by_place.new.shares.items c.grants_keep_names.ensures.kept
    (tree_shares c.args.limits.now c.args.tick (map ask_in c.requires.plan.2.order) c.args.plan.lanes.items (limits c.args.plan.tree) c.in_ok-shares.shares.items c.requires.plan.2.tree
    (subst (λ (x : List Ask). AreBestLeaves c.args.limits.now c.args.tick x c.args.plan.lanes.items (limits c.args.plan.tree) c.in_ok-shares.shares.items) order_is (subst (λ (ls : List ℕ). AreBestLeaves c.args.limits.now c.args.tick c.deref-2.result.now ls (limits c.args.plan.tree) c.in_ok-shares.shares.items) c.deref-3.ensures.value c.in_ok-shares.ensures.shares)))
    c.sort_by_place.ensures.same

pub returns-in_err-shares-clause-fault : goal.returns-in_err-shares-clause-fault
returns-in_err-shares-clause-fault g c =
    let order_is : c.deref-2.result.now ≡ map ask_in c.requires.plan.2.order = c.deref-2.ensures.value
    ∙ same_order c.args.asks.now c.requires.plan.0 c.requires.plan.2.order c.in_ok-order.order.items c.args.plan.lanes.items c.requires.plan.1 c.requires.plan.2.all c.requires.plan.2.lanes_are
    (subst (λ (x : List ℕ). map (λ lane. slice_get c.args.asks.now lane) x ≡ map (λ ask. Some ask) c.in_ok-order.order.items) c.deref.ensures.value c.in_ok-order.ensures.order) in
    let e = c.in_err-shares.field-0.0 in
    let fault : IsUnshared c.args.limits.now.share_by c.args.asks.now e =
    unshared_moved c.args.limits.now.share_by c.args.asks.now c.deref-2.result.now c.requires.plan.0 c.requires.plan.2.order e c.requires.plan.1 c.requires.plan.2.all order_is c.in_err-shares.ensures.fault in
    search (rules, fault)
