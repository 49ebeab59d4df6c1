use Rattle.std.proofs.Common.{◌≡◌, ◌<◌, ◌∙◌, List, ℕ, length, map, sym, subst, Some}
use Rattle.std.specs.Prelude.{slice_get}
use Rattle.std.specs.List.{All}
use Rattle.fair_terms.specs.Wants.{HasLargeUser}
use Rattle.limit_tree.specs.Outline.{limits}
use Rattle.line_rates.specs.TickTree.{Asker, IsTickTree, ask_in}
use Rattle.rate_plan.specs.Shared.{AreGrantedShares}
use Rattle.rate_plan.proofs.OrderLemmas.{lanes_within, same_order}
use Rattle.rate_plan.proofs.ShareLemmas.{shares_are}
use Rattle.rate_plan.proofs.UserWants.{none_large}
use Rattle.rate_plan.proofs.plan.shares_in.Goals as goal

pub in_order-requires : goal.in_order-requires
in_order-requires g c = record {
  lanes = subst (All (λ lane. lane < length c.args.asks.now)) (sym c.deref.ensures.value)
      (lanes_within c.args.tens.now.share_by c.requires.asked.0 c.args.asks.now c.requires.plan.order c.args.plan.lanes.items c.requires.asked.1 c.requires.plan.all c.requires.plan.lanes_are);
}

pub granted_shares-requires : goal.granted_shares-requires
granted_shares-requires g c =
    let order_is : c.deref-2.result.now ≡ c.requires.plan.order = c.deref-2.ensures.value
    ∙ same_order c.args.tens.now.share_by c.requires.asked.0 c.args.asks.now c.requires.plan.order c.in_ok-order.order.items c.args.plan.lanes.items c.requires.asked.1 c.requires.plan.all c.requires.plan.lanes_are
    (subst (λ (x : List ℕ). map (λ lane. slice_get c.args.asks.now lane) x ≡ map (λ ask. Some ask) c.in_ok-order.order.items) c.deref.ensures.value c.in_ok-order.ensures.order) in
    record {
      tree = subst (λ (x : List Asker). IsTickTree c.args.tens.now 0 (map ask_in x) (limits c.args.plan.tree)) (sym order_is) c.requires.plan.tree;
      wants = λ large. none_large c.args.tens.now.share_by c.requires.asked.0 c.args.asks.now c.requires.plan.order c.requires.asked.1 c.requires.plan.all
          (subst (λ (x : List Asker). HasLargeUser c.args.tens.now.share_by (map ask_in x)) order_is large);
    }

pub returns : goal.returns
returns g c = record {
  shares = λ rates transfers h asked. shares_are rates c.args.tens.now h transfers c.args.asks.now c.in_ok-order.order.items (limits c.args.plan.tree) c.args.plan.lanes.items c.in_ok-shares.shares.items c.sort_by_lane.new.shares.items asked c.requires.plan
      (subst (λ (x : List ℕ). map (λ lane. slice_get c.args.asks.now lane) x ≡ map (λ ask. Some ask) c.in_ok-order.order.items) c.deref.ensures.value c.in_ok-order.ensures.order)
      (subst (λ (x : List Asker). AreGrantedShares c.args.tens.now x (limits c.args.plan.tree) c.in_ok-shares.shares.items) c.deref-2.ensures.value c.in_ok-shares.ensures.shares)
      c.sort_by_lane.ensures.same c.sort_by_lane.ensures.sorted;
}
