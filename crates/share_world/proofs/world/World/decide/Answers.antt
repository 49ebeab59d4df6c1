use Rattle.std.proofs.Common.{◌≡◌, ◌+◌, ◌/◌, ◌<◌, ◌≤◌, List, ℕ, arith, refl, sym, ap, ◌∙◌, subst}
use Rattle.grant_ledger.specs.declared.ledger.TheConstants.{MAX_ISSUED}
use Rattle.limit_tree.specs.Outline.{limits}
use Rattle.world_terms.specs.Lanes.{Lane}
use Rattle.share_world.specs.Limited.{IsKept}
use Rattle.share_world.specs.Shares.{AreOpen, dealt}
use Rattle.share_world.proofs.Sharing.{IsDeal, deal_decides, deal_due, deal_kept, deal_passes}
use Rattle.share_world.proofs.world.World.decide.Goals as goal

pub deal-requires-clause-due : goal.deal-requires-clause-due
deal-requires-clause-due g c =
    let d : IsDeal c.args.self.now.rates (c.args.moment / 100) c.args.self.now.world.lanes (limits c.in_ok-numbers.sealed.tree) c.in_ok-numbers.numbers.items c.in_ok-numbers.sealed.grants =
    record { posted = c.in_ok-check_ready.ensures.ready.posted; asked = c.in_ok-numbers.ensures.asked; fair = c.in_ok-numbers.ensures.fair } in
    let open_lanes = deal_due c.args.self.now.rates (c.args.moment / 100) c.args.self.now.world.lanes _ c.in_ok-numbers.numbers.items c.in_ok-numbers.sealed.grants d in
    subst (AreOpen c.deref.result.now) (sym (ap (λ s. s.world.lanes) c.self.view_is)) (subst (λ (is : List ℕ). AreOpen is c.args.self.now.world.lanes) (sym c.deref.ensures.value) open_lanes)

pub returns-then-self-total-clause-step : goal.returns-then-self-total-clause-step
returns-then-self-total-clause-step g c =
    let d : IsDeal c.args.self.now.rates (c.args.moment / 100) c.args.self.now.world.lanes (limits c.in_ok-numbers.sealed.tree) c.in_ok-numbers.numbers.items c.in_ok-numbers.sealed.grants =
    record { posted = c.in_ok-check_ready.ensures.ready.posted; asked = c.in_ok-numbers.ensures.asked; fair = c.in_ok-numbers.ensures.fair } in
    let same : c.self.inside.issued ≡ c.args.self.now.world.issued = ap (λ s. s.world.issued) c.self.view_is in
    let past : MAX_ISSUED < c.self.inside.issued + c.total-total.result = omega arith in
    let above : MAX_ISSUED < c.args.self.now.world.issued + c.total-total.result = subst (λ (n : ℕ). MAX_ISSUED < n + c.total-total.result) same past in
    (refl, (c.in_ok-check_ready.ensures.ready, deal_passes c.args.self.now.rates c.args.self.now.world c.args.moment _ c.in_ok-numbers.numbers.items c.in_ok-numbers.sealed.grants c.total-total.result d c.total-total.ensures.total above))

pub invariant_of-self : goal.invariant_of-self
invariant_of-self g c =
    let d : IsDeal c.args.self.now.rates (c.args.moment / 100) c.args.self.now.world.lanes (limits c.in_ok-numbers.sealed.tree) c.in_ok-numbers.numbers.items c.in_ok-numbers.sealed.grants =
    record { posted = c.in_ok-check_ready.ensures.ready.posted; asked = c.in_ok-numbers.ensures.asked; fair = c.in_ok-numbers.ensures.fair } in
    let here : IsDeal c.args.self.now.rates (c.args.moment / 100) c.self.inside.lanes.items (limits c.in_ok-numbers.sealed.tree) c.in_ok-numbers.numbers.items c.in_ok-numbers.sealed.grants =
    subst (λ (ls : List Lane). IsDeal c.args.self.now.rates (c.args.moment / 100) ls (limits c.in_ok-numbers.sealed.tree) c.in_ok-numbers.numbers.items c.in_ok-numbers.sealed.grants) (sym (ap (λ s. s.world.lanes) c.self.view_is)) d in
    let most : c.self.inside.issued ≤ MAX_ISSUED = c.self.invariant.booked.most in
    let kept = deal_kept c.args.self.now.rates (c.args.moment / 100) c.self.inside.lanes.items _ c.in_ok-numbers.numbers.items c.in_ok-numbers.sealed.grants c.total-total.result c.self.inside.issued here c.total-total.ensures.total (omega arith) c.self.invariant in
    let at : c.deal.new.lanes.items ≡ dealt c.in_ok-numbers.numbers.items c.in_ok-numbers.sealed.grants c.self.inside.lanes.items =
    c.deal.ensures.dealt ∙ ap (λ is. dealt is c.grants.result.now c.self.inside.lanes.items) c.deref.ensures.value ∙ ap (λ ns. dealt c.in_ok-numbers.numbers.items ns c.self.inside.lanes.items) c.grants.ensures.grants in
    subst (λ (ls : List Lane). IsKept ls (c.self.inside.issued + c.total-total.result)) (sym at) kept

pub returns-clause-step : goal.returns-clause-step
returns-clause-step g c =
    let d : IsDeal c.args.self.now.rates (c.args.moment / 100) c.args.self.now.world.lanes (limits c.in_ok-numbers.sealed.tree) c.in_ok-numbers.numbers.items c.in_ok-numbers.sealed.grants =
    record { posted = c.in_ok-check_ready.ensures.ready.posted; asked = c.in_ok-numbers.ensures.asked; fair = c.in_ok-numbers.ensures.fair } in
    let most : c.self.inside.issued ≤ MAX_ISSUED = c.self.invariant.booked.most in
    let lanes : c.self.inside.lanes.items ≡ c.args.self.now.world.lanes = ap (λ s. s.world.lanes) c.self.view_is in
    let at : c.deal.new.lanes.items ≡ dealt c.in_ok-numbers.numbers.items c.in_ok-numbers.sealed.grants c.args.self.now.world.lanes =
    c.deal.ensures.dealt ∙ ap (λ is. dealt is c.grants.result.now c.self.inside.lanes.items) c.deref.ensures.value ∙ ap (λ ns. dealt c.in_ok-numbers.numbers.items ns c.self.inside.lanes.items) c.grants.ensures.grants
    ∙ ap (dealt c.in_ok-numbers.numbers.items c.in_ok-numbers.sealed.grants) lanes in
    deal_decides c.args.self.now.rates c.args.self.now.world c.args.moment _ c.in_ok-numbers.numbers.items c.in_ok-numbers.sealed.grants c.total-total.result c.self.inside.issued c.deal.new.lanes.items
    c.in_ok-check_ready.ensures.ready d c.total-total.ensures.total (ap (λ s. s.world.issued) c.self.view_is) (omega arith) at
