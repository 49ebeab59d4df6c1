use Rattle.std.proofs.Common.{◌≡◌, List, ap, ◌∙◌, subst, sym, arith, length}
use Rattle.std.specs.Prelude.{All}
use Rattle.std.specs.Result.{IfErr, IfOk}
use Rattle.limit_tree.specs.Outline.{limits as seen}
use Rattle.line_rates.specs.Rates.{Rates}
use Rattle.fair_shares.specs.Asked.{AreApart}
use Rattle.line_rates.specs.TickTree.{Asker}
use Rattle.world_terms.specs.Decisions.{in_round}
use Rattle.world_terms.specs.Lanes.{Lane}
use Rattle.share_world.proofs.Small.{few_in_round, ok_always}
use Rattle.share_world.proofs.Sharing.{apart_in_round}
use Rattle.share_world.specs.Shares.{IsFairPlan, IsUnshared}
use Rattle.share_world.specs.Performed.{HasAsk}
use Rattle.share_world.proofs.world.World.share.Goals as goal

pub share-requires-clause-few : goal.share-requires-clause-few
share-requires-clause-few g c =
    omega (arith, ap length (c.deref-2.ensures.value ∙ c.in_ok-asks.ensures.asks), few_in_round c.deref.result.now, ap length c.deref.ensures.value, c.self.invariant.few)

pub returns-clause-asked : goal.returns-clause-asked
returns-clause-asked g c =
    ok_always c.share.result (All HasAsk c.args.self.now.world.lanes)
    (subst (λ (ls : List Lane). All HasAsk ls) (c.deref.ensures.value ∙ ap (λ s. s.world.lanes) c.self.view_is) c.in_ok-asks.ensures.asked)

pub share-requires-clause-apart : goal.share-requires-clause-apart
share-requires-clause-apart g c =
    subst AreApart (sym (c.deref-2.ensures.value ∙ c.in_ok-asks.ensures.asks)) (apart_in_round c.deref.result.now)

pub returns-clause-fair : goal.returns-clause-fair
returns-clause-fair g c =
    let asks : c.deref-2.result.now ≡ in_round c.args.self.now.world.lanes = c.deref-2.ensures.value ∙ c.in_ok-asks.ensures.asks ∙ ap in_round (c.deref.ensures.value ∙ ap (λ s. s.world.lanes) c.self.view_is) in
    subst (λ (rates : Rates). IfOk c.share.result (λ r. IsFairPlan rates c.args.tick (in_round c.args.self.now.world.lanes) (seen r.1.tree) r.0.items r.1.grants)) (ap (λ s. s.rates) c.self.view_is)
    (subst (λ (xs : List Asker). IfOk c.share.result (λ r. IsFairPlan c.self.inside.limits c.args.tick xs (seen r.1.tree) r.0.items r.1.grants)) asks c.share.ensures.fair)

pub returns-clause-refused : goal.returns-clause-refused
returns-clause-refused g c =
    let asks : c.deref-2.result.now ≡ in_round c.args.self.now.world.lanes = c.deref-2.ensures.value ∙ c.in_ok-asks.ensures.asks ∙ ap in_round (c.deref.ensures.value ∙ ap (λ s. s.world.lanes) c.self.view_is) in
    subst (λ (rates : Rates). IfErr c.share.result (IsUnshared rates c.args.tick (in_round c.args.self.now.world.lanes))) (ap (λ s. s.rates) c.self.view_is)
    (subst (λ (xs : List Asker). IfErr c.share.result (IsUnshared c.self.inside.limits c.args.tick xs)) asks c.share.ensures.fault)
