use Rattle.std.proofs.Common.{rules, ap, refl}
use Rattle.desk_rule.specs.Lanes.{lane_in}
use Rattle.desk_rule.specs.declared.view.SeatState.TheVariants.{Asked}
use Rattle.desk_rule.specs.declared.view.LaneSlot.TheVariants.{WithAsk}
use Rattle.lane_desk.proofs.Calls.{ready, asks_of, asks_then, knows_of, known_as}
use Rattle.lane_desk.proofs.seat.LaneSeat.ask.Goals as goal

pub store-requires : goal.store-requires
store-requires g c = let k = known_as _ _ _ _ c.args.self.now.knows c.requires.state in
    (search rules, search rules, asks_of _ _ _ _ _ c.args.ask (ready _ _ _ (WithAsk c.args.ask) k c.exchange.ensures.3) c.requires.state)

pub invariant_of-self : goal.invariant_of-self
invariant_of-self g c = let k = known_as _ _ _ _ c.args.self.now.knows c.requires.state in
    record { knows = knows_of _ _ _ Asked (asks_then 0 _ _ _ _ c.args.ask (ready _ _ _ (WithAsk c.args.ask) k c.exchange.ensures.3) c.store.ensures.2) refl }

pub returns-clause-view : goal.returns-clause-view
returns-clause-view g c = let k = known_as _ _ _ _ c.args.self.now.knows c.requires.state in
    ap (λ m. lane_in c.args.self.now.lane m.0) (asks_then 0 _ _ _ _ c.args.ask (ready _ _ _ (WithAsk c.args.ask) k c.exchange.ensures.3) c.store.ensures.2)
