use Rattle.std.proofs.Common.{rules, ap, ◌∙◌, sym, ◌∷◌}
use Rattle.atomic_table.specs.Table.{rest}
use Rattle.desk_rule.specs.declared.view.LaneSlot.TheVariants.{WithGrant}
use Rattle.desk_rule.proofs.Keeps.{takes_grant}
use Rattle.lane_desk.proofs.Calls.{owns_of}
use Rattle.lane_desk.proofs.seat.LaneSeat.try_take.Goals as goal

pub compare_exchange-requires : goal.compare_exchange-requires
compare_exchange-requires g c = (search rules, search rules, takes_grant _ _ _ _ (owns_of _ _ _ c.args.self.now.knows.0))

pub exchange-requires : goal.exchange-requires
exchange-requires g c = let t = c.compare_exchange.ensures.2.0 c.if-compare_exchange-ne4.false in
    (search rules, (WithGrant t.0, ap (λ m. m.1) t.2 ∙ sym (ap (λ m. (c.args.self.now.lane, WithGrant t.0) ∷ rest m.1) t.2)))
