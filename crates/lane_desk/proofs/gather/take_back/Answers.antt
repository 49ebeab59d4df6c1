use Rattle.std.proofs.Common.{rules, ap, ◌∙◌, sym, subst, ◌∷◌, ◌<◌}
use Rattle.atomic_table.specs.Table.{rest}
use Rattle.desk_rule.specs.declared.view.LaneSlot.TheVariants.{WithGrant}
use Rattle.desk_rule.proofs.Keeps.{takes_grant}
use Rattle.lane_desk.proofs.Taking.{owns_round, taken_front, rises_of, rises_then, same_grant, took_back}
use Rattle.lane_desk.proofs.gather.take_back.Goals as goal

pub compare_exchange-requires : goal.compare_exchange-requires
compare_exchange-requires g c = let r = c.args.round.now in
    (search rules, search rules, takes_grant _ _ _ _ (owns_round _ c.args.lane r.knows.view_is c.requires.lane.0))

pub exchange-slot-requires : goal.exchange-slot-requires
exchange-slot-requires g c = let t = c.compare_exchange.ensures.2.0 c.if-compare_exchange-ne4.false in
    (search rules, (WithGrant t.0, ap (λ m. m.1) t.2 ∙ sym (ap (λ m. (c.args.lane, WithGrant t.0) ∷ rest m.1) t.2)))

pub store-requires : goal.store-requires
store-requires g c = let r = c.args.round.now in
    let f = taken_front _ _ _ c.args.lane (c.compare_exchange.ensures.2.0 c.if-compare_exchange-ne4.false) c.exchange-slot.ensures.3 in
    (search rules, search rules, rises_of _ _ _ r.seat.me.0 _ c.args.lane f.0.octets (owns_round _ c.args.lane r.knows.view_is c.requires.lane.0) f.2)

pub returns-clause-some : goal.returns-clause-some
returns-clause-some g c = let r = c.args.round.now in
    let f = taken_front _ _ _ c.args.lane (c.compare_exchange.ensures.2.0 c.if-compare_exchange-ne4.false) c.exchange-slot.ensures.3 in
    let same = same_grant _ _ c.args.lane _ f.0 c.in-WithGrant.grant c.exchange-slot.ensures.2 f.1 c.in-WithGrant.is in
    let t = rises_then _ _ r.seat.me.0 _ c.args.lane f.0.octets (owns_round _ c.args.lane r.knows.view_is c.requires.lane.0) f.2 c.store.ensures.2 in
    took_back r.seat.me _ r.lanes r.held c.args.lane _ f.0 c.in-WithGrant.grant r.knows (subst (λ n. c.args.lane < n) (sym r.knows.wide) c.requires.lane.1) same t f.3
