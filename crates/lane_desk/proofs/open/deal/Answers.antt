use Rattle.std.proofs.Common.{rules, ap, ◌∙◌, sym, subst, ◌+◌}
use Rattle.desk_rule.specs.Lanes.{lane_in, dealer_after, dealt_to}
use Rattle.lane_desk.specs.Open.{AreFresh}
use Rattle.lane_desk.proofs.Opening.{deals_of, fresh_more}
use Rattle.lane_desk.proofs.open.deal.Goals as goal

pub split_seat-seat-requires : goal.split_seat-seat-requires
split_seat-seat-requires g c = (search rules, search rules, deals_of _ _ c.args.lanes c.loop-lane.lane c.loop-lane-test.true c.loop-lane.invariant.1)

pub loop-lane-preserved : goal.loop-lane-preserved
loop-lane-preserved g c =
    let k = c.loop-lane.invariant in
    let s = c.split_seat-seat.ensures in
    let i = c.loop-lane.lane in
    let z = c.args.shared.now.table_id in (
      s.0 ∙ k.0,
      s.2 ∙ ap (λ m. (dealer_after m.0, m.1)) k.1,
      search rules,
      search rules,
      subst (AreFresh z (i + 1)) (sym c.push_reserved.ensures.items) (fresh_more z i c.loop-lane.seats.items c.new.result k.4 c.new.ensures.seat.1 (search rules)
          (ap (λ q. lane_in c.new.result.lane q.me.0) c.new.ensures.seat.0 ∙ ap (λ m. lane_in c.new.result.lane m.0) s.4 ∙ ap (λ m. lane_in c.new.result.lane (dealt_to m.0)) k.1)),
    )
