use Rattle.std.proofs.Common.{◌≡◌, ℕ, ap, ◌∙◌, subst, ◌<◌, ◌++◌, ◌∷◌, [], length, arith, get_or}
use Rattle.desk_rule.specs.declared.view.LaneView.{LaneView}
use Rattle.desk_rule.specs.Lanes.{untraced}
use Rattle.lane_desk.specs.Seats.{seat_view}
use Rattle.lane_desk.specs.Traces.{traces, back}
use Rattle.lane_desk.specs.Close.{Closes}
use Rattle.lane_desk.proofs.Closing.{closes_none, closes_some}
use Rattle.lane_desk.proofs.lane_close.close_lane.Goals as goal

pub returns-in-Some-clause-back : goal.returns-in-Some-clause-back
returns-in-Some-clause-back g c =
    let r = c.args.round.now in
    let s = c.args.seat in
    let j : ℕ = c.lane-lane.result in
    let is : j ≡ s.lane = c.lane-lane.ensures.lane in
    let near : j < length (traces r) = omega (arith, is, c.requires.seat.0.1, c.requires.round.1, r.knows.wide) in
    let reported = c.in-Some.ensures.some in
    let n : ℕ = c.octets-octets.result in
    subst (λ (z : ℕ). (x : LaneView) × (back c.take_back.new.round ≡ back r ++ x ∷ []) × Closes (get_or (traces r) z untraced) (seat_view s) (get_or (traces c.take_back.new.round) z untraced) x n) is
    (closes_some (traces r) (traces c.take_back.new.round) (back r) (back c.join.new.round) (back c.take_back.new.round) j (seat_view s) (seat_view c.risen-seat.result)
    near (is ∙ c.requires.seat.1) (c.take_back.ensures.same.1 ∙ c.join.ensures.same.1 ∙ c.answer.ensures.traces) (c.join.ensures.back ∙ ap (λ l. l ++ seat_view c.risen-seat.result ∷ []) c.answer.ensures.same.2) c.risen-seat.ensures.state c.risen-seat.ensures.taken
    c.in-Some.grant.octets n c.octets-octets.ensures.octets reported.0 (ap (λ l. (get_or l j untraced).posted) c.take_back.ensures.same.1 ∙ reported.1))

pub returns-in-None-clause-back : goal.returns-in-None-clause-back
returns-in-None-clause-back g c =
    let r = c.args.round.now in
    let s = c.args.seat in
    let j : ℕ = c.lane-lane.result in
    let is : j ≡ s.lane = c.lane-lane.ensures.lane in
    let near : j < length (traces r) = omega (arith, is, c.requires.seat.0.1, c.requires.round.1, r.knows.wide) in
    let reported = c.in-None.ensures.none in
    subst (λ (z : ℕ). (x : LaneView) × (back c.take_back.new.round ≡ back r ++ x ∷ []) × Closes (get_or (traces r) z untraced) (seat_view s) (get_or (traces c.take_back.new.round) z untraced) x 0) is
    (closes_none (traces r) (traces c.take_back.new.round) (back r) (back c.join.new.round) (back c.take_back.new.round) j (seat_view s) (seat_view c.risen-seat.result)
    near (is ∙ c.requires.seat.1) (c.take_back.ensures.same.1 ∙ c.join.ensures.same.1 ∙ c.answer.ensures.traces) (c.join.ensures.back ∙ ap (λ l. l ++ seat_view c.risen-seat.result ∷ []) c.answer.ensures.same.2) c.risen-seat.ensures.state c.risen-seat.ensures.taken
    reported.0 (ap (λ l. (get_or l j untraced).posted) c.take_back.ensures.same.1 ∙ reported.1))
