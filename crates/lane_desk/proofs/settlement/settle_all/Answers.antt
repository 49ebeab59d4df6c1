use Rattle.std.proofs.Common.{◌≡◌, ◌≤◌, ◌<◌, ◌+◌, ℕ, [], ◌∷◌, ◌++◌, ap, ◌∙◌, sym, subst, arith, get_or, length, length-append, append_assoc, sum, reverse, refl}
use Rattle.std.proofs.lemmas.Grind.{common_steps}
use Rattle.desk_rule.specs.Lanes.{untraced, posted_in}
use Rattle.lane_desk.specs.Traces.{traces, back}
use Rattle.lane_desk.specs.Seats.{desk_id, seat_view}
use Rattle.lane_desk.specs.AllLanes.{taken_in_all}
use Rattle.lane_desk.proofs.AllLanes.{taken_most}
use Rattle.lane_desk.proofs.Sums.{settled_more, posted_still, taken_all, taken_plus, taken_sum, moved_plus, next_order, next_worker}
use Rattle.lane_desk.proofs.settlement.settle_all.Goals as goal

pub close_lane-requires-clause-seat : goal.close_lane-requires-clause-seat
close_lane-requires-clause-seat g c =
    let l = c.loop-worked in
    let w = c.in-Some.worked in
    let order = next_order l.invariant.done l.workers.items c.pop.new.self.items c.args.workers.items w l.invariant.order c.in-Some.ensures.items in
    let k = next_worker (desk_id c.args.desk) c.args.desk.lanes c.args.workers.items l.invariant.done (reverse c.pop.new.self.items) w c.requires.seats order in
    subst (λ s. ((s.seat.table_id ≡ desk_id c.args.desk) × (s.lane < c.args.desk.lanes)) × (s.lane ≡ length (back l.round))) (sym c.parts-seat.ensures.parts.0) ((k.0, k.1), k.2 ∙ sym l.invariant.count)

pub loop-worked-preserved : goal.loop-worked-preserved
loop-worked-preserved g c =
    let l = c.loop-worked in
    let w = c.in-Some.worked in
    let s = c.parts-seat.result.0 in
    let r = c.close_lane.new.round in
    let n : ℕ = c.close_lane.result in
    let first = c.args.rounds in
    let order = next_order l.invariant.done l.workers.items c.pop.new.self.items c.args.workers.items w l.invariant.order c.in-Some.ensures.items in
    let k = next_worker (desk_id c.args.desk) c.args.desk.lanes c.args.workers.items l.invariant.done (reverse c.pop.new.self.items) w c.requires.seats order in
    let here : s.lane ≡ length (back l.round) = ap (λ q. q.lane) c.parts-seat.ensures.parts.0 ∙ k.2 ∙ sym l.invariant.count in
    let near : s.lane < length (traces l.round) = omega (arith, ap (λ q. q.lane) c.parts-seat.ensures.parts.0, k.1, l.round.knows.wide, l.invariant.desk.1) in
    let b = c.close_lane.ensures.back in
    let settled = settled_more (traces l.round) (traces r) (back l.round) (back r) s.lane b.0 l.invariant.settled here c.close_lane.ensures.traces b.1 b.2.1 in
    let posted = posted_still (traces l.round) (traces r) s.lane near c.close_lane.ensures.traces b.2.0 ∙ l.invariant.posted in
    let more = taken_plus (back l.round) (back r) b.0 b.1 in
    let took = taken_sum (seat_view s) b.0 (get_or (traces l.round) s.lane untraced) (get_or (traces r) s.lane untraced) n b.2 in
    let reported : c.parts-seat.result.1.moved + c.parts-seat.result.1.back ≡ sum (seat_view s).taken = c.parts-seat.ensures.reported in
    let long : length (back r) ≤ length (traces r) = omega (arith, ap length b.1, length-append (back l.round) (b.0 ∷ []), l.invariant.count, k.1, k.2, r.knows.wide, c.close_lane.ensures.same.1) in
    let most : taken_in_all (back r) ≤ posted_in (traces r) = taken_most (traces r) (back r) long settled in
    let few : first.tally.moved + first.tally.back + taken_in_all (back r) ≤ 4611686018427387904 = omega (arith, most, posted, first.reported, c.issued.ensures.issued, c.issued.ensures.most) in
    let m1 : c.join.new.self.moved ≡ l.tally.moved + c.parts-seat.result.1.moved = omega (arith, c.join.ensures.moved, few, more, took, reported, l.invariant.sums) in
    let b1 : c.join.new.self.back ≡ l.tally.back + c.parts-seat.result.1.back = omega (arith, c.join.ensures.back, few, more, took, reported, l.invariant.sums) in
    let m2 : c.close_lane.new.tally.moved ≡ c.join.new.self.moved = c.close_lane.ensures.moved in
    let b2 : c.close_lane.new.tally.back ≡ c.join.new.self.back + n = omega (arith, c.close_lane.ensures.tally, few, more, took, reported, l.invariant.sums, b1) in
    record {
      done = l.invariant.done ++ w ∷ [];
      order = append_assoc l.invariant.done (w ∷ []) (reverse c.pop.new.self.items) ∙ order;
      desk = c.close_lane.ensures.same;
      count = omega (arith, ap length b.1, length-append (back l.round) (b.0 ∷ []), l.invariant.count, length-append l.invariant.done (w ∷ []));
      settled = settled;
      posted = posted;
      moved = omega (arith, m1, m2, l.invariant.moved, moved_plus l.invariant.done w, ap (λ t. t.moved) c.parts-seat.ensures.parts.1);
      sums = omega (arith, m1, m2, b1, b2, l.invariant.sums, more, took, reported);
    }

pub returns-clause-sum : goal.returns-clause-sum
returns-clause-sum g c =
    let l = c.loop-worked in
    let all : length (back l.round) ≡ l.round.lanes = grind (arith, common_steps) in
    omega (arith, taken_all (traces l.round) (back l.round) (all ∙ sym l.round.knows.wide) l.invariant.settled, l.invariant.sums, l.invariant.posted, c.args.rounds.reported)

pub loop-worked-init : goal.loop-worked-init
loop-worked-init g c =
    let none = c.requires.round.1 in
    record {
      done = [];
      order = grind (arith, common_steps);
      desk = c.requires.round.0;
      count = ap length none;
      settled = λ i near. absurd (omega (arith, near, ap length none));
      posted = refl;
      moved = omega arith;
      sums = omega (arith, ap taken_in_all none);
    }
