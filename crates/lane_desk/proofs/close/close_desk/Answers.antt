use Rattle.std.proofs.Common.{rules, ◌≡◌, ◌+◌, ℕ, [], ◌∷◌, ◌++◌, ap, refl, ◌∙◌, sym, subst, arith, get_or, length, append-nil, append_assoc}
use Rattle.grant_ledger.specs.Books.{capped}
use Rattle.desk_rule.specs.Lanes.{untraced}
use Rattle.lane_desk.specs.Traces.{traces, back}
use Rattle.lane_desk.specs.AllLanes.{AllClosed, taken_in_all}
use Rattle.lane_desk.proofs.AllLanes.{all_more, all_settled, taken_more, next_seat, empty_of, none_at, capped_more, capped_none}
use Rattle.lane_desk.proofs.close.close_desk.Goals as goal

pub close_lane-requires-clause-seat : goal.close_lane-requires-clause-seat
close_lane-requires-clause-seat g c =
    let l = c.loop-seat in
    let order = ap (λ x. l.yielded ++ x) (sym c.in-Some.ensures.steps.0) ∙ l.invariant.order in
    let k = next_seat _ _ c.args.seats.items l.yielded _ c.in-Some.seat c.requires.seats order in
    ((k.0, k.1), k.2 ∙ sym l.invariant.closed.0)

pub loop-seat-preserved : goal.loop-seat-preserved
loop-seat-preserved g c =
    let l = c.loop-seat in
    let r = c.close_lane.new.round in
    let order = ap (λ x. l.yielded ++ x) (sym c.in-Some.ensures.steps.0) ∙ l.invariant.order in
    let k = next_seat _ _ c.args.seats.items l.yielded _ c.in-Some.seat c.requires.seats order in
    let a = all_more (traces c.args.round) (traces l.round) (traces r) l.yielded c.in-Some.seat (back l.round) (back r) c.close_lane.result l.invariant.closed l.invariant.others k.2 c.close_lane.ensures.traces c.close_lane.ensures.back in
    record {
      order = append_assoc l.yielded (c.in-Some.seat ∷ []) c.next.new.self.rest.items ∙ order;
      desk = c.close_lane.ensures.same;
      closed = a.0;
      others = a.1;
      moved = c.close_lane.ensures.moved ∙ l.invariant.moved;
      taken = (
        l.invariant.taken.0 + c.close_lane.result,
        taken_more l.yielded c.in-Some.seat (get_or (traces l.round) c.in-Some.seat.lane untraced) (get_or (traces r) c.in-Some.seat.lane untraced) (back l.round) (back r) l.invariant.taken.0 c.close_lane.result l.invariant.taken.1 c.close_lane.ensures.back,
        c.close_lane.ensures.tally ∙ ap (λ (z : ℕ). capped z c.close_lane.result) l.invariant.taken.2 ∙ capped_more c.args.tally.now.back l.invariant.taken.0 c.close_lane.result,
      );
    }

pub free-requires-clause-settled : goal.free-requires-clause-settled
free-requires-clause-settled g c = all_settled (traces c.args.round) (traces c.loop-seat.round) c.loop-seat.yielded (back c.loop-seat.round) c.loop-seat.invariant.closed

pub returns-clause-lanes : goal.returns-clause-lanes
returns-clause-lanes g c =
    let l = c.loop-seat in
    let none : l.seat-iterator.rest.items ≡ [] = empty_of l.seat-iterator.rest.items (search rules) in
    let all : l.yielded ≡ c.args.seats.items = sym (append-nil l.yielded) ∙ ap (λ x. l.yielded ++ x) (sym none) ∙ l.invariant.order in
    subst (λ ys. AllClosed (traces c.args.round) ys (traces c.of.result.value) (back c.of.result.value)) all
    (subst (λ v. AllClosed (traces c.args.round) l.yielded (traces v) (back v)) (sym c.of.ensures) l.invariant.closed)

pub loop-seat-init : goal.loop-seat-init
loop-seat-init g c = record {
  order = search rules;
  desk = c.requires.round.0;
  closed = (ap length c.requires.round.1, λ i s e. absurd (none_at [] i s refl e));
  others = λ i far. refl;
  moved = refl;
  taken = (0, ap taken_in_all c.requires.round.1, capped_none c.args.tally.now.back (omega (arith, c.back-back.ensures.back, c.back-back.type_inv)));
}
