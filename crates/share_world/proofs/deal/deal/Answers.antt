use Rattle.std.proofs.Common.{◌≡◌, ◌<◌, length, arith, get_or, refl, sym, ap, ◌∙◌, add-one}
use Rattle.world_terms.specs.Lanes.{Lane, new_lane}
use Rattle.std.specs.Prelude.{slice_index_or}
use Rattle.share_world.proofs.Deals.{less_of, same_at, left_at, due_step, rest_step}
use Rattle.share_world.proofs.deal.deal.Goals as goal

pub index_mut-requires : goal.index_mut-requires
index_mut-requires g c =
    let left = left_at c.args.numbers.now c.loop-i.i c.loop-i.lanes.items c.loop-i-test.true c.loop-i.invariant.due in
    let less : get_or c.args.numbers.now c.loop-i.i 0 < length c.loop-i.lanes.items = less_of c.loop-i.lanes.items _ left.0.lane left.0.there in
    omega arith

pub give-requires : goal.give-requires
give-requires g c =
    let left = left_at c.args.numbers.now c.loop-i.i c.loop-i.lanes.items c.loop-i-test.true c.loop-i.invariant.due in
    let same : c.index_mut.result.now ≡ left.0.lane = same_at c.loop-i.lanes.items _ left.0.lane c.index_mut.result.now c.index_mut.result.now left.0.there c.index_mut.ensures.value in
    record { round = ap (λ (l : Lane). l.shown.state) same ∙ left.0.round }

pub loop-i-preserved : goal.loop-i-preserved
loop-i-preserved g c =
    let left = left_at c.args.numbers.now c.loop-i.i c.loop-i.lanes.items c.loop-i-test.true c.loop-i.invariant.due in
    let same : c.index_mut.result.now ≡ left.0.lane = same_at c.loop-i.lanes.items _ left.0.lane c.index_mut.result.now c.index_mut.result.now left.0.there c.index_mut.ensures.value in
    let here : slice_index_or c.loop-i.lanes.items (get_or c.args.numbers.now c.loop-i.i 0) new_lane ≡ left.0.lane = same_at c.loop-i.lanes.items _ left.0.lane _ new_lane left.0.there refl in
    record {
      due = due_step c.args.numbers.now c.loop-i.i _ c.loop-i.lanes.items c.give.new.self (add-one c.loop-i.i) c.loop-i-test.true c.loop-i.invariant.due;
      rest = rest_step c.args.numbers.now c.args.amounts.now c.loop-i.i _ c.loop-i.lanes.items c.index_mut.result.now c.give.new.self _ (add-one c.loop-i.i) c.loop-i-test.true c.requires.each (same ∙ sym here) c.give.ensures.given c.loop-i.invariant.rest;
    }
