use Rattle.std.proofs.Common.{◌≡◌, arith, refl, ◌<◌, length, true, sym, ◌∙◌, ap}
use Rattle.world_terms.specs.Decisions.{AllPosted}
use Rattle.world_terms.specs.Steps.{lane_of}
use Rattle.share_world.specs.Performed.{is_collect}
use Rattle.share_world.proofs.Asking.{all_left, none_left}
use Rattle.share_world.proofs.Performing.{books_at, not_posted, perform_seen}
use Rattle.share_world.proofs.world.World.perform.Goals as goal
use Rattle.share_world.proofs.world.World.perform.Goals.{else-is_collect-via-then-is_collect+else-not-all_posted, else-is_collect-via-else-is_collect}
use Rattle.share_world.proofs.Sharing.{set_length}

pub returns-then-not-all_posted-clause-step : goal.returns-then-not-all_posted-clause-step
returns-then-not-all_posted-clause-step g c =
    let lanes : c.self.inside.lanes.items ≡ c.args.self.now.world.lanes = ap (λ s. s.world.lanes) c.self.view_is in
    let here : c.lane_of-lane.result < length c.self.inside.lanes.items = omega arith in
    let less : lane_of c.args.event < length c.args.self.now.world.lanes = omega (arith, ap length lanes, c.lane_of-lane.ensures.lane) in (
      refl,
      not_posted c.args.self.now.rates c.args.self.now.world c.args.event (sym c.is_collect.ensures.collect ∙ c.if-is_collect.true) less
          (none_left c.deref.result.now c.args.self.now.world.lanes c.all_posted.result c.all_posted.ensures.posted.1 c.if-not-all_posted.true (c.deref.ensures.value ∙ lanes)),
    )

pub invariant_of-self : goal.invariant_of-self
invariant_of-self g c =
    let less : c.lane_of-lane.result < length c.self.inside.lanes.items = omega arith in
    record {
      booked = books_at c.args.event c.perform.result c.self.inside.lanes.items c.lane_of-lane.result c.self.inside.issued c.index_mut.result.now c.perform.new.self less c.index_mut.ensures.value c.perform.ensures.sound c.perform.ensures.perform c.self.invariant.booked;
      few = omega (arith, set_length c.self.inside.lanes.items c.lane_of-lane.result c.perform.new.self, c.self.invariant.few);
    }

pub returns-clause-step : goal.returns-clause-step
returns-clause-step g c =
    let less : c.lane_of-lane.result < length c.self.inside.lanes.items = omega arith in
    let ready : is_collect c.args.event ≡ true → AllPosted c.self.inside.lanes.items = elim c.else-is_collect.branch [
      | else-is_collect-via-then-is_collect+else-not-all_posted w ↦ λ e. all_left w.deref.result.now c.self.inside.lanes.items w.all_posted.result w.all_posted.ensures.posted.0 w.if-not-all_posted.false w.deref.ensures.value
      | else-is_collect-via-else-is_collect w ↦ λ e. absurd (cc)
    ] in
    perform_seen c.self.inside.limits c.self.inside.lanes.items c.self.inside.last_tick c.self.inside.issued c.args.self.now c.args.event c.perform.result c.lane_of-lane.result c.index_mut.result.now c.perform.new.self
    c.self.view_is c.lane_of-lane.ensures.lane less c.index_mut.ensures.value c.requires.lanes ready c.perform.ensures.perform
