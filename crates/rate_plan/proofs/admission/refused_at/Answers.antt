use Rattle.std.proofs.Common.{◌+◌, ◌∙◌, refl}
use Rattle.rate_plan.proofs.AdmitLemmas.{admitted_next, after_next}
use Rattle.rate_plan.proofs.admission.refused_at.Goals as goal

pub returns-then-not-admit : goal.returns-then-not-admit
returns-then-not-admit g c = record {
  admitted = record {
    within = c.loop-place-test.true;
    before = c.loop-place.invariant.admitted;
    at = admitted_next c.args.floors.now c.args.transfers.now c.loop-place.place (c.loop-place.place + 1) _ c.loop-place.floors c.admit.result refl c.loop-place-test.true c.loop-place.invariant.admitted c.loop-place.invariant.after c.admit.ensures.admits ∙ c.if-not-admit.true;
  };
}

pub loop-place-preserved : goal.loop-place-preserved
loop-place-preserved g c = record {
  admitted = admitted_next c.args.floors.now c.args.transfers.now c.loop-place.place (c.loop-place.place + 1) _ c.loop-place.floors c.admit.result refl c.loop-place-test.true c.loop-place.invariant.admitted c.loop-place.invariant.after c.admit.ensures.admits ∙ c.if-not-admit.false;
  after = after_next c.args.floors.now c.args.transfers.now c.loop-place.place (c.loop-place.place + 1) _ c.loop-place.floors c.admit.new.self refl c.loop-place-test.true c.loop-place.invariant.after c.admit.ensures.counted;
}
