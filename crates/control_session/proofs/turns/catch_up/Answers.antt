use Rattle.std.proofs.Common.{inr, refl, true}
use Rattle.control_session.specs.Turns.{asked_as}
use Rattle.control_session.proofs.Going.{off_ok, pick, went_more}
use Rattle.control_session.proofs.Turning.{held_less}
use Rattle.control_session.proofs.turns.catch_up.Goals as goal

pub returns-in_err-look-clause-went : goal.returns-in_err-look-clause-went
returns-in_err-look-clause-went g c taken heard = (true, c.look.ensures.went taken heard, off_ok c.from_residual.result _ c.from_residual.ensures.0)

pub loop-host-init : goal.loop-host-init
loop-host-init g c = record {
  none = c.in_ok-look.ensures.none;
  whole = c.in_ok-look.ensures.whole;
  went = λ taken heard. (true, c.in_ok-look.ensures.went taken heard, inr refl);
}

pub returns-in_err-take_held-clause-went : goal.returns-in_err-take_held-clause-went
returns-in_err-take_held-clause-went g c taken heard =
    let far = c.loop-host.invariant.went taken heard in
    let held = c.take_held.ensures.went taken (asked_as far.0 heard) (pick _ _ far.2 (c.takes_held.ensures.open c.loop-host-test.true)) in
    (held.0, went_more _ _ _ _ _ _ _ _ far.1 held.1, off_ok c.from_residual-in_err-take_held.result _ c.from_residual-in_err-take_held.ensures.0)

pub loop-host-preserved : goal.loop-host-preserved
loop-host-preserved g c = record {
  none = c.in_ok-take_held.ensures.none;
  whole = c.in_ok-take_held.ensures.whole;
  went = λ taken heard.
      let far = c.loop-host.invariant.went taken heard in
      let held = c.in_ok-take_held.ensures.went taken (asked_as far.0 heard) (pick _ _ far.2 (c.takes_held.ensures.open c.loop-host-test.true)) in
      (held.0, went_more _ _ _ _ _ _ _ _ far.1 held.1, held.2);
}

pub returns-clause-went : goal.returns-clause-went
returns-clause-went g c taken heard = c.loop-host.invariant.went taken heard

pub returns-clause-due : goal.returns-clause-due
returns-clause-due g c = c.takes_held.ensures.none c.loop-host-test.false

pub loop-host-smaller : goal.loop-host-smaller
loop-host-smaller g c =
    held_less c.loop-host.talk.closed c.take_held.new.talk.closed c.loop-host.talk.session c.take_held.new.talk.session (c.takes_held.ensures.open c.loop-host-test.true) c.in_ok-take_held.ensures.held
