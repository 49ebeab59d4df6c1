use Rattle.std.proofs.Common.{◌∙◌, ap, sym}
use Rattle.control_session.specs.Sides.{came_of, given_of}
use Rattle.control_session.proofs.Events.{event_is}
use Rattle.control_session.proofs.Turning.{end_went}
use Rattle.control_session.proofs.closing.end.Goals as goal

pub returns-in-Some-clause-went : goal.returns-in-Some-clause-went
returns-in-Some-clause-went g c taken heard owes closed lost =
    let event = event_is c.in-Some.event c.in-Some.ensures.event in
    end_went _ _ _ _ _ _ _ (given_of c.in-Some.event) event.0 taken heard owes closed lost (sym c.only_event.ensures.same ∙ ap came_of c.in-Some.is ∙ event.1) event.2 c.end.ensures.row
