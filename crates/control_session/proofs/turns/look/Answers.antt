use Rattle.std.proofs.Common.{◌≡◌, ◌⊎◌, ◌∙◌, ap, inr, List, [], Option, OnOk, Some, refl, subst, sym, true, arith}
use Rattle.ftp_wire.specs.Items.{Item}
use Rattle.control_session.specs.Calls.HostCall.{Asked}
use Rattle.control_session.specs.Sides.{SideEvent, came_of}
use Rattle.control_session.specs.Sides.SideCall.{Looks}
use Rattle.control_session.specs.Turns.{asked_as, at}
use Rattle.control_session.proofs.Events.{event_is}
use Rattle.control_session.proofs.Going.{on_ok_to}
use Rattle.control_session.proofs.Turning.{came_next, fewer_came, looked_none, looked_some}
use Rattle.control_session.proofs.turns.look.Goals as goal

pub returns-in-None-clause-went : goal.returns-in-None-clause-went
returns-in-None-clause-went g c taken heard =
    looked_none _ _ _ _ _ _ taken heard _ _ c.requires.live (ap came_of c.requires.none)
    (subst (λ (e : Option (SideEvent _)). g.H.Host.Does c.args.host.now (Asked (Looks e)) c.look.new.self) (sym c.only_event.ensures.same ∙ ap came_of c.in-None.is) c.look.ensures)

pub returns-in-None-clause-held : goal.returns-in-None-clause-held
returns-in-None-clause-held g c = inr (omega arith)

pub returns-in-Some-clause-went : goal.returns-in-Some-clause-went
returns-in-Some-clause-went g c taken heard =
    let event = event_is c.in-Some.event c.in-Some.ensures.event in
    looked_some _ _ _ c.look.new.self _ _ _ _ _ event.0 taken heard _ _ _ _ (λ (last : List Item). OnOk c.turn.result ((c.turn.new.talk.closed ≡ true) ⊎ (last ≡ taken))) _
    c.requires.live event.2 (ap came_of c.requires.none) (subst (λ (e : Option (SideEvent _)). g.H.Host.Does c.args.host.now (Asked (Looks e)) c.look.new.self) (sym c.only_event.ensures.same ∙ ap came_of c.in-Some.is ∙ event.1) c.look.ensures)
    (c.turn.ensures.went (Some event.0) taken (asked_as true heard) taken
    (came_next (at c.args.talk.now.session (Some event.0) taken (asked_as true heard) [] c.args.talk.now.closed c.args.talk.now.lost) event.0 c.in-Some.event _ event.2 refl (ap came_of c.requires.none)))

pub returns-in-Some-clause-held : goal.returns-in-Some-clause-held
returns-in-Some-clause-held g c =
    let event = event_is c.in-Some.event c.in-Some.ensures.event in
    on_ok_to c.turn.result _ _ (fewer_came _ event.0 _ _ event.2) c.turn.ensures.held
