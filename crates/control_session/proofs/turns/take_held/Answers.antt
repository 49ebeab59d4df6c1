use Rattle.std.proofs.Common.{◌≡◌, ◌⊎◌, ap, inl, inr, List, OnOk, refl, true}
use Rattle.ftp_wire.specs.Items.{Item}
use Rattle.control_session.specs.Sides.{came_of}
use Rattle.control_session.specs.Turns.{asked_as}
use Rattle.control_session.proofs.Going.{any_ok, off_ok, on_ok_to, went_more}
use Rattle.control_session.proofs.Turning.{fewer_held, held_went}
use Rattle.control_session.proofs.turns.take_held.Goals as goal

pub returns-in_err-turn-clause-went : goal.returns-in_err-turn-clause-went
returns-in_err-turn-clause-went g c taken heard asked =
    let none = ap came_of c.requires.none in
    let held = held_went _ _ _ _ _ _ _ taken heard _ _ (λ (last : List Item). OnOk c.turn.result ((c.turn.new.talk.closed ≡ true) ⊎ (last ≡ taken)))
    (c.turn.ensures.went (came_of c.args.talk.now.came) taken heard taken (none, asked, c.requires.due, c.requires.live, none, refl)) in
    (held.0, held.1, off_ok c.from_residual.result _ c.from_residual.ensures.0)

pub returns-then-talk-clause-went : goal.returns-then-talk-clause-went
returns-then-talk-clause-went g c taken heard asked =
    let none = ap came_of c.requires.none in
    let held = held_went _ _ _ _ _ _ _ taken heard _ _ (λ (last : List Item). OnOk c.turn.result ((c.turn.new.talk.closed ≡ true) ⊎ (last ≡ taken)))
    (c.turn.ensures.went (came_of c.args.talk.now.came) taken heard taken (none, asked, c.requires.due, c.requires.live, none, refl)) in
    (held.0, held.1, inl c.if-talk.true)

pub returns-then-talk-clause-held : goal.returns-then-talk-clause-held
returns-then-talk-clause-held g c = inl c.if-talk.true

pub returns-clause-went : goal.returns-clause-went
returns-clause-went g c taken heard asked =
    let none = ap came_of c.requires.none in
    let held = held_went _ _ _ _ _ _ _ taken heard _ _ (λ (last : List Item). OnOk c.turn.result ((c.turn.new.talk.closed ≡ true) ⊎ (last ≡ taken)))
    (c.turn.ensures.went (came_of c.args.talk.now.came) taken heard taken (none, asked, c.requires.due, c.requires.live, none, refl)) in
    (true, went_more _ _ _ _ _ _ _ _ held.1 (c.look.ensures.went taken (asked_as held.0 heard)), any_ok c.look.result _ (inr refl))

pub returns-clause-held : goal.returns-clause-held
returns-clause-held g c =
    on_ok_to c.look.result _ _ (fewer_held c.turn.new.talk.closed c.look.new.talk.closed c.args.talk.now.session c.turn.new.talk.session c.look.new.talk.session c.requires.due c.if-talk.false c.in_ok-turn.ensures.held) c.look.ensures.held
