use Rattle.std.proofs.Common.{ap, inl, [], ◌∷◌, ◌++◌, refl}
use Rattle.control_session.specs.Sides.{came_of}
use Rattle.control_session.specs.Turns.{asked_as}
use Rattle.ftp_wire.specs.Reading.{item_of}
use Rattle.control_session.proofs.Going.{off_ok, on_ok_to, pick, second_to, went_more}
use Rattle.control_session.proofs.Turning.{line_went}
use Rattle.control_session.proofs.turns.take_line.Goals as goal

pub returns-in_err-turn-clause-went : goal.returns-in_err-turn-clause-went
returns-in_err-turn-clause-went g c taken rest heard is asked =
    let none = ap came_of c.requires.none in
    let line = c.turn.ensures.went (came_of c.args.talk.now.came) taken heard (taken ++ (item_of c.args.item ∷ [])) ((none, asked, c.requires.due), c.requires.live, (rest, is), none, refl) in
    let behind = line_went _ _ _ _ _ _ _ line.0 heard line.1 _ _ line.5 line.2 in
    (line.0, behind.0, behind.1, off_ok c.from_residual.result _ c.from_residual.ensures.0)

pub returns-then-talk-clause-went : goal.returns-then-talk-clause-went
returns-then-talk-clause-went g c taken rest heard is asked =
    let none = ap came_of c.requires.none in
    let line = c.in_ok-turn.ensures.went (came_of c.args.talk.now.came) taken heard (taken ++ (item_of c.args.item ∷ [])) ((none, asked, c.requires.due), c.requires.live, (rest, is), none, refl) in
    let behind = line_went _ _ _ _ _ _ _ line.0 heard line.1 _ _ line.5 line.2 in
    (line.0, behind.0, behind.1, inl c.if-talk.true)

pub returns-then-talk-clause-due : goal.returns-then-talk-clause-due
returns-then-talk-clause-due g c = inl c.if-talk.true

pub returns-clause-went : goal.returns-clause-went
returns-clause-went g c taken rest heard is asked =
    let none = ap came_of c.requires.none in
    let line = c.in_ok-turn.ensures.went (came_of c.args.talk.now.came) taken heard (taken ++ (item_of c.args.item ∷ [])) ((none, asked, c.requires.due), c.requires.live, (rest, is), none, refl) in
    let behind = line_went _ _ _ _ _ _ _ line.0 heard line.1 _ _ line.5 line.2 in
    let more = c.catch_up.ensures.went line.0 (asked_as behind.0 heard) in
    (line.0, more.0, went_more _ _ _ _ _ _ _ _ behind.1 more.1, on_ok_to c.catch_up.result _ _ (second_to (λ now. (pick _ _ line.4 c.if-talk.false, now))) more.2)
