use Rattle.std.proofs.Common.{ℕ, ◌+◌, ◌∙◌, inl, inr, List, [], ◌++◌, true, false, take, refl, sym, ap, subst}
use Rattle.std.proofs.lemmas.List.{append-nil}
use Rattle.control_session.specs.declared.host.Piece.TheVariants.{Octets, Nothing, AtEnd}
use Rattle.control_session.specs.Sides.{came_of}
use Rattle.control_session.specs.Turns.{asked_as}
use Rattle.control_session.proofs.Going.{heard_as, of_err, second_to, went_more}
use Rattle.control_session.proofs.Turning.{ends_went, fails_went, reads_went}
use Rattle.ftp_wire.specs.Items.{Item}
use Rattle.ftp_wire.specs.Reading.{HasRead, items_of}
use Rattle.control_session.proofs.Listening.{more, no_memory_read, no_turn_read, nothing_more}
use Rattle.control_session.proofs.hearing.hear.Goals as goal

pub returns-in-Err-clause-went : goal.returns-in-Err-clause-went
returns-in-Err-clause-went g c taken heard all has unended asked = (
  taken,
  record heard { reads = heard.reads + 1; failed = true; asked = false },
  fails_went _ _ _ _ _ _ taken heard [] _ _ (ap came_of c.requires.none, asked, c.requires.due) c.requires.live unended c.in-Err.ensures.did,
  refl,
  (λ is. refl),
  tt,
  (heard.octets, [], sym (append-nil heard.octets), has),
)

pub returns-in_err-items-in-Octets-clause-went : goal.returns-in_err-items-in-Octets-clause-went
returns-in_err-items-in-Octets-clause-went g c taken heard all has unended asked =
    let octets = take c.in-Octets.count c.read.new.buffer in
    let did = heard_as g.H.Host.Does _ _ c.read.new.buffer _ (Octets c.in-Octets.count) c.in-Octets.is c.in-Ok.ensures.did in
    let rest = of_err c.from_residual.result _ _ c.from_residual.ensures.0 (
      heard.octets,
      octets,
      refl,
      subst (λ (x : List Item). HasRead heard.octets x c.feed.new.self) (sym (append-nil heard.items))
          (subst (λ (x : _). HasRead heard.octets heard.items x) (sym c.in_err-items-in-Octets.ensures.unchanged) has),
    ) in (
      taken,
      more heard octets [],
      reads_went _ _ _ _ _ _ taken heard [] _ _ octets [] (ap came_of c.requires.none, asked, c.requires.due) c.requires.live unended did,
      refl,
      (λ is. absurd (no_memory_read c.from_residual.result c.from_residual.ensures.1 is)),
      rest.0,
      rest.1,
    )

pub returns-in_err-take_lines-in-Octets-clause-went : goal.returns-in_err-take_lines-in-Octets-clause-went
returns-in_err-take_lines-in-Octets-clause-went g c taken heard all has unended asked =
    let octets = take c.in-Octets.count c.read.new.buffer in
    let found = items_of c.in_ok-items-in-Octets.items.items in
    let did = heard_as g.H.Host.Does _ _ c.read.new.buffer _ (Octets c.in-Octets.count) c.in-Octets.is c.in-Ok.ensures.did in
    let lines = c.take_lines.ensures.went taken (more heard octets found) (ap (λ (x : List Item). x ++ found) all) in
    let rest = of_err c.from_residual-in_err-take_lines-in-Octets.result _ _ c.from_residual-in_err-take_lines-in-Octets.ensures.0
    (heard.octets ++ octets, [], sym (append-nil (heard.octets ++ octets)), c.in_ok-items-in-Octets.ensures.reads heard.octets heard.items has) in (
      lines.0,
      asked_as lines.1 (more heard octets found),
      went_more _ _ _ _ _ _ _ _ (reads_went _ _ _ _ _ _ taken heard [] _ _ octets found (ap came_of c.requires.none, asked, c.requires.due) c.requires.live unended did) lines.2,
      refl,
      (λ is. absurd (no_turn_read c.from_residual-in_err-take_lines-in-Octets.result _ c.from_residual-in_err-take_lines-in-Octets.ensures.1 is)),
      rest.0,
      rest.1,
    )

pub returns-in_ok-take_lines-in-Octets-clause-went : goal.returns-in_ok-take_lines-in-Octets-clause-went
returns-in_ok-take_lines-in-Octets-clause-went g c taken heard all has unended asked =
    let octets = take c.in-Octets.count c.read.new.buffer in
    let found = items_of c.in_ok-items-in-Octets.items.items in
    let did = heard_as g.H.Host.Does _ _ c.read.new.buffer _ (Octets c.in-Octets.count) c.in-Octets.is c.in-Ok.ensures.did in
    let lines = c.in_ok-take_lines-in-Octets.ensures.went taken (more heard octets found) (ap (λ (x : List Item). x ++ found) all) in (
      lines.0,
      asked_as lines.1 (more heard octets found),
      went_more _ _ _ _ _ _ _ _ (reads_went _ _ _ _ _ _ taken heard [] _ _ octets found (ap came_of c.requires.none, asked, c.requires.due) c.requires.live unended did) lines.2,
      refl,
      (λ is. absurd (cc)),
      (unended, c.in_ok-items-in-Octets.ensures.reads heard.octets heard.items has, second_to (λ both. (both.0, inr both.1)) lines.3),
      tt,
    )

pub returns-in_err-catch_up-in-Nothing-clause-went : goal.returns-in_err-catch_up-in-Nothing-clause-went
returns-in_err-catch_up-in-Nothing-clause-went g c taken heard all has unended asked =
    let did = heard_as g.H.Host.Does _ _ c.read.new.buffer _ Nothing c.in-Nothing.is c.in-Ok.ensures.did in
    let first = c.catch_up.ensures.went taken (more heard [] []) in
    let rest = of_err c.from_residual-in_err-catch_up-in-Nothing.result _ _ c.from_residual-in_err-catch_up-in-Nothing.ensures.0 (heard.octets, [], refl, nothing_more heard c.args.lines.now has) in (
      taken,
      asked_as first.0 (more heard [] []),
      went_more _ _ _ _ _ _ _ _ (reads_went _ _ _ _ _ _ taken heard [] _ _ [] [] (ap came_of c.requires.none, asked, c.requires.due) c.requires.live unended did) first.1,
      refl,
      (λ is. absurd (no_turn_read c.from_residual-in_err-catch_up-in-Nothing.result _ c.from_residual-in_err-catch_up-in-Nothing.ensures.1 is)),
      rest.0,
      rest.1,
    )

pub returns-in_ok-catch_up-in-Nothing-clause-went : goal.returns-in_ok-catch_up-in-Nothing-clause-went
returns-in_ok-catch_up-in-Nothing-clause-went g c taken heard all has unended asked =
    let did = heard_as g.H.Host.Does _ _ c.read.new.buffer _ Nothing c.in-Nothing.is c.in-Ok.ensures.did in
    let first = c.in_ok-catch_up-in-Nothing.ensures.went taken (more heard [] []) in (
      taken,
      asked_as first.0 (more heard [] []),
      went_more _ _ _ _ _ _ _ _ (reads_went _ _ _ _ _ _ taken heard [] _ _ [] [] (ap came_of c.requires.none, asked, c.requires.due) c.requires.live unended did) first.1,
      refl,
      (λ is. absurd (cc)),
      (
        unended,
        subst (λ (x : List ℕ). HasRead x (heard.items ++ []) c.args.lines.now) (sym (append-nil heard.octets)) (nothing_more heard c.args.lines.now has),
        second_to (λ now. (append-nil heard.items ∙ all, inr now)) first.2,
      ),
      tt,
    )

pub returns-in-AtEnd-clause-went : goal.returns-in-AtEnd-clause-went
returns-in-AtEnd-clause-went g c taken heard all has unended asked =
    let did = heard_as g.H.Host.Does _ _ c.read.new.buffer _ AtEnd c.in-AtEnd.is c.in-Ok.ensures.did in (
      taken,
      record heard { reads = heard.reads + 1; ended = true; asked = false },
      ends_went _ _ _ _ _ _ taken heard [] _ _ (ap came_of c.requires.none, asked, c.requires.due) c.requires.live unended did,
      refl,
      (λ is. absurd (cc)),
      (refl, has, inr (all, inl refl)),
      tt,
    )
