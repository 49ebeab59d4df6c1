use Rattle.std.proofs.Common.{◌∙◌, inl, inr, refl}
use Rattle.control_session.specs.Rows.{IsRow}
use Rattle.control_session.specs.Sides.{back_in, given_of}
use Rattle.control_session.specs.Turns.{behind}
use Rattle.control_session.proofs.Going.{any_ok, on_ok_to, stays_or}
use Rattle.control_session.proofs.Steps.{row_holds}
use Rattle.control_session.proofs.Turning.{acts_went, refused_open, unmade_went}
use Rattle.control_session.proofs.turns.turn.Goals as goal

pub returns-in-Err-clause-went : goal.returns-in-Err-clause-went
returns-in-Err-clause-went g c came taken heard taken' next = (
  taken,
  heard,
  unmade_went _ _ _ _ _ _ came c.args.talk.now.came _ taken taken' heard _ _ _ _ c.args.input c.in-Err.why next c.requires.live (c.unmade.ensures.session ∙ c.in-Err.ensures.unchanged)
      (refused_open {A = g.row.A.Denot} {R = g.row.H-Source.Denot} (IsRow {A = g.row.A.Denot} {R = g.row.H-Source.Denot} g.H.Host.Step) g.H.Host.Does _ _ _ (back_in c.args.input) c.in-Err.why _ c.requires.live c.in-Err.ensures.refused) c.unmade.ensures.left,
  inl refl,
  on_ok_to c.unmade.result _ _ (λ is. inl is) c.unmade.ensures.closed,
  inl refl,
)

pub returns-in-Err-clause-held : goal.returns-in-Err-clause-held
returns-in-Err-clause-held g c = on_ok_to c.unmade.result _ _ (λ is. inl is) c.unmade.ensures.closed

pub returns-clause-went : goal.returns-clause-went
returns-clause-went g c came taken heard taken' next =
    let row = c.in-Ok.ensures.row in (
      taken',
      behind (given_of c.args.input) heard,
      acts_went _ _ _ _ _ _ _ came _ taken taken' heard _ _ _ _ _ _ c.in-Ok.actions.items _ next (row.0, row.1, row.2, row.3, row.4, row.5, row.6, (c.requires.live, row.7)) c.carry_out-talk.ensures.carries c.either-talk.ensures c.closes.ensures.closes c.deref.ensures.value,
      inr refl,
      any_ok c.ended.result _ (inr refl),
      inr refl,
    )

pub returns-clause-stays : goal.returns-clause-stays
returns-clause-stays g c is = stays_or _ _ _ c.either-talk.ensures is

pub returns-clause-held : goal.returns-clause-held
returns-clause-held g c = any_ok c.ended.result _ (inr (row_holds _ _ _ _ _ _ _ _ _ _ _ c.in-Ok.ensures.row.7))
