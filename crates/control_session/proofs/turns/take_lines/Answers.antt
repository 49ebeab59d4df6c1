use Rattle.std.proofs.Common.{◌∙◌, inl, inr, List, [], ◌∷◌, ◌++◌, refl, sym, ap, subst, append_assoc, true}
use Rattle.std.proofs.lemmas.List.{append-nil}
use Rattle.std.specs.Vec.Iter.{into_iter_items}
use Rattle.ftp_wire.specs.Items.{Item}
use Rattle.ftp_wire.specs.Reading.{item_of, items_of}
use Rattle.control_session.specs.Rows.{IsRow}
use Rattle.control_session.specs.Standing.{stand}
use Rattle.control_session.specs.Turns.{Went, WhileOpen, asked_as}
use Rattle.control_session.proofs.Going.{off_ok, pick, went_more}
use Rattle.control_session.proofs.Turning.{asked_went}
use Rattle.control_session.proofs.turns.take_lines.Goals as goal

pub returns-in_err-catch_up-clause-went : goal.returns-in_err-catch_up-clause-went
returns-in_err-catch_up-clause-went g c taken heard is =
    let first = c.catch_up.ensures.went taken heard in
    (taken, first.0, first.1, off_ok c.from_residual.result _ c.from_residual.ensures.0)

pub returns-then-talk-clause-went : goal.returns-then-talk-clause-went
returns-then-talk-clause-went g c taken heard is =
    let first = c.in_ok-catch_up.ensures.went taken heard in
    (taken, first.0, first.1, inl c.if-talk.true)

pub loop-item-init : goal.loop-item-init
loop-item-init g c = record {
  none = c.in_ok-catch_up.ensures.none;
  whole = c.in_ok-catch_up.ensures.whole;
  live = c.if-talk.false;
  due = pick _ _ c.in_ok-catch_up.ensures.due c.if-talk.false;
  went = λ taken heard is.
      let first = c.in_ok-catch_up.ensures.went taken heard in
      (taken, is ∙ ap (λ (x : List _). taken ++ items_of x) (sym c.into_iter-left.ensures.rest), asked_went _ _ _ _ _ _ _ taken heard _ _ first.0 (pick _ _ first.2 c.if-talk.false) first.1);
}

pub loop-item-preserved : goal.loop-item-preserved
loop-item-preserved g c =
    let inv = c.loop-item.invariant in
    record {
      none = c.in_ok-take_line.ensures.none;
      whole = c.in_ok-take_line.ensures.whole;
      live = c.if-talk-2.false;
      due = pick _ _ c.in_ok-take_line.ensures.due c.if-talk-2.false;
      went = λ taken heard is.
          let far = inv.went taken heard is in
          let rest = items_of (into_iter_items c.next_of.new.left) in
          let items = far.1 ∙ ap (λ (x : List _). far.0 ++ items_of x) c.in-Some.ensures.first in
          let line = c.in_ok-take_line.ensures.went far.0 rest (asked_as true heard) items refl in
          let both = pick _ _ line.3 c.if-talk-2.false in (
            far.0 ++ (item_of c.in-Some.item ∷ []),
            items ∙ sym (append_assoc far.0 (item_of c.in-Some.item ∷ []) rest),
            asked_went _ _ _ _ _ _ _ (far.0 ++ (item_of c.in-Some.item ∷ [])) heard _ _ line.1 both.1
                (subst (λ (x : List Item). Went (WhileOpen (IsRow {A = g.row.A.Denot} g.H.Host.Step)) g.H.Host.Does c.args.host.now (stand c.args.talk.now taken heard) c.take_line.new.host (stand c.take_line.new.talk x (asked_as line.1 heard)))
                both.0 (went_more _ _ _ _ _ _ _ _ far.2 line.2)),
          );
    }

pub returns-in_err-take_line-clause-went : goal.returns-in_err-take_line-clause-went
returns-in_err-take_line-clause-went g c taken heard is =
    let far = c.loop-item.invariant.went taken heard is in
    let line = c.take_line.ensures.went far.0 (items_of (into_iter_items c.next_of.new.left)) (asked_as true heard) (far.1 ∙ ap (λ (x : List _). far.0 ++ items_of x) c.in-Some.ensures.first) refl in
    (line.0, line.1, went_more _ _ _ _ _ _ _ _ far.2 line.2, off_ok c.from_residual-in_err-take_line.result _ c.from_residual-in_err-take_line.ensures.0)

pub returns-in_err-take_line-clause-due : goal.returns-in_err-take_line-clause-due
returns-in_err-take_line-clause-due g c = off_ok c.from_residual-in_err-take_line.result _ c.from_residual-in_err-take_line.ensures.0

pub returns-in_err-catch_up-clause-due : goal.returns-in_err-catch_up-clause-due
returns-in_err-catch_up-clause-due g c = off_ok c.from_residual.result _ c.from_residual.ensures.0

pub returns-then-talk-2-clause-went : goal.returns-then-talk-2-clause-went
returns-then-talk-2-clause-went g c taken heard is =
    let far = c.loop-item.invariant.went taken heard is in
    let line = c.in_ok-take_line.ensures.went far.0 (items_of (into_iter_items c.next_of.new.left)) (asked_as true heard) (far.1 ∙ ap (λ (x : List _). far.0 ++ items_of x) c.in-Some.ensures.first) refl in
    (line.0, line.1, went_more _ _ _ _ _ _ _ _ far.2 line.2, inl c.if-talk-2.true)

pub returns-clause-went : goal.returns-clause-went
returns-clause-went g c taken heard is =
    let far = c.loop-item.invariant.went taken heard is in
    (far.0, true, far.2, inr (far.1 ∙ (ap (λ (x : List _). far.0 ++ items_of x) c.in_default.ensures.first ∙ append-nil far.0), refl))

pub returns-then-talk-clause-due : goal.returns-then-talk-clause-due
returns-then-talk-clause-due g c = inl c.if-talk.true

pub returns-then-talk-2-clause-due : goal.returns-then-talk-2-clause-due
returns-then-talk-2-clause-due g c = inl c.if-talk-2.true

pub returns-clause-due : goal.returns-clause-due
returns-clause-due g c = inr c.loop-item.invariant.due
