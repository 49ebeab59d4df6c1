use Rattle.std.proofs.Common.{ℕ, ◌+◌, ◌∙◌, inl, [], Err, refl, ap, arith}
use Rattle.control_session.specs.Sessions.{nothing}
use Rattle.control_session.specs.Turns.{asked_as}
use Rattle.control_session.specs.declared.fault.ControlFault.{ControlFault}
use Rattle.control_session.proofs.Going.{of_err_ok, over_by, pick, second_to, went_more, went_none}
use Rattle.control_session.proofs.Listening.{no_turn_read, same_read}
use Rattle.control_session.proofs.hearing.converse.Goals as goal

pub returns-in_err-unless_lost-clause-went : goal.returns-in_err-unless_lost-clause-went
returns-in_err-unless_lost-clause-went g c =
    let rest = of_err_ok c.from_residual.result _ _ c.from_residual.ensures.0 ([], [], refl, c.requires.start) in
    ([], nothing, went_none _ _ _ _, omega arith, (λ is. absurd (c.in_err-unless_lost.ensures.other (same_read c.from_residual.result _ c.from_residual.ensures.1 is))), rest.0, rest.1)

pub returns-in_err-catch_up-clause-went : goal.returns-in_err-catch_up-clause-went
returns-in_err-catch_up-clause-went g c =
    let rest = of_err_ok c.from_residual-in_err-catch_up.result _ _ c.from_residual-in_err-catch_up.ensures.0 ([], [], refl, c.requires.start) in
    let first = c.catch_up.ensures.went [] nothing in
    ([], asked_as first.0 nothing, first.1, omega arith, (λ is. absurd (no_turn_read c.from_residual-in_err-catch_up.result _ c.from_residual-in_err-catch_up.ensures.1 is)), rest.0, rest.1)

pub loop-turn-init : goal.loop-turn-init
loop-turn-init g c = record {
  none = c.in_ok-catch_up.ensures.none;
  whole = c.in_ok-catch_up.ensures.whole;
  due = c.in_ok-catch_up.ensures.due;
  room = refl;
  far =
      let first = c.in_ok-catch_up.ensures.went [] nothing in
      ([], asked_as first.0 nothing, first.1, c.requires.start, refl, refl, second_to (λ now. (refl, now)) first.2);
}

pub returns-in_err-ended-clause-went : goal.returns-in_err-ended-clause-went
returns-in_err-ended-clause-went g c =
    let far = c.loop-turn.invariant.far in
    let both = pick _ _ far.6 c.if-talk.false in
    let now = c.in_err-ended.ensures.went far.0 far.1 both.0 far.3 far.5 both.1 in
    let rest = of_err_ok c.from_residual-in_err-ended.result _ _ c.from_residual-in_err-ended.ensures.0 now.6 in
    (now.0, now.1, went_more _ _ _ _ _ _ _ _ far.2 now.2, omega (arith, now.3, far.4, c.loop-turn-test.true), (λ is. inl (now.4 (ap (λ (f : ControlFault). Err f) (same_read c.from_residual-in_err-ended.result _ c.from_residual-in_err-ended.ensures.1 is)))), rest.0, rest.1)

pub returns-then-ended-clause-went : goal.returns-then-ended-clause-went
returns-then-ended-clause-went g c =
    let far = c.loop-turn.invariant.far in
    let both = pick _ _ far.6 c.if-talk.false in
    let now = c.in_ok-ended.ensures.went far.0 far.1 both.0 far.3 far.5 both.1 in (
      now.0,
      now.1,
      went_more _ _ _ _ _ _ _ _ far.2 now.2,
      omega (arith, now.3, far.4, c.loop-turn-test.true),
      (λ is. absurd (cc)),
      (now.5.1, over_by _ _ _ (second_to (λ all. all.0) now.5.2) (now.5.0 ∙ c.if-ended.true)),
      tt,
    )

pub loop-turn-preserved : goal.loop-turn-preserved
loop-turn-preserved g c =
    let far = c.loop-turn.invariant.far in
    let both = pick _ _ far.6 c.if-talk.false in
    let now = c.in_ok-ended.ensures.went far.0 far.1 both.0 far.3 far.5 both.1 in
    record {
      none = c.in_ok-ended.ensures.none;
      whole = c.in_ok-ended.ensures.whole;
      due = c.in_ok-ended.ensures.due;
      room = c.hear.ensures.buffer ∙ c.loop-turn.invariant.room;
      far = (
        now.0,
        now.1,
        went_more _ _ _ _ _ _ _ _ far.2 now.2,
        now.5.1,
        now.3 ∙ ap (λ (n : ℕ). n + 1) far.4,
        now.5.0 ∙ c.if-ended.false,
        second_to (λ all. (all.0, pick _ _ all.1 c.if-ended.false)) now.5.2,
      );
    }

pub returns-then-talk-2-clause-went : goal.returns-then-talk-2-clause-went
returns-then-talk-2-clause-went g c =
    let far = c.loop-turn.invariant.far in
    let both = pick _ _ far.6 c.if-talk.false in
    let now = c.in_ok-ended.ensures.went far.0 far.1 both.0 far.3 far.5 both.1 in
    (now.0, now.1, went_more _ _ _ _ _ _ _ _ far.2 now.2, omega (arith, now.3, far.4, c.loop-turn-test.true), (λ is. absurd (cc)), (now.5.1, inl c.if-talk-2.true), tt)

pub hear-requires-clause-due : goal.hear-requires-clause-due
hear-requires-clause-due g c = pick _ _ c.loop-turn.invariant.due c.if-talk.false
