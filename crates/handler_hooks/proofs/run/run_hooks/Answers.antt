use Rattle.std.proofs.Common.{◌≡◌, ◌∙◌, ◌∷◌, ◌+◌, drop, get_or, sym, ap, subst, refl, add-one, drop-cons}
use Rattle.std.proofs.lemmas.List.{drop_all}
use Rattle.handler_hooks.specs.Events.{AllLeave}
use Rattle.handler_hooks.proofs.run.run_hooks.Goals as goal

pub loop-action-preserved : goal.loop-action-preserved
loop-action-preserved g c = λ end rest.
    let i = c.loop-action.action-index in
    let actions = c.args.actions.now in
    let action = c.action-item.result in
    let first : drop i actions ≡ action ∷ drop (i + 1) actions =
    drop-cons actions i action c.loop-action-test.true
    ∙ ap (λ j. get_or actions i action ∷ drop j actions) (sym (add-one i))
    ∙ ap (λ x. x ∷ drop (i + 1) actions) (sym c.action-item.is) in
    c.loop-action.invariant end
    (subst (λ xs. AllLeave g.H.Hooks.Reported c.loop-action.hooks xs end) (sym first)
    (c.report_action.new.hooks, c.report_action.ensures.left, rest))

pub returns : goal.returns
returns g c = record {
  left =
      c.loop-action.invariant c.loop-action.hooks
      (subst (λ xs. AllLeave g.H.Hooks.Reported c.loop-action.hooks xs c.loop-action.hooks)
      (sym (drop_all c.loop-action.action-index c.args.actions.now c.loop-action-test.false)) refl);
}
