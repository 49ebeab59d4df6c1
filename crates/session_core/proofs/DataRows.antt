-- What comes of the data side, and the end of the control connection, as rows of the table.
use Rattle.std.proofs.Common.{◌≡◌, ◌∙◌, ◌&&◌, ℕ, Bool, true, false, cond, not, List, [], ◌∷◌, ◌++◌, Option, Some, None, refl, sym, ap, subst}
use Rattle.authorizer.specs.Users.{Users}
use Rattle.ftp_wire.specs.Items.{Item}
use Rattle.rate_floors.specs.Promises.{Promises}
use Rattle.virtual_tree.specs.Calls.{Exchange}
use Rattle.session_events.specs.Leaving.{leaving_actions, left_by, logout_actions}
use Rattle.session_events.specs.declared.closing.Leaving.{Leaving}
use Rattle.session_events.specs.declared.closing.LoggedOut.{LoggedOut}
use Rattle.session_table.specs.declared.actions.Action.{Action}
use Rattle.session_table.specs.declared.actions.Action.TheVariants as action
use Rattle.session_table.specs.declared.actions.HookCall.TheVariants as hook
use Rattle.session_table.specs.declared.inputs.End.{End}
use Rattle.session_table.specs.declared.inputs.Input.TheVariants as input
use Rattle.session_table.specs.declared.stages.Stage.TheVariants as stage
use Rattle.session_table.specs.Plans.{RanByStore}
use Rattle.session_table.specs.Plans.Plan.{Then}
use Rattle.session_table.specs.Steps.{SessionStep}
use Rattle.session_table.specs.Table.{aborts, beside, closed_at, closed_row, ended_row, idle, ready_at, ready_row}
use Rattle.session_table.specs.Views.{View, is_closed, is_closing, is_inside, runs}
use Rattle.session_core.proofs.Plans.{ran_then, step_by}

module _ {S A R K : Type 0} (Step : S → Exchange R K → S → Type 0) (users : Users) (promises : Promises) (view after : View) (held : List Item) (moment : ℕ) where
  pub end_step : (end : End) (sink : Option K) (old new : S) (actions : List (Action A R K)) → RanByStore Step (ended_row users view moment end sink) old new after actions
      → SessionStep Step users view held moment (input.TransferEnded end sink) old new promises promises after held actions
  end_step end sink old new actions ran = step_by Step users view held moment (input.TransferEnded end sink) (beside held (ended_row users view moment end sink)) old new promises promises after held actions
      refl (ran promises) refl

  pub ready_step : (port : Option ℕ) (store : S) (kept : List Item) (actions : List (Action A R K)) → Then after actions ≡ ready_at users view port → kept ≡ held
      → SessionStep Step users view held moment (input.DataReady port) store store promises promises after kept actions
  ready_step port store kept actions is same = step_by Step users view held moment (input.DataReady port) (beside held (ready_at users view port)) store store promises promises after kept actions
      refl (ran_then Step (ready_at users view port) after actions store promises is) same

  pub closed_step : (store : S) (actions : List (Action A R K)) → Then after actions ≡ closed_at view
      → SessionStep Step users view held moment input.Closed store store promises promises after held actions
  closed_step store actions is = step_by Step users view held moment input.Closed (beside held (closed_at view)) store store promises promises after held actions
      refl (ran_then Step (closed_at view) after actions store promises is) refl

module _ {A R K : Type 0} where
  -- behind Closed nothing is to be done
  pub gone_before : (view : View) → is_closed view.stage ≡ true → Then view [] ≡ closed_at {A = A} {R = R} {K = K} view
  gone_before view is = sym (ap (λ (b : Bool). cond b (idle view) (closed_row view)) is)

  pub ready_before : (users : Users) (view : View) (port : Option ℕ) → is_closed view.stage ≡ true → Then view [] ≡ ready_at {A = A} {R = R} {K = K} users view port
  ready_before users view port is = sym (ap (λ (b : Bool). cond (not b && not (is_closing view.control)) (ready_row users view port) (idle view)) is)

  logout_is : (view : View) (inside : Bool)
      → logout_actions {A = A} {R = R} {K = K} (cond inside (Some (record { name = view.name; number = view.number })) None)
      ≡ cond inside (action.Hook (hook.Logout view.name) ∷ action.ReleaseFloor view.number ∷ []) []
  logout_is view true = refl
  logout_is view false = refl

  -- what is left to be done is what the table says
  pub leaves_now : (view after : View) (leaving : Leaving A) → is_closed view.stage ≡ false → after ≡ record view { stage = stage.Closed; name = [] }
      → leaving.aborts ≡ runs view.work → leaving.left ≡ left_by view → Then after (leaving_actions leaving) ≡ closed_at {A = A} {R = R} {K = K} view
  leaves_now view after leaving shut after_is aborts_is left_is =
      ap (λ (v : View). Then v (leaving_actions leaving)) after_is
      ∙ (ap (λ (b : Bool). Then (record view { stage = stage.Closed; name = [] }) (cond b (action.Abort ∷ []) [] ++ logout_actions leaving.left ++ (action.Hook hook.Disconnect ∷ []))) aborts_is
      ∙ (ap (λ (out : Option (LoggedOut A)). Then (record view { stage = stage.Closed; name = [] }) (aborts view ++ logout_actions out ++ (action.Hook hook.Disconnect ∷ []))) left_is
      ∙ (ap (λ (out : List (Action A R K)). Then (record view { stage = stage.Closed; name = [] }) (aborts view ++ out ++ (action.Hook hook.Disconnect ∷ []))) (logout_is view (is_inside view.stage))
      ∙ sym (ap (λ (b : Bool). cond b (idle view) (closed_row view)) shut))))
