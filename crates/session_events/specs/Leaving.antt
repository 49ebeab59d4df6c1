-- The actions that are left at the end of the control connection.
use Rattle.std.specs.Prelude.{Bool, cond, List, [], ◌∷◌, ◌++◌, Option, Some, None}
use Rattle.session_events.specs.declared.closing.Leaving.{Leaving}
use Rattle.session_events.specs.declared.closing.LoggedOut.{LoggedOut}
use Rattle.session_table.specs.declared.actions.Action.{Action}
use Rattle.session_table.specs.declared.actions.Action.TheVariants.{Abort, Hook, ReleaseFloor}
use Rattle.session_table.specs.declared.actions.HookCall.TheVariants.{Logout, Disconnect}
use Rattle.session_table.specs.Views.{View, is_inside}

-- the user who is logged in, if any
abbrev pub left_by : {A : Type 0} → View → Option (LoggedOut A)
left_by view =
    cond (is_inside view.stage) (Some (record { name = view.name; number = view.number })) None

module _ {A R K : Type 0} where
  abbrev pub abort_actions : Bool → List (Action A R K)
  abort_actions aborts = cond aborts (Abort ∷ []) []

  abbrev pub logout_actions : Option (LoggedOut A) → List (Action A R K)
  logout_actions None = []
  logout_actions (Some left) = Hook (Logout left.name) ∷ ReleaseFloor left.number ∷ []

  -- a running transfer is aborted, the handler is called for the logout, the guaranteed rate is
  -- released, and the handler is called for the end
  abbrev pub leaving_actions : Leaving A → List (Action A R K)
  leaving_actions leaving =
      abort_actions leaving.aborts ++ logout_actions leaving.left ++ (Hook Disconnect ∷ [])

  -- none if it had ended before
  abbrev pub leaving_by : Option (Leaving A) → List (Action A R K)
  leaving_by None = []
  leaving_by (Some leaving) = leaving_actions leaving
