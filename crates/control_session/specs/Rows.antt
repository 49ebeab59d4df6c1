-- The step of a session over what its host lends it.
use Rattle.std.specs.Prelude.{ℕ, ◌≡◌, List}
use Rattle.authorizer.specs.Users.{Users}
use Rattle.control_session.specs.Sides.{Given, given_of}
use Rattle.rate_floors.specs.Promises.{Promises}
use Rattle.session_table.specs.Steps.{SessionStep, SessionStops, Standing}
use Rattle.session_table.specs.declared.actions.Action.{Action}
use Rattle.session_table.specs.declared.inputs.Input.{Input}
use Rattle.virtual_tree.specs.Calls.{Exchange}

-- the result of a step: the floors, the session and its actions; or memory ran out for it
pub data Outcome (A R K : Type 0) : Type 0 where
  Made : Promises → Standing → List (Action A R K) → Outcome A R K
  Stopped : Outcome A R K

module _ {A S R K : Type 0} (Step : S → Exchange R K → S → Type 0) (users : Users) where
  -- the row of the session table for an input
  pub record IsMade (session : Standing) (given : Given K) (moment : ℕ) (store store' : S)
      (promises promises' : Promises) (session' : Standing) (actions : List (Action A R K)) : Type 0
    where
      pub reported : Input A K
      pub reported_is : given_of reported ≡ given
      pub stepped : SessionStep Step users session.view session.held moment reported store store'
          promises promises' session'.view session'.held actions

-- lack of memory may stop the step here: the store is as the looks of that row, if any, left it
pub record IsStopped (A : Type 0) {S R K : Type 0} (Step : S → Exchange R K → S → Type 0)
    (users : Users)
    (session : Standing) (given : Given K) (moment : ℕ) (store store' : S) : Type 0 where
  pub reported : Input A K
  pub reported_is : given_of reported ≡ given
  pub stops : SessionStops {R = R} Step users session.view session.held moment reported store store'

module _ {A S R K : Type 0} (Step : S → Exchange R K → S → Type 0) (users : Users) where
  -- the result of a step
  abbrev pub IsRow : Standing → Given K → ℕ → S → S → Promises → Outcome A R K → Type 0
  IsRow session given moment store store' promises (Made promises' session' actions) =
      IsMade Step users session given moment store store' promises promises' session' actions
  IsRow session given moment store store' promises Stopped =
      IsStopped A Step users session given moment store store'
