-- A step of a session for certain users, over a store and floors in locks.
use Rattle.std.specs.Prelude.{ℕ, ◌≡◌, true, List, Option}
use Rattle.authorizer.specs.Users.{Users}
use Rattle.control_session.specs.Rows.{Outcome}
use Rattle.control_session.specs.Rows.Outcome.{Made, Stopped}
use Rattle.control_session.specs.Sides.{Given}
use Rattle.control_session.specs.declared.no_step.NoStep.{NoStep}
use Rattle.control_session.specs.declared.no_step.NoStep.TheVariants.{NoMemory, Over}
use Rattle.rate_floors.specs.Promises.{Promises}
use Rattle.session_table.specs.Steps.{Standing}
use Rattle.session_table.specs.declared.actions.Action.{Action}
use Rattle.session_table.specs.declared.inputs.Input.{Input}

module _ {A S R K : Type 0}
    (Row : Users → Standing → Given K → ℕ → S → S → Promises → Outcome A R K → Type 0) where
  -- the users were lent for a step
  abbrev pub LentFor : Users → Standing → Given K → Standing → List (Action A R K) → Type 0
  LentFor users session given session' actions =
      (moment : ℕ) × (store store' : S) × (promises promises' : Promises)
      × Row users session given moment store store' promises (Made promises' session' actions)

  -- they were lent for a step for which memory ran out; its event is given back
  abbrev pub RefusedFor : Users → Standing → Given K → Option (Input A K) → NoStep A K → Type 0
  RefusedFor users session given event (NoMemory back) =
      (moment : ℕ) × (store store' : S) × (promises : Promises)
      × Row users session given moment store store' promises Stopped × (back ≡ event)
  RefusedFor users session given event Over = ⊥
