-- What comes of the data side, among the inputs.
use Rattle.std.proofs.Common.{◌≡◌, Some, refl, true}
use Rattle.std.proofs.lemmas.Bool.{false≢true}
use Rattle.session_core.specs.Events.{is_event}
use Rattle.session_table.specs.declared.inputs.Input.{Input}
use Rattle.session_table.specs.declared.inputs.Input.TheVariants as input
use Rattle.control_session.specs.Sides.{SideEvent, back_in, came_of, event_in, given_of}
use Rattle.control_session.specs.Sides.Given.{Came}
use Rattle.control_session.specs.Sides.SideEvent.{Ready, Ended}

module _ {A K : Type 0} where
  -- an event, as it is among the inputs of a turn
  pub event_is : (came : Input A K) → is_event came ≡ true → (event : SideEvent K) × (event_in came ≡ Some event) × (given_of came ≡ Came event)
  event_is (input.Line item) is = absurd (false≢true is)
  event_is input.Held is = absurd (false≢true is)
  event_is (input.TransferEnded end sink) is = (Ended end sink, refl, refl)
  event_is (input.DataReady port) is = (Ready port, refl, refl)
  event_is input.Closed is = absurd (false≢true is)

  pub came_back : (came : Input A K) → came_of (back_in came) ≡ event_in came
  came_back (input.Line item) = refl
  came_back input.Held = refl
  came_back (input.TransferEnded end sink) = refl
  came_back (input.DataReady port) = refl
  came_back input.Closed = refl
