-- Plans that make no call of the store.
use Rattle.std.proofs.Common.{◌≡◌, ◌∙◌, ℕ, Bool, List, ap, refl, subst}
use Rattle.authorizer.specs.Users.{Users}
use Rattle.rate_floors.specs.Promises.{Promises, admits, after_admit}
use Rattle.session_table.specs.declared.actions.Action.{Action}
use Rattle.session_table.specs.Plans.{Plan, RanByFloors}
use Rattle.session_table.specs.Plans.Plan.{AskAdmit, Then}
use Rattle.session_table.specs.StateRows.{enters, number_of}
use Rattle.session_table.specs.Views.{View}

module _ {A R K : Type 0} where
  -- a plan that asks for nothing was run, whatever is promised
  pub settled : (plan : Plan A R K) (promises promises' : Promises) (view : View) (actions : List (Action A R K))
      → Then view actions ≡ plan → promises' ≡ promises → RanByFloors plan promises promises' view actions
  settled plan promises promises' view actions is same =
      subst (λ (p : Plan A R K). RanByFloors p promises promises' view actions) is (refl, same, refl, refl)

  -- one more session of a user was admitted, or was not
  pub entered : (users : Users) (view : View) (promises promises' : Promises) (number : ℕ) (fits : Bool) (after : View) (actions : List (Action A R K))
      → Then after actions ≡ enters users view fits → fits ≡ admits promises number → promises' ≡ after_admit promises number → number ≡ number_of users view.name
      → RanByFloors (AskAdmit (number_of users view.name) (enters users view)) promises promises' after actions
  entered users view promises promises' number fits after actions is fits_is counted number_is =
      subst (λ (n : ℕ). RanByFloors (AskAdmit n (enters users view)) promises promises' after actions) number_is
      (settled (enters users view (admits promises number)) (after_admit promises number) promises' after actions (is ∙ ap (enters users view) fits_is) counted)
