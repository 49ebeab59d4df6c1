-- What the session table says of every step: how many lines it holds.
use Rattle.std.proofs.Common.{ℕ, ◌≡◌, ◌<◌, List, [], ◌∷◌, Bool, true, false, cond, ◌&&◌, length, ap, subst, arith}
use Rattle.std.proofs.lemmas.Bool.{false≢true}
use Rattle.authorizer.specs.Users.{Users}
use Rattle.ftp_wire.specs.Items.{Item}
use Rattle.virtual_tree.specs.Calls.{Exchange}
use Rattle.session_table.specs.Steps.{SessionStep, Standing, holds_some, is_due}
use Rattle.session_table.specs.declared.actions.Action.{Action}
use Rattle.session_table.specs.declared.inputs.Input.{Input}
use Rattle.session_table.specs.declared.inputs.Input.TheVariants as input
use Rattle.session_table.specs.Table.{beside, held_row, idle, table}
use Rattle.session_table.specs.Views.{View, serves_lines}
use Rattle.control_session.specs.Sides.{Given, given_of}
use Rattle.rate_floors.specs.Promises.{Promises}
use Rattle.control_session.specs.Rows.{IsMade}
use Rattle.control_session.specs.Turns.{HoldsFewer}

module _ (A R K : Type 0) (users : Users) (view : View) (held : List Item) (moment : ℕ) where
  held_at_held : is_due view held ≡ true → length (table {A = A} {R = R} {K = K} users view held moment input.Held).held < length held
  held_at_held now = by (serves_lines view) held now
    where
      by : (serves : Bool) (lines : List Item) → (serves && holds_some lines) ≡ true
          → length (cond serves (held_row {A = A} {R = R} {K = K} users view moment lines) (beside lines (idle view))).held < length lines
      by false lines is = absurd (false≢true is)
      by true [] is = absurd (false≢true is)
      by true (first ∷ others) is = omega arith

-- how many lines a step leaves held
pub step_holds : {S A R K : Type 0} (Step : S → Exchange R K → S → Type 0) (users : Users) (before after : Standing) (moment : ℕ) (reported : Input A K)
    (old new : S) (promises promises' : Promises) (actions : List (Action A R K))
    → SessionStep Step users before.view before.held moment reported old new promises promises' after.view after.held actions → HoldsFewer (given_of reported) before after
unfolding SessionStep
step_holds Step users before after moment (input.Line item) old new promises promises' actions (ran, held_is) = tt
step_holds {A = A} {R = R} {K = K} Step users before after moment input.Held old new promises promises' actions (ran, held_is) = λ now.
    omega (arith, ap length held_is, held_at_held A R K users before.view before.held moment now)
step_holds Step users before after moment (input.TransferEnded end sink) old new promises promises' actions (ran, held_is) =
    omega (arith, ap length held_is)
step_holds Step users before after moment (input.DataReady port) old new promises promises' actions (ran, held_is) =
    omega (arith, ap length held_is)
step_holds Step users before after moment input.Closed old new promises promises' actions (ran, held_is) = tt

-- the same of a row
pub row_holds : {A S R K : Type 0} (Step : S → Exchange R K → S → Type 0) (users : Users) (before after : Standing) (given : Given K) (moment : ℕ) (store store' : S) (promises promises' : Promises) (actions : List (Action A R K))
    → IsMade Step users before given moment store store' promises promises' after actions → HoldsFewer given before after
row_holds Step users before after given moment store store' promises promises' actions row =
    subst (λ (g : Given _). HoldsFewer g before after) row.reported_is (step_holds Step users before after moment row.reported store store' promises promises' actions row.stepped)
