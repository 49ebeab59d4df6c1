-- Plans: what is known of one that is run, or stopped, and of one with a change behind it.
use Rattle.std.proofs.Common.{◌≡◌, ◌∙◌, ℕ, List, OnErr, Result, Ok, Err, refl, sym, ap, subst, inl, inr}
use Rattle.virtual_tree.specs.Calls.{Exchange}
use Rattle.session_table.specs.declared.actions.Action.{Action}
use Rattle.session_table.specs.Plans.{Plan, Ran, RanByFloors, Stops}
use Rattle.session_table.specs.Plans.Plan.{Then, WithLine, WithLines, Ask, AskAdmit}
use Rattle.authorizer.specs.Users.{Users}
use Rattle.rate_floors.specs.Promises.{Promises, admits, after_admit}
use Rattle.ftp_wire.specs.Items.{Item}
use Rattle.session_table.specs.declared.inputs.Input.{Input}
use Rattle.session_table.specs.Steps.{SessionStep, SessionStops, Standing, Took}
use Rattle.session_table.specs.Table.{Taken, table, then_left}
use Rattle.session_table.specs.Views.{View}

-- a plan that asks for nothing was run, whatever the store is and whatever is promised
pub ran_then : {S A R K : Type 0} (Step : S → Exchange R K → S → Type 0) (plan : Plan A R K) (view : View) (actions : List (Action A R K)) (old : S) (promises : Promises)
    → Then view actions ≡ plan → Ran Step plan old old promises promises view actions
ran_then Step plan view actions old promises e = subst (λ p. Ran Step p old old promises promises view actions) e (refl, refl, refl, refl)

-- a plan that makes no call of the store was run, whatever the store is
pub ran_floors : {S A R K : Type 0} (Step : S → Exchange R K → S → Type 0) (plan : Plan A R K) (old : S) (promises promises' : Promises) (view : View) (actions : List (Action A R K))
    → RanByFloors plan promises promises' view actions → Ran Step plan old old promises promises' view actions
ran_floors Step (Then _ _) old promises promises' view actions ran = (refl, ran.1, ran.2, ran.3)
ran_floors Step (WithLine reported next) old promises promises' view actions ran = (ran.0, ran.1, ran_floors Step (next ran.0) old promises promises' view actions ran.2)
ran_floors Step (WithLines reported next) old promises promises' view actions ran = (ran.0, ran.1, ran_floors Step (next ran.0) old promises promises' view actions ran.2)
ran_floors Step (Ask call next) old promises promises' view actions ran = absurd ran.2
ran_floors Step (AskAdmit user next) old promises promises' view actions ran = ran_floors Step (next (admits promises user)) old (after_admit promises user) promises' view actions ran

-- a change behind a plan changes what the session knows then, and nothing else
pub ran_left : {S A R K : Type 0} (Step : S → Exchange R K → S → Type 0) (change : View → View) (plan : Plan A R K) (old new : S) (promises promises' : Promises) (view : View) (actions : List (Action A R K))
    → Ran Step plan old new promises promises' view actions → Ran Step (then_left change plan) old new promises promises' (change view) actions
ran_left Step change (Then _ _) old new promises promises' view actions ran = (ran.0, ran.1, ap change ran.2, ran.3)
ran_left Step change (WithLine reported next) old new promises promises' view actions ran = (ran.0, ran.1, ran_left Step change (next ran.0) old new promises promises' view actions ran.2)
ran_left Step change (WithLines reported next) old new promises promises' view actions ran = (ran.0, ran.1, ran_left Step change (next ran.0) old new promises promises' view actions ran.2)
ran_left Step change (Ask call next) old new promises promises' view actions ran = (ran.0, ran.1, ran.2, ran_left Step change (next ran.0) ran.1 new promises promises' view actions ran.3)
ran_left Step change (AskAdmit user next) old new promises promises' view actions ran = ran_left Step change (next (admits promises user)) old new (after_admit promises user) promises' view actions ran

-- a plan may be stopped before anything is asked
pub stops_here : {S A R K : Type 0} (Step : S → Exchange R K → S → Type 0) (plan : Plan A R K) (old : S) → Stops Step plan old old
stops_here Step (Then _ _) old = refl
stops_here Step (WithLine reported next) old = refl
stops_here Step (WithLines reported next) old = refl
stops_here Step (Ask call next) old = inl refl
stops_here Step (AskAdmit user next) old = refl

-- a change behind a plan does not change where it may be stopped
pub stops_left : {S A R K : Type 0} (Step : S → Exchange R K → S → Type 0) (change : View → View) (plan : Plan A R K) (old new : S)
    → Stops Step plan old new → Stops Step (then_left change plan) old new
stops_left Step change (Then _ _) old new stops = stops
stops_left Step change (WithLine reported next) old new stops = stops
stops_left Step change (WithLines reported next) old new stops = stops
stops_left Step change (Ask call next) old new (inl same) = inl same
stops_left Step change (Ask call next) old new (inr looked) = inr (looked.0, looked.1, looked.2, looked.3, stops_left Step change (next looked.1) looked.2 new looked.4)
stops_left Step change (AskAdmit user next) old new stops = stops

pub ran_left_to : {S A R K : Type 0} (Step : S → Exchange R K → S → Type 0) (change : View → View) (plan : Plan A R K) (old new : S) (promises promises' : Promises) (view after : View) (actions : List (Action A R K))
    → after ≡ change view → Ran Step plan old new promises promises' view actions → Ran Step (then_left change plan) old new promises promises' after actions
ran_left_to Step change plan old new promises promises' view after actions is ran =
    subst (λ v. Ran Step (then_left change plan) old new promises promises' v actions) (sym is) (ran_left Step change plan old new promises promises' view actions ran)

pub on_err : {T E P : Type 0} (r : Result T E) → P → OnErr r P
on_err (Ok x) p = tt
on_err (Err e) p = p

-- what was taken is what the table gives, where the two are one
pub took_by : {S A R K : Type 0} (Step : S → Exchange R K → S → Type 0) (taken other : Taken A R K) (old new : S) (promises promises' : Promises) (standing : Standing) (actions : List (Action A R K))
    → taken ≡ other → Ran Step other.plan old new promises promises' standing.view actions → standing.held ≡ other.held → Took Step taken old new promises promises' standing actions
took_by Step taken other old new promises promises' standing actions is ran held =
    (subst (λ (t : Taken _ _ _). Ran Step t.plan old new promises promises' standing.view actions) (sym is) ran, held ∙ sym (ap (λ (t : Taken _ _ _). t.held) is))

-- the same of a whole step
pub step_by : {S A R K : Type 0} (Step : S → Exchange R K → S → Type 0) (users : Users) (view : View) (held : List Item) (moment : ℕ) (reported : Input A K) (taken : Taken A R K)
    (old new : S) (promises promises' : Promises) (after : View) (kept : List Item) (actions : List (Action A R K)) → table users view held moment reported ≡ taken
    → Ran Step taken.plan old new promises promises' after actions → kept ≡ taken.held → SessionStep Step users view held moment reported old new promises promises' after kept actions
unfolding SessionStep
step_by Step users view held moment reported taken old new promises promises' after kept actions is ran same =
    (subst (λ (t : Taken _ _ _). Ran Step t.plan old new promises promises' after actions) (sym is) ran, same ∙ sym (ap (λ (t : Taken _ _ _). t.held) is))

pub stops_by : {S A R K : Type 0} (Step : S → Exchange R K → S → Type 0) (users : Users) (view : View) (held : List Item) (moment : ℕ) (reported : Input A K) (taken : Taken A R K)
    (old new : S) → table users view held moment reported ≡ taken → Stops Step taken.plan old new → SessionStops Step users view held moment reported old new
unfolding SessionStops
stops_by Step users view held moment reported taken old new is stops = subst (λ (t : Taken _ _ _). Stops Step t.plan old new) (sym is) stops

-- a step may be stopped before anything is asked
pub step_stops_here : {S A R K : Type 0} (Step : S → Exchange R K → S → Type 0) (users : Users) (view : View) (held : List Item) (moment : ℕ) (reported : Input A K) (old : S)
    → SessionStops {A = A} {R = R} {K = K} Step users view held moment reported old old
unfolding SessionStops
step_stops_here {R = R} Step users view held moment reported old = stops_here Step (table {R = R} users view held moment reported).plan old

pub on_err_from : {T E P Q : Type 0} (r : Result T E) → (P → Q) → OnErr r P → OnErr r Q
on_err_from (Ok x) f p = tt
on_err_from (Err e) f p = f p

-- what a session knows with the lines that it holds
abbrev pub standing_of : View → List Item → Standing
standing_of view held = record { view = view; held = held }
