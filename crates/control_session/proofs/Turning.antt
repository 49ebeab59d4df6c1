-- What one thing that a session does is, as moves.
use Rattle.std.proofs.Common.{ℕ, ◌≡◌, ◌≢◌, ◌⊎◌, ◌+◌, ◌<◌, ◌≤◌, inl, inr, length, arith, List, [], ◌∷◌, ◌++◌, Bool, true, false, ◌||◌, Option, Some, None, refl, sym, ap, subst, append_assoc, ◌∙◌}
use Rattle.std.proofs.lemmas.Bool.{false≢true}
use Rattle.authorizer.specs.Users.{Users}
use Rattle.control_session.specs.Sides.{Given, SideEvent, back_in, came_of, event_in, given_of, is_line}
use Rattle.control_session.specs.Sides.Given.{Line, Held, Came, Closed}
use Rattle.control_session.specs.Sides.SideCall.{Looks, Settles}
use Rattle.control_session.specs.Reported.{closes}
use Rattle.ftp_wire.specs.Items.{Item}
use Rattle.rate_floors.specs.Promises.{Promises}
use Rattle.session_events.specs.Leaving.{leaving_actions, leaving_by}
use Rattle.session_events.specs.declared.closing.Leaving.{Leaving}
use Rattle.session_events.specs.declared.closing.LoggedOut.{LoggedOut}
use Rattle.session_table.specs.Laws.{releases}
use Rattle.session_table.specs.Steps.{Standing}
use Rattle.session_table.specs.Views.{is_closed}
use Rattle.session_table.specs.declared.actions.Action.{Action}
use Rattle.session_table.specs.declared.inputs.Input.{Input}
use Rattle.session_table.specs.declared.inputs.Input.TheVariants as input
use Rattle.control_session.specs.declared.turn_fault.TurnFault.{TurnFault}
use Rattle.control_session.specs.declared.turn_fault.TurnFault.TheVariants.{Memory}
use Rattle.control_session.specs.Calls.{Chain, HostCall}
use Rattle.control_session.specs.Unmade.{LeftBy, open_held}
use Rattle.control_session.specs.declared.no_step.NoStep.{NoStep}
use Rattle.control_session.specs.declared.no_step.NoStep.TheVariants as unmade
use Rattle.control_session.specs.Calls.HostCall.{Tried, Read, ReadEnd, ReadFailed, Declined, Asked, Released}
use Rattle.control_session.specs.Rows.{Outcome}
use Rattle.control_session.specs.Standing.{owed, owed_in}
use Rattle.control_session.specs.Turns.{Carries, Heard, HoldsFewer, IsIdle, Next, Situation, StepRefused, StepTried, Stepped, Went, WhileOpen, asked_as, at, behind, due, release_calls}
use Rattle.control_session.specs.Turns.Move.{Takes, Tries, Declines, Asks, Reads, Ends, Fails, Pays}
use Rattle.control_session.proofs.Events.{came_back}
use Rattle.control_session.proofs.Going.{chain_one, or_false, went_more, went_none, went_one}

-- actions, and then others
pub carries_both : {A S R K : Type 0} (xs ys : List (Action A R K)) (before mid after : Option TurnFault) (first rest : List (HostCall A S R K))
    → Carries xs before first mid → Carries ys mid rest after → Carries (xs ++ ys) before (first ++ rest) after
carries_both {A = A} {S = S} {R = R} {K = K} [] ys before mid after first rest (is, same) carries =
    subst (λ (b : Option TurnFault). Carries ys b (first ++ rest) after) same (subst (λ (x : List (HostCall A S R K)). Carries ys mid (x ++ rest) after) (sym is) carries)
carries_both {A = A} {S = S} {R = R} {K = K} (x ∷ xs) ys before mid after first rest (one, more, next, is, carried, carries) others =
    (one, more ++ rest, next, ap (λ (e : List (HostCall A S R K)). e ++ rest) is ∙ append_assoc one more rest, carried, carries_both xs ys next mid after more rest carries others)

module _ {H A S R K : Type 0} (Row : Users → Standing → Given K → ℕ → S → S → Promises → Outcome A R K → Type 0) (Does : H → HostCall A S R K → H → Type 0) where
  pub turn_went : (host mid host' : H) (v v' : Standing) (came came' : Option (SideEvent K)) (taken taken' : List Item) (heard : Heard) (owes owes' paid : List ℕ) (closed : Bool) (lost lost' : Option TurnFault)
      (input : Given K) (actions : List (Action A R K)) (carried : List (HostCall A S R K))
      → Next (at v came taken heard owes closed lost) input came' taken' → Stepped Row Does host v input v' actions mid
      → releases actions ++ owes ≡ paid ++ owes'
      → Chain Does mid (release_calls paid ++ carried) host' → Carries actions lost carried lost'
      → Went Row Does host (at v came taken heard owes closed lost) host' (at v' came' taken' (behind input heard) owes' (closed || closes actions) lost')
  turn_went host mid host' v v' came came' taken taken' heard owes owes' paid closed lost lost' input actions carried next (moment, users, store, store', promises, promises', did, row) balance chain carries =
      went_one Row Does host host' _ _ _ (mid, did, chain) (Takes (record {
        given = input;
        moment = moment;
        users = users;
        store = store;
        store' = store';
        promises = promises;
        promises' = promises';
        actions = actions;
        paid = paid;
        carried = carried;
        next = next;
        row = row;
        owes = balance;
        carries = carries;
        closed = refl;
        heard = refl;
        trace = refl;
      }))

  pub tries_went : (host host' : H) (now : Situation K) (given : Given K) (came : Option (SideEvent K)) (taken : List Item) → Next now given came taken → StepTried Row Does host now.session given host'
      → Went Row Does host now host' (record now { lost = Some Memory })
  tries_went host host' now given came taken next (moment, users, store, store', promises, did, stopped) =
      went_one Row Does host host' (Tried now.session moment users store store' promises ∷ []) now (record now { lost = Some Memory }) (chain_one Does host host' (Tried now.session moment users store store' promises) did)
      (Tries given moment users store store' promises came taken next stopped refl refl)

  declines_went : (host host' : H) (now : Situation K) (given : Given K) (came : Option (SideEvent K)) (taken : List Item) → Next now given came taken → is_line given ≡ true → Does host Declined host'
      → Went Row Does host now host' (record now { closed = true })
  declines_went host host' now given came taken next line did =
      went_one Row Does host host' (Declined ∷ []) now (record now { closed = true }) (chain_one Does host host' Declined did) (Declines given came taken next line refl refl)

  pub looks_went : (host host' : H) (v : Standing) (taken : List Item) (heard : Heard) (owes : List ℕ) (closed : Bool) (lost : Option TurnFault) (event : Option (SideEvent K)) → closed ≡ false → Does host (Asked (Looks event)) host'
      → Went Row Does host (at v None taken heard owes closed lost) host' (at v event taken (asked_as true heard) owes closed lost)
  looks_went host host' v taken heard owes closed lost event live did =
      went_one Row Does host host' (Asked (Looks event) ∷ []) _ _ (chain_one Does host host' (Asked (Looks event)) did) (Asks event refl refl (inl (live, refl)))

  pub settles_went : (host host' : H) (v : Standing) (taken : List Item) (heard : Heard) (owes : List ℕ) (closed : Bool) (lost : Option TurnFault) (event : Option (SideEvent K)) → is_closed v.view.stage ≡ true → Does host (Asked (Settles event)) host'
      → Went Row Does host (at v None taken heard owes closed lost) host' (at v event taken (asked_as true heard) owes closed lost)
  settles_went host host' v taken heard owes closed lost event gone did =
      went_one Row Does host host' (Asked (Settles event) ∷ []) _ _ (chain_one Does host host' (Asked (Settles event)) did) (Asks event refl refl (inr (gone, refl)))

  pub pays_went : (host host' : H) (v : Standing) (came : Option (SideEvent K)) (taken : List Item) (heard : Heard) (user : ℕ) (owes : List ℕ) (closed : Bool) (lost : Option TurnFault) → Does host (Released user) host'
      → Went Row Does host (at v came taken heard (user ∷ owes) closed lost) host' (at v came taken heard owes closed lost)
  pays_went host host' v came taken heard user owes closed lost did =
      went_one Row Does host host' (Released user ∷ []) _ _ (chain_one Does host host' (Released user) did) (Pays user owes refl refl refl)

  pub reads_went : (host host' : H) (v : Standing) (came : Option (SideEvent K)) (taken : List Item) (heard : Heard) (owes : List ℕ) (closed : Bool) (lost : Option TurnFault) (octets : List ℕ) (items : List Item)
      → IsIdle (at v came taken heard owes closed lost) → closed ≡ false → heard.ended ≡ false → Does host (Read octets) host'
      → Went Row Does host (at v came taken heard owes closed lost) host'
      (at v came taken (record { octets = heard.octets ++ octets; items = heard.items ++ items; reads = heard.reads + 1; ended = heard.ended; failed = heard.failed; asked = false }) owes closed lost)
  reads_went host host' v came taken heard owes closed lost octets items idle live unended did =
      went_one Row Does host host' (Read octets ∷ []) _ _ (chain_one Does host host' (Read octets) did) (Reads octets items idle live unended refl refl)

  pub ends_went : (host host' : H) (v : Standing) (came : Option (SideEvent K)) (taken : List Item) (heard : Heard) (owes : List ℕ) (closed : Bool) (lost : Option TurnFault)
      → IsIdle (at v came taken heard owes closed lost) → closed ≡ false → heard.ended ≡ false → Does host ReadEnd host'
      → Went Row Does host (at v came taken heard owes closed lost) host'
      (at v came taken (record heard { reads = heard.reads + 1; ended = true; asked = false }) owes closed lost)
  ends_went host host' v came taken heard owes closed lost idle live unended did =
      went_one Row Does host host' (ReadEnd ∷ []) _ _ (chain_one Does host host' ReadEnd did) (Ends idle live unended refl refl)

  pub fails_went : (host host' : H) (v : Standing) (came : Option (SideEvent K)) (taken : List Item) (heard : Heard) (owes : List ℕ) (closed : Bool) (lost : Option TurnFault)
      → IsIdle (at v came taken heard owes closed lost) → closed ≡ false → heard.ended ≡ false → Does host ReadFailed host'
      → Went Row Does host (at v came taken heard owes closed lost) host'
      (at v came taken (record heard { reads = heard.reads + 1; failed = true; asked = false }) owes closed lost)
  fails_went host host' v came taken heard owes closed lost idle live unended did =
      went_one Row Does host host' (ReadFailed ∷ []) _ _ (chain_one Does host host' ReadFailed did) (Fails idle live unended refl refl)

  -- what comes behind Closed
  pub end_went : (host host' : H) (v v' : Standing) (came : Option (SideEvent K)) (given : Given K) (event : SideEvent K) (taken : List Item) (heard : Heard) (owes : List ℕ) (closed : Bool) (lost : Option TurnFault)
      → came ≡ Some event → given ≡ Came event → Stepped Row Does host v given v' [] host'
      → Went Row Does host (at v came taken heard owes closed lost) host' (at v' None taken heard owes closed lost)
  end_went host host' v v' came given event taken heard owes closed lost is given_is stepped =
      subst (λ (b : Bool). Went Row Does host (at v came taken heard owes closed lost) host' (at v' None taken heard owes b lost)) (or_false closed)
      (turn_went host host' host' v v' came None taken taken heard owes owes [] closed lost lost (Came event) [] [] (is, refl, refl)
      (subst (λ (g : Given K). Stepped Row Does host v g v' [] host') given_is stepped) refl refl (refl, refl))

  next_event : {I : Type 0} (now : Situation K) (reported : Input I K) (came : Option (SideEvent K)) (taken : List Item) → Next now (given_of reported) came taken → given_of reported ≢ Closed → event_in reported ≡ now.came
  next_event now (input.Line item) came taken ((is, asked, held), live, rest, none, same) other = sym is
  next_event now input.Held came taken (is, asked, held, live, none, same) other = sym is
  next_event now (input.TransferEnded end sink) came taken (is, none, same) other = sym is
  next_event now (input.DataReady port) came taken (is, none, same) other = sym is
  next_event now input.Closed came taken next other = absurd (other refl)

  -- a step was refused, and what came was given back
  pub refused_went : {I : Type 0} (host host' : H) (v v' : Standing) (came came' found : Option (SideEvent K)) (taken taken' : List Item) (heard : Heard) (closed : Bool) (lost : Option TurnFault) (reported : Input I K)
      → Next (at v came taken heard [] closed lost) (given_of reported) came' taken' → given_of reported ≢ Closed → v' ≡ v → found ≡ event_in reported → StepTried Row Does host v (given_of reported) host'
      → Went Row Does host (at v came taken heard [] closed lost) host' (at v' found taken heard [] closed (Some Memory))
  refused_went host host' v v' came came' found taken taken' heard closed lost reported next other same found_is did =
      subst (λ (x : Standing). Went Row Does host (at v came taken heard [] closed lost) host' (at x found taken heard [] closed (Some Memory))) (sym same)
      (subst (λ (x : Option (SideEvent K)). Went Row Does host (at v came taken heard [] closed lost) host' (at v x taken heard [] closed (Some Memory)))
      (sym (found_is ∙ next_event (at v came taken heard [] closed lost) reported came' taken' next other))
      (tries_went host host' (at v came taken heard [] closed lost) (given_of reported) came' taken' next did))

  -- before a line there is no event, nor after it
  line_alone : (now : Situation K) (given : Given K) (came : Option (SideEvent K)) (taken : List Item) → Next now given came taken → is_line given ≡ true → came ≡ now.came
  line_alone now (Line item) came taken ((is, asked, held), live, rest, none, same) line = none ∙ sym is
  line_alone now Held came taken (is, asked, held, live, none, same) line = none ∙ sym is
  line_alone now (Came event) came taken next line = absurd (false≢true line)
  line_alone now Closed came taken next line = absurd (false≢true line)

  -- a step was not made
  pub unmade_went : (host host' : H) (v v' : Standing) (came : Option (SideEvent K)) (came' found : Option (Input A K)) (taken taken' : List Item) (heard : Heard) (closed closed' : Bool) (lost lost' : Option TurnFault) (reported : Input A K) (why : NoStep A K)
      → Next (at v came taken heard [] closed lost) (given_of reported) (came_of came') taken' → given_of reported ≢ Closed → v' ≡ v
      → StepRefused Row Does host v (given_of reported) (back_in reported) why host'
      → LeftBy why came' closed lost found closed' lost'
      → Went Row Does host (at v came taken heard [] closed lost) host' (at v' (came_of found) taken heard [] closed' lost')
  unmade_went host host' v v' came came' found taken taken' heard closed closed' lost lost' reported (unmade.NoMemory back) next other same (tried, back_is) (found_is, closed_is, lost_is) =
      subst (λ (b : Bool). Went Row Does host (at v came taken heard [] closed lost) host' (at v' (came_of found) taken heard [] b lost')) (sym closed_is)
      (subst (λ (l : Option TurnFault). Went Row Does host (at v came taken heard [] closed lost) host' (at v' (came_of found) taken heard [] closed l)) (sym lost_is)
      (refused_went host host' v v' came (came_of came') (came_of found) taken taken' heard closed lost reported next other same (ap came_of (found_is ∙ back_is) ∙ came_back reported) tried))
  unmade_went host host' v v' came came' found taken taken' heard closed closed' lost lost' reported unmade.Over next other same (line, did) (found_is, closed_is, lost_is) =
      let now = at v came taken heard [] closed lost in
      subst (λ (b : Bool). Went Row Does host now host' (at v' (came_of found) taken heard [] b lost')) (sym closed_is)
      (subst (λ (l : Option TurnFault). Went Row Does host now host' (at v' (came_of found) taken heard [] true l)) (sym lost_is)
      (subst (λ (x : Standing). Went Row Does host now host' (at x (came_of found) taken heard [] true lost)) (sym same)
      (subst (λ (x : Option (SideEvent K)). Went Row Does host now host' (at v x taken heard [] true lost)) (sym (ap came_of found_is ∙ line_alone now (given_of reported) (came_of came') taken' next line))
      (declines_went host host' now (given_of reported) (came_of came') taken' next line did))))

  pub refused_open : (old : H) (session : Standing) (given : Given K) (event : Option (Input A K)) (why : NoStep A K) (new : H) → given ≢ Closed → StepRefused Row Does old session given event why new → StepRefused (WhileOpen Row) Does old session given event why new
  refused_open old session given event (unmade.NoMemory back) new live (tried, is) = ((tried.0, tried.1, tried.2, tried.3, tried.4, tried.5, (live, tried.6)), is)
  refused_open old session given event unmade.Over new live did = did

  -- a step was made, and its actions were carried out
  pub acts_went : (host mid host' : H) (v v' : Standing) (came came' : Option (SideEvent K)) (taken taken' : List Item) (heard : Heard) (closed closed' closing : Bool) (lost lost' : Option TurnFault)
      (given : Given K) (actions looked : List (Action A R K))
      → Next (at v came taken heard [] closed lost) given came' taken' → Stepped Row Does host v given v' actions mid
      → ((carried : List (HostCall A S R K)) × Chain Does mid (release_calls (releases actions) ++ carried) host' × Carries actions lost carried lost')
      → closed' ≡ (closed || closing) → closing ≡ closes looked → looked ≡ actions
      → Went Row Does host (at v came taken heard [] closed lost) host' (at v' came' taken' (behind given heard) [] closed' lost')
  acts_went host mid host' v v' came came' taken taken' heard closed closed' closing lost lost' given actions looked next stepped (carried, chain, carries) either closing_is look =
      subst (λ (b : Bool). Went Row Does host (at v came taken heard [] closed lost) host' (at v' came' taken' (behind given heard) [] b lost'))
      (sym (either ∙ ap (λ (b : Bool). closed || b) (closing_is ∙ ap closes look)))
      (turn_went host mid host' v v' came came' taken taken' heard [] [] (releases actions) closed lost lost' given actions carried next stepped refl chain carries)

  leaving_owes : (leaving : Option (Leaving A)) → releases {A = A} {R = R} {K = K} (leaving_by leaving) ++ [] ≡ [] ++ owed (owed_in leaving)
  leaving_owes None = refl
  leaving_owes (Some leaving) = by leaving.aborts leaving.left
    where
      by : (aborts : Bool) (left : Option (LoggedOut A)) → releases {A = A} {R = R} {K = K} (leaving_actions (record { aborts = aborts; left = left })) ++ [] ≡ [] ++ owed (owed_in (Some (record { aborts = aborts; left = left })))
      by true None = refl
      by true (Some user) = refl
      by false None = refl
      by false (Some user) = refl

  leaving_closes : (leaving : Option (Leaving A)) → closes {A = A} {R = R} {K = K} (leaving_by leaving) ≡ false
  leaving_closes None = refl
  leaving_closes (Some leaving) = by leaving.aborts leaving.left
    where
      by : (aborts : Bool) (left : Option (LoggedOut A)) → closes {A = A} {R = R} {K = K} (leaving_actions (record { aborts = aborts; left = left })) ≡ false
      by true None = refl
      by true (Some user) = refl
      by false None = refl
      by false (Some user) = refl

  -- Closed
  pub leaves_went : (host mid host' : H) (v v' : Standing) (came : Option (SideEvent K)) (taken : List Item) (heard : Heard) (closed : Bool) (lost : Option TurnFault) (leaving : Option (Leaving A)) (left : Option ℕ)
      → left ≡ owed_in leaving → Stepped Row Does host v Closed v' (leaving_by leaving) mid
      → ((carried : List (HostCall A S R K)) × Chain Does mid carried host' × Carries (leaving_by leaving) lost carried lost)
      → Went Row Does host (at v came taken heard [] closed lost) host' (at v' came taken heard (owed left) closed lost)
  leaves_went host mid host' v v' came taken heard closed lost leaving left left_is stepped (carried, chain, carries) =
      subst (λ (who : Option ℕ). Went Row Does host (at v came taken heard [] closed lost) host' (at v' came taken heard (owed who) closed lost)) (sym left_is)
      (subst (λ (b : Bool). Went Row Does host (at v came taken heard [] closed lost) host' (at v' came taken heard (owed (owed_in leaving)) b lost))
      (ap (λ (b : Bool). closed || b) (leaving_closes leaving) ∙ or_false closed)
      (turn_went host mid host' v v' came came taken taken heard [] (owed (owed_in leaving)) [] closed lost lost Closed (leaving_by leaving) carried
      (refl, refl) stepped (leaving_owes leaving) chain carries))

  -- what was owed is released
  pub pay_went : (host host' : H) (v : Standing) (came : Option (SideEvent K)) (taken : List Item) (heard : Heard) (left : Option ℕ) (closed : Bool) (lost : Option TurnFault) → Chain Does host (release_calls (owed left)) host'
      → Went Row Does host (at v came taken heard (owed left) closed lost) host' (at v came taken heard [] closed lost)
  pay_went host host' v came taken heard None closed lost same =
      subst (λ (x : H). Went Row Does host (at v came taken heard [] closed lost) x (at v came taken heard [] closed lost)) (sym same)
      (went_none Row Does host (at v came taken heard [] closed lost))
  pay_went host host' v came taken heard (Some user) closed lost (mid, did, same) =
      subst (λ (x : H). Went Row Does host (at v came taken heard (user ∷ []) closed lost) x (at v came taken heard [] closed lost)) (sym same)
      (pays_went host mid v came taken heard user [] closed lost did)

  pub looked_none : (host host' : H) (v : Standing) (came : Option (SideEvent K)) (taken : List Item) (heard : Heard) (closed : Bool) (lost : Option TurnFault) → closed ≡ false → came ≡ None → Does host (Asked (Looks None)) host'
      → Went Row Does host (at v came taken heard [] closed lost) host' (at v came taken (asked_as true heard) [] closed lost)
  looked_none host host' v came taken heard closed lost live none did =
      subst (λ (x : Option (SideEvent K)). Went Row Does host (at v x taken heard [] closed lost) host' (at v x taken (asked_as true heard) [] closed lost)) (sym none)
      (looks_went host host' v taken heard [] closed lost None live did)

  either_same : {X : Type 0} (x y : X) → (x ≡ y) ⊎ (x ≡ y) → x ≡ y
  either_same x y (inl same) = same
  either_same x y (inr same) = same

  came_heard : (given : Given K) (event : SideEvent K) (heard heard' : Heard) → given ≡ Came event → (heard' ≡ heard) ⊎ (heard' ≡ behind given heard) → heard' ≡ heard
  came_heard given event heard heard' is (inl same) = same
  came_heard given event heard heard' is (inr same) = same ∙ ap (λ (g : Given K). behind g heard) is

  pub looked_some : (host mid host' : H) (v v' : Standing) (came came' : Option (SideEvent K)) (event : SideEvent K) (taken : List Item) (heard : Heard) (closed closed' : Bool) (lost lost' : Option TurnFault) (Rest : List Item → Type 0)
      (given : Given K) → closed ≡ false → given ≡ Came event → came ≡ None → Does host (Asked (Looks (Some event))) mid
      → ((last : List Item) × (heard' : Heard) × Went Row Does mid (at v (Some event) taken (asked_as true heard) [] closed lost) host' (at v' came' last heard' [] closed' lost')
      × ((last ≡ taken) ⊎ (last ≡ taken)) × Rest last × ((heard' ≡ asked_as true heard) ⊎ (heard' ≡ behind given (asked_as true heard))))
      → Went Row Does host (at v came taken heard [] closed lost) host' (at v' came' taken (asked_as true heard) [] closed' lost')
  looked_some host mid host' v v' came came' event taken heard closed closed' lost lost' Rest given live is none did (last, heard', went, which, rest, knows) =
      subst (λ (x : Option (SideEvent K)). Went Row Does host (at v x taken heard [] closed lost) host' (at v' came' taken (asked_as true heard) [] closed' lost')) (sym none)
      (went_more Row Does host mid host' _ _ _ (looks_went host mid v taken heard [] closed lost (Some event) live did)
      (subst (λ (h : Heard). Went Row Does mid (at v (Some event) taken (asked_as true heard) [] closed lost) host' (at v' came' taken h [] closed' lost')) (came_heard given event (asked_as true heard) heard' is knows)
      (subst (λ (x : List Item). Went Row Does mid (at v (Some event) taken (asked_as true heard) [] closed lost) host' (at v' came' x heard' [] closed' lost')) (either_same last taken which) went)))

  -- behind a line nothing else changes in what was heard
  pub line_went : (host host' : H) (before : Situation K) (v' : Standing) (came' : Option (SideEvent K)) (last : List Item) (heard heard' : Heard) (closed' : Bool) (lost' : Option TurnFault)
      → (heard' ≡ heard) ⊎ (heard' ≡ asked_as false heard) → Went Row Does host before host' (at v' came' last heard' [] closed' lost')
      → (asked : Bool) × Went Row Does host before host' (at v' came' last (asked_as asked heard) [] closed' lost')
  line_went host host' before v' came' last heard heard' closed' lost' (inl same) went =
      (heard.asked, subst (λ (h : Heard). Went Row Does host before host' (at v' came' last h [] closed' lost')) same went)
  line_went host host' before v' came' last heard heard' closed' lost' (inr same) went =
      (false, subst (λ (h : Heard). Went Row Does host before host' (at v' came' last h [] closed' lost')) same went)

  -- a turn after which as many lines are taken
  pub held_went : (host host' : H) (before : Situation K) (v' : Standing) (came' : Option (SideEvent K)) (taken : List Item) (heard : Heard) (closed' : Bool) (lost' : Option TurnFault) (Rest : List Item → Type 0)
      → ((last : List Item) × (heard' : Heard) × Went Row Does host before host' (at v' came' last heard' [] closed' lost') × ((last ≡ taken) ⊎ (last ≡ taken)) × Rest last × ((heard' ≡ heard) ⊎ (heard' ≡ asked_as false heard)))
      → (asked : Bool) × Went Row Does host before host' (at v' came' taken (asked_as asked heard) [] closed' lost')
  held_went host host' before v' came' taken heard closed' lost' Rest (last, heard', went, which, rest, knows) =
      line_went host host' before v' came' taken heard heard' closed' lost' knows
      (subst (λ (x : List Item). Went Row Does host before host' (at v' came' x heard' [] closed' lost')) (either_same last taken which) went)

  pub asked_went : (host host' : H) (before : Situation K) (v' : Standing) (came' : Option (SideEvent K)) (taken : List Item) (heard : Heard) (closed' : Bool) (lost' : Option TurnFault) (asked : Bool)
      → asked ≡ true → Went Row Does host before host' (at v' came' taken (asked_as asked heard) [] closed' lost') → Went Row Does host before host' (at v' came' taken (asked_as true heard) [] closed' lost')
  asked_went host host' before v' came' taken heard closed' lost' asked is went =
      subst (λ (b : Bool). Went Row Does host before host' (at v' came' taken (asked_as b heard) [] closed' lost')) is went

  pub came_as : (host host' : H) (v : Standing) (x y : Option (SideEvent K)) (taken : List Item) (heard : Heard) (owes : List ℕ) (closed : Bool) (lost : Option TurnFault) (after : Situation K) → x ≡ y
      → Went Row Does host (at v x taken heard owes closed lost) host' after → Went Row Does host (at v y taken heard owes closed lost) host' after
  came_as host host' v x y taken heard owes closed lost after same went = subst (λ (came : Option (SideEvent K)). Went Row Does host (at v came taken heard owes closed lost) host' after) same went

-- what came may come next
pub came_next : {I K : Type 0} (now : Situation K) (event : SideEvent K) (reported : Input I K) (came : Option (SideEvent K)) → given_of reported ≡ Came event → now.came ≡ Some event → came ≡ None → Next now (given_of reported) came now.taken
came_next {I = I} now event reported came is here none = subst (λ (g : Given _). Next now g came now.taken) (sym is) (here, none, refl)

-- an event of the data side holds no line more
pub fewer_came : {K P : Type 0} (given : Given K) (event : SideEvent K) (before after : Standing) → given ≡ Came event → P ⊎ HoldsFewer given before after → P ⊎ (length after.held ≤ length before.held)
fewer_came given event before after is (inl p) = inl p
fewer_came given event before after is (inr fewer) = inr (subst (λ (g : Given _). HoldsFewer g before after) is fewer)

-- the session is to be closed, or fewer lines are held
closed_less : (c0 c2 : Bool) (xs ys : List Item) → c0 ≡ false → c2 ≡ true → open_held c2 xs < open_held c0 ys
closed_less c0 c2 xs ys open_is is =
    subst (λ (b : Bool). open_held c2 xs < open_held b ys) (sym open_is) (subst (λ (b : Bool). open_held b xs < length ys + 1) (sym is) (omega arith))

fewer_less : (c0 c2 : Bool) (xs ys : List Item) → c0 ≡ false → length xs < length ys → open_held c2 xs < open_held c0 ys
fewer_less c0 true xs ys open_is less = closed_less c0 true xs ys open_is refl
fewer_less c0 false xs ys open_is less =
    subst (λ (b : Bool). length xs + 1 < open_held b ys) (sym open_is) (omega (arith, less))

pub held_less : (c0 c2 : Bool) (s0 s2 : Standing) → c0 ≡ false → (c2 ≡ true) ⊎ (length s2.held < length s0.held) → open_held c2 s2.held < open_held c0 s0.held
held_less c0 c2 s0 s2 open_is (inl closed) = closed_less c0 c2 s2.held s0.held open_is closed
held_less c0 c2 s0 s2 open_is (inr fewer) = fewer_less c0 c2 s2.held s0.held open_is fewer

-- a held line is taken, and after it events hold no line more
pub fewer_held : (c1 c2 : Bool) (s0 s1 s2 : Standing) → due s0 ≡ true → c1 ≡ false → (c1 ≡ true) ⊎ (due s0 ≡ true → length s1.held < length s0.held)
    → (c2 ≡ true) ⊎ (length s2.held ≤ length s1.held) → (c2 ≡ true) ⊎ (length s2.held < length s0.held)
fewer_held c1 c2 s0 s1 s2 is live (inl closed) after = absurd (false≢true (sym live ∙ closed))
fewer_held c1 c2 s0 s1 s2 is live (inr fewer) (inl closed) = inl closed
fewer_held c1 c2 s0 s1 s2 is live (inr fewer) (inr no_more) = inr (omega (arith, fewer is, no_more))
