-- The floors that a step counts and asks to release.
use Rattle.std.proofs.Common.{ℕ, ◌≡◌, ◌+◌, ◌-◌, inl, inr, List, [], ◌∷◌, ◌++◌, map, Bool, true, false, cond, Option, Some, None, refl, sym, ap, subst, ◌∙◌, arith}
use Rattle.std.proofs.lemmas.Bool.{false≢true}
use Rattle.std.proofs.lemmas.Bool.Decides.{nat_tests}
use Rattle.std.proofs.lemmas.List.{append-nil}
use Rattle.std.specs.Prelude.{nat_eq, nat_lt}
use Rattle.authorizer.specs.Users.{Users}
use Rattle.control_session.specs.Sides.{Given}
use Rattle.line_rates.proofs.RowLemmas.{first_row, get-by_number}
use Rattle.rate_floors.specs.Promises.{Promises, admits, after_release, counted, has_session, one_less, one_more, released, user_key, with_sessions}
use Rattle.rate_floors.specs.declared.find.UserSessions.{UserSessions}
use Rattle.session_table.proofs.InputLaws.{floors_are_released_once}
use Rattle.session_table.specs.Always.{Always}
use Rattle.session_table.specs.Laws.{FloorsAreReleasedOnce, Releases, logged_in, releases}
use Rattle.session_table.specs.Steps.{SessionStep, Standing}
use Rattle.session_table.specs.Plans.{Plan, Ran}
use Rattle.session_table.specs.Plans.Plan.{Then, WithLine, WithLines, Ask, AskAdmit}
use Rattle.session_table.specs.Table.{table}
use Rattle.session_table.specs.Views.{View, is_closed, is_inside}
use Rattle.session_table.specs.declared.actions.Action.{Action}
use Rattle.session_table.specs.declared.inputs.Input.{Input}
use Rattle.session_table.specs.declared.stages.Stage.{Stage}
use Rattle.session_table.specs.declared.stages.Stage.TheVariants as stage
use Rattle.virtual_tree.specs.Calls.{Exchange}
use Rattle.control_session.specs.Rows.{IsMade}

-- ---- one more session of a user, and one less

-- an entry changed, or not
abbrev entry_if : (ℕ → ℕ) → Bool → UserSessions → UserSessions
entry_if change b entry = cond b (record { row = entry.row; sessions = change entry.sessions }) entry

key_stays : (change : ℕ → ℕ) (b : Bool) (entry : UserSessions) → user_key (entry_if change b entry) ≡ user_key entry
key_stays change true entry = refl
key_stays change false entry = refl

with_as : (change : ℕ → ℕ) (user : ℕ) (c b : Bool) (change' : ℕ → ℕ) (entry : UserSessions) → nat_eq (user_key entry) user ≡ c
    → with_sessions change user (entry_if change' b entry) ≡ entry_if change c (entry_if change' b entry)
with_as change user c b change' entry is =
    ap (λ (k : ℕ). entry_if change (nat_eq k user) (entry_if change' b entry)) (key_stays change' b entry) ∙ ap (λ (t : Bool). entry_if change t (entry_if change' b entry)) is

less_more : (n : ℕ) → (n + 1) - 1 ≡ n
less_more n = omega arith

undone : (b : Bool) (entry : UserSessions) → entry_if one_less b (entry_if one_more b entry) ≡ entry
undone true entry = ap (λ (n : ℕ). record { row = entry.row; sessions = n }) (less_more entry.sessions)
undone false entry = refl

swapped : (b c : Bool) (entry : UserSessions) → entry_if one_more b (entry_if one_more c entry) ≡ entry_if one_more c (entry_if one_more b entry)
swapped true true entry = refl
swapped true false entry = refl
swapped false true entry = refl
swapped false false entry = refl

entries_back : (user : ℕ) (entries : List UserSessions) → map (with_sessions one_less user) (map (with_sessions one_more user) entries) ≡ entries
entries_back user [] = refl
entries_back user (entry ∷ entries) =
    let b = nat_eq (user_key entry) user in
    ap (λ (x : UserSessions). x ∷ map (with_sessions one_less user) (map (with_sessions one_more user) entries)) (with_as one_less user b b one_more entry refl ∙ undone b entry)
    ∙ ap (λ (xs : List UserSessions). entry ∷ xs) (entries_back user entries)

entries_swap : (first second : ℕ) (entries : List UserSessions)
    → map (with_sessions one_more first) (map (with_sessions one_more second) entries) ≡ map (with_sessions one_more second) (map (with_sessions one_more first) entries)
entries_swap first second [] = refl
entries_swap first second (entry ∷ entries) =
    let b = nat_eq (user_key entry) first in
    let c = nat_eq (user_key entry) second in
    ap (λ (x : UserSessions). x ∷ map (with_sessions one_more first) (map (with_sessions one_more second) entries))
    (with_as one_more first b c one_more entry refl ∙ (swapped b c entry ∙ sym (with_as one_more second c b one_more entry refl)))
    ∙ ap (λ (xs : List UserSessions). with_sessions one_more second (with_sessions one_more first entry) ∷ xs) (entries_swap first second entries)

pub counted_swap : (first second : ℕ) (p : Promises) → counted (counted p second) first ≡ counted (counted p first) second
counted_swap first second p = ap (λ (us : List UserSessions). record { rates = p.rates; users = us }) (entries_swap first second p.users)

has_one : (n : ℕ) → nat_lt 0 (n + 1) ≡ true
has_one n = grind (arith, nat_tests)

-- the first entry of a user has a session more
more_stands : (user : ℕ) (entries : List UserSessions) (entry : UserSessions) → first_row user_key user entries ≡ Some entry
    → has_session (first_row user_key user (map (with_sessions one_more user) entries)) ≡ true
more_stands user [] entry is = absurd (cc)
more_stands user (x ∷ xs) entry is = by (λ f. more_stands user xs entry f) (nat_eq (user_key x) user) refl is
  where
    rest : Option UserSessions
    rest = first_row user_key user (map (with_sessions one_more user) xs)

    shape : Bool → Bool → Bool
    shape b c = has_session (cond c (Some (entry_if one_more b x)) rest)

    at : (b : Bool) → nat_eq (user_key x) user ≡ b → has_session (first_row user_key user (map (with_sessions one_more user) (x ∷ xs))) ≡ shape b b
    at b t = ap (λ (c : Bool). has_session (cond (nat_eq (user_key (entry_if one_more c x)) user) (Some (entry_if one_more c x)) rest)) t
        ∙ (ap (λ (k : ℕ). shape b (nat_eq k user)) (key_stays one_more b x) ∙ ap (shape b) t)

    by : (first_row user_key user xs ≡ Some entry → has_session rest ≡ true)
        → (b : Bool) → nat_eq (user_key x) user ≡ b → cond b (Some x) (first_row user_key user xs) ≡ Some entry → has_session (first_row user_key user (map (with_sessions one_more user) (x ∷ xs))) ≡ true
    by more true t f = at true t ∙ has_one x.sessions
    by more false t f = at false t ∙ more f

-- where a user has no entry, nothing changes
entries_same : (user : ℕ) (entries : List UserSessions) → first_row user_key user entries ≡ None → map (with_sessions one_more user) entries ≡ entries
entries_same user [] is = refl
entries_same user (x ∷ xs) is = by (λ f. entries_same user xs f) (nat_eq (user_key x) user) refl is
  where
    by : (first_row user_key user xs ≡ None → map (with_sessions one_more user) xs ≡ xs)
        → (b : Bool) → nat_eq (user_key x) user ≡ b → cond b (Some x) (first_row user_key user xs) ≡ None → map (with_sessions one_more user) (x ∷ xs) ≡ x ∷ xs
    by more true t f = absurd (cc)
    by more false t f = ap (λ (y : UserSessions). y ∷ map (with_sessions one_more user) xs) (ap (λ (b : Bool). entry_if one_more b x) t) ∙ ap (λ (ys : List UserSessions). x ∷ ys) (more f)

-- a session that is counted, and then released
pub released_back : (user : ℕ) (p : Promises) → after_release (counted p user) user ≡ p
released_back user p = by (first_row user_key user p.users) refl
  where
    back : released (counted p user) user ≡ p
    back = ap (λ (us : List UserSessions). record { rates = p.rates; users = us }) (entries_back user p.users)

    by : (found : Option UserSessions) → first_row user_key user p.users ≡ found → after_release (counted p user) user ≡ p
    by None is =
        let none = get-by_number user_key user p.users ∙ is in
        let same = ap (λ (us : List UserSessions). record { rates = p.rates; users = us }) (entries_same user p.users is) in
        ap (λ (q : Promises). after_release q user) same ∙ ap (λ (o : Option UserSessions). cond (has_session o) (released p user) p) none
    by (Some entry) is =
        ap (λ (b : Bool). cond b (released (counted p user) user) (counted p user))
        (ap has_session (get-by_number user_key user (counted p user).users) ∙ more_stands user p.users entry is)
        ∙ back

-- one more session of each of these users
abbrev pub counts : List ℕ → Promises → Promises
counts [] p = p
counts (user ∷ users) p = counted (counts users p) user

-- ---- what a row counts and asks to release

-- a plan that ran has ended in one of its ways, and those who were admitted are counted then
ran_ends : {S A R K : Type 0} (Step : S → Exchange R K → S → Type 0) (Ends : List ℕ → View → List (Action A R K) → Type 0)
    (plan : Plan A R K) (old new : S) (first p p' : Promises) (admitted : List ℕ) (view : View) (actions : List (Action A R K))
    → p ≡ counts admitted first → Always (λ call. Unit {0}) (λ user. Unit {0}) Ends admitted plan → Ran Step plan old new p p' view actions
    → (users : List ℕ) × (p' ≡ counts users first) × Ends users view actions
ran_ends Step Ends (Then v ways) old new first p p' admitted view actions counted_is is (same, p'_is, v_is, same_actions) =
    (admitted, p'_is ∙ counted_is, subst (λ (x : View). Ends admitted x actions) (sym v_is) (subst (λ (x : List (Action _ _ _)). Ends admitted v x) (sym same_actions) is))
ran_ends Step Ends (WithLine reported next) old new first p p' admitted view actions counted_is is (line, reporting, ran) = ran_ends Step Ends (next line) old new first p p' admitted view actions counted_is (is line) ran
ran_ends Step Ends (WithLines reported next) old new first p p' admitted view actions counted_is is (lines, reporting, ran) = ran_ends Step Ends (next lines) old new first p p' admitted view actions counted_is (is lines) ran
ran_ends Step Ends (Ask call next) old new first p p' admitted view actions counted_is is (answer, mid, step, ran) = ran_ends Step Ends (next answer) mid new first p p' admitted view actions counted_is (is.1 answer) ran
ran_ends {A = A} {R = R} {K = K} Step Ends (AskAdmit user next) old new first p p' admitted view actions counted_is is ran =
    by (admits p user) (λ q q_is fits. ran_ends Step Ends (next true) old new first q p' (user ∷ admitted) view actions q_is fits)
    (λ q q_is fits. ran_ends Step Ends (next false) old new first q p' admitted view actions q_is fits) ran
  where
    Goal : Type 0
    Goal = (users : List ℕ) × (p' ≡ counts users first) × Ends users view actions

    Fits : Bool → List ℕ → Type 0
    Fits fits users = Always (λ call. Unit {0}) (λ user. Unit {0}) Ends users (next fits)

    by : (fits : Bool) → ((q : Promises) → q ≡ counts (user ∷ admitted) first → Fits true (user ∷ admitted) → Ran Step (next true) old new q p' view actions → Goal)
        → ((q : Promises) → q ≡ counts admitted first → Fits false admitted → Ran Step (next false) old new q p' view actions → Goal)
        → Ran Step (next fits) old new (cond fits (counted p user) p) p' view actions → Goal
    by true then otherwise ran = then (counted p user) (ap (λ (q : Promises). counted q user) counted_is) is.1 ran
    by false then otherwise ran = otherwise p counted_is is.2 ran

-- more users are counted; they and those who were logged in are those that are released and those who are logged in then
abbrev pub Balanced : List ℕ → Promises → Promises → List ℕ → List ℕ → Type 0
Balanced before p p' released after = (more : List ℕ) × (p' ≡ counts more p) × (more ++ before ≡ released ++ after)

balanced : (admitted before released after : List ℕ) (p p' : Promises) → Releases admitted before released after → p' ≡ counts admitted p → Balanced before p p' released after
balanced (user ∷ []) before released after p p' (nobody, none, only) is =
    (user ∷ [], is, ap (λ (l : List ℕ). user ∷ l) nobody ∙ sym (ap (λ (l : List ℕ). l ++ after) none ∙ only))
balanced (user ∷ other ∷ others) before released after p p' impossible is = absurd impossible
balanced [] before released after p p' (inl (none, same)) is = ([], is, sym (ap (λ (l : List ℕ). l ++ after) none ∙ same))
balanced [] before released after p p' (inr (all, gone)) is = ([], is, sym (ap (λ (l : List ℕ). released ++ l) gone ∙ (append-nil released ∙ all)))

module _ {S A R K : Type 0} (Step : S → Exchange R K → S → Type 0) (users : Users) where
  step_balances : (law : FloorsAreReleasedOnce A R K) (before after : Standing) (moment : ℕ) (reported : Input A K) (old new : S) (p p' : Promises) (actions : List (Action A R K))
      → SessionStep Step users before.view before.held moment reported old new p p' after.view after.held actions
      → Balanced (logged_in before.view) p p' (releases actions) (logged_in after.view)
  unfolding SessionStep FloorsAreReleasedOnce
  step_balances law before after moment reported old new p p' actions (ran, held_is) =
      let ended = ran_ends Step (λ admitted then actions. Releases admitted (logged_in before.view) (releases actions) (logged_in then))
      (table {A = A} {R = R} {K = K} users before.view before.held moment reported).plan old new p p p' [] after.view actions refl (law users before.view before.held moment reported) ran in
      balanced ended.0 (logged_in before.view) (releases actions) (logged_in after.view) p p' ended.2 ended.1

  pub row_balances : (before after : Standing) (given : Given K) (moment : ℕ) (store store' : S) (p p' : Promises) (actions : List (Action A R K))
      → IsMade Step users before given moment store store' p p' after actions → Balanced (logged_in before.view) p p' (releases actions) (logged_in after.view)
  row_balances before after given moment store store' p p' actions row =
      step_balances (floors_are_released_once A R K) before after moment row.reported store store' p p' actions row.stepped

-- nobody is logged in where the control connection is gone
pub gone_counts : (view : View) → is_closed view.stage ≡ true → logged_in view ≡ []
gone_counts view closed = by view.stage closed
  where
    by : (now : Stage) → is_closed now ≡ true → cond (is_inside now) (view.number ∷ []) [] ≡ []
    by stage.Greeted is = refl
    by stage.Named is = refl
    by stage.Inside is = absurd (false≢true is)
    by stage.Closed is = refl
