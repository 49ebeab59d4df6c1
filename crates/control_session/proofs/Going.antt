-- How what was done one after another fits together.
use Rattle.std.specs.Result.{IfOk, IsErr, OnErr, OnOk}
use Rattle.std.proofs.lemmas.Bool.{false≢true}
use Rattle.std.proofs.Common.{Result, Ok, Err, true, false, ◌||◌, ◌⊎◌, inl, inr, ℕ, ◌≡◌, ◌+◌, ◌<◌, length, drop, List, [], ◌∷◌, ◌++◌, Bool, Option, refl, sym, ap, subst, append_assoc, ◌∙◌}
use Rattle.std.proofs.lemmas.List.{append-nil, drop_more}
use lib.ListN.{get_or}
use Rattle.authorizer.specs.Users.{Users}
use Rattle.control_session.specs.Sides.{Given}
use Rattle.rate_floors.specs.Promises.{Promises}
use Rattle.session_table.specs.Laws.{release_by, releases}
use Rattle.session_table.specs.Steps.{Standing}
use Rattle.session_table.specs.declared.actions.Action.{Action}
use Rattle.control_session.specs.declared.turn_fault.TurnFault.{TurnFault}
use Rattle.control_session.specs.declared.host.Piece.{Piece}
use Rattle.control_session.specs.Calls.{Chain, HostCall, piece_call}
use Rattle.control_session.specs.Calls.HostCall.{Released}
use Rattle.control_session.specs.Rows.{Outcome}
use Rattle.control_session.specs.Turns.{Carried, Carries, Move, Runs, Situation, Went, WhileOpen, concat, release_calls}
use Rattle.control_session.specs.Turns.Move.{Takes, Tries, Declines, Asks, Reads, Ends, Fails, Pays}

module _ {H A S R K : Type 0} (Does : H → HostCall A S R K → H → Type 0) where
  pub chain_more : (a b c : H) (xs ys : List (HostCall A S R K)) → Chain Does a xs b → Chain Does b ys c → Chain Does a (xs ++ ys) c
  chain_more a b c [] ys same rest = subst (λ (x : H). Chain Does x ys c) same rest
  chain_more a b c (x ∷ xs) ys (mid, did, more) rest = (mid, did, chain_more mid b c xs ys more rest)

  pub chain_one : (a b : H) (call : HostCall A S R K) → Does a call b → Chain Does a (call ∷ []) b
  chain_one a b call did = (b, did, refl)

pub concat_more : {X : Type 0} (xss yss : List (List X)) → concat (xss ++ yss) ≡ concat xss ++ concat yss
concat_more [] yss = refl
concat_more (xs ∷ xss) yss = ap (λ (x : List _). xs ++ x) (concat_more xss yss) ∙ sym (append_assoc xs (concat xss) (concat yss))

pub releases_more : {A S R K : Type 0} (xs ys : List ℕ) → release_calls {A = A} {S = S} {R = R} {K = K} (xs ++ ys) ≡ release_calls xs ++ release_calls ys
releases_more [] ys = refl
releases_more {A = A} {S = S} {R = R} {K = K} (x ∷ xs) ys = ap (λ (es : List (HostCall A S R K)). Released x ∷ es) (releases_more xs ys)

module _ {A S R K : Type 0} (Row : Users → Standing → Given K → ℕ → S → S → Promises → Outcome A R K → Type 0) where
  pub runs_more : (before mid after : Situation K) (xs ys : List (List (HostCall A S R K))) → Runs Row xs before mid → Runs Row ys mid after → Runs Row (xs ++ ys) before after
  runs_more before mid after [] ys same rest = subst (λ (x : Situation K). Runs Row ys x after) same rest
  runs_more before mid after (x ∷ xs) ys (next, move, more) rest = (next, move, runs_more next mid after xs ys more rest)

  -- moves of a session that is not over are moves
  open_move : (before after : Situation K) (calls : List (HostCall A S R K)) → Move (WhileOpen Row) before calls after → Move Row before calls after
  open_move before after calls (Takes turn) = Takes (record {
    given = turn.given;
    moment = turn.moment;
    users = turn.users;
    store = turn.store;
    store' = turn.store';
    promises = turn.promises;
    promises' = turn.promises';
    actions = turn.actions;
    paid = turn.paid;
    carried = turn.carried;
    next = turn.next;
    row = turn.row.1;
    owes = turn.owes;
    carries = turn.carries;
    closed = turn.closed;
    heard = turn.heard;
    trace = turn.trace;
  })
  open_move before after calls (Tries given moment users store store' promises came taken next stopped same is) = Tries given moment users store store' promises came taken next stopped.1 same is
  open_move before after calls (Declines given came taken next line same is) = Declines given came taken next line same is
  open_move before after calls (Asks event empty same is) = Asks event empty same is
  open_move before after calls (Reads octets items idle live unended same is) = Reads octets items idle live unended same is
  open_move before after calls (Ends idle live unended same is) = Ends idle live unended same is
  open_move before after calls (Fails idle live unended same is) = Fails idle live unended same is
  open_move before after calls (Pays user owed owes same is) = Pays user owed owes same is

  open_runs : (moves : List (List (HostCall A S R K))) (before after : Situation K) → Runs (WhileOpen Row) moves before after → Runs Row moves before after
  open_runs [] before after same = same
  open_runs (calls ∷ moves) before after (mid, move, more) = (mid, open_move before mid calls move, open_runs moves mid after more)

  module _ {H : Type 0} (Does : H → HostCall A S R K → H → Type 0) where
    pub open_went : (host host' : H) (before after : Situation K) → Went (WhileOpen Row) Does host before host' after → Went Row Does host before host' after
    open_went host host' before after went = record { moves = went.moves; asked = went.asked; runs = open_runs went.moves before after went.runs }

    pub went_none : (host : H) (now : Situation K) → Went Row Does host now host now
    went_none host now = record { moves = []; asked = refl; runs = refl }

    pub went_one : (host host' : H) (calls : List (HostCall A S R K)) (before after : Situation K) → Chain Does host calls host' → Move Row before calls after → Went Row Does host before host' after
    went_one host host' calls before after chain move = record {
      moves = calls ∷ [];
      asked = subst (λ (x : List (HostCall A S R K)). Chain Does host x host') (sym (append-nil calls)) chain;
      runs = (after, move, refl);
    }

    pub went_more : (h0 h1 h2 : H) (x0 x1 x2 : Situation K) → Went Row Does h0 x0 h1 x1 → Went Row Does h1 x1 h2 x2 → Went Row Does h0 x0 h2 x2
    went_more h0 h1 h2 x0 x1 x2 first second = record {
      moves = first.moves ++ second.moves;
      asked = subst (λ (x : List (HostCall A S R K)). Chain Does h0 x h2) (sym (concat_more first.moves second.moves))
          (chain_more Does h0 h1 h2 (concat first.moves) (concat second.moves) first.asked second.asked);
      runs = runs_more x0 x1 x2 first.moves second.moves first.runs second.runs;
    }

module _ {A S R K : Type 0} where
  -- one action more is carried out
  pub carries_step : (action : Action A R K) (actions left : List (Action A R K)) (before mid after : Option TurnFault) (first rest : List (HostCall A S R K)) → left ≡ action ∷ actions
      → Carried action before first mid → Carries actions mid rest after → Carries left before (first ++ rest) after
  carries_step action actions left before mid after first rest is carried carries =
      subst (λ (x : List (Action A R K)). Carries x before (first ++ rest) after) (sym is) (first, rest, mid, refl, carried, carries)

  -- the floor of one action more of a loop's is released
  pub releases_step : {H : Type 0} (Does : H → HostCall A S R K → H → Type 0) (host mid host' : H) (all done : List ℕ) (actions : List (Action A R K)) (i : ℕ) (x : Action A R K) → i < length actions → x ≡ get_or actions i x
      → Chain Does host (release_calls done) mid → Chain Does mid (release_calls (release_by x)) host' → all ≡ done ++ releases (drop i actions)
      → (more : List ℕ) × Chain Does host (release_calls more) host' × (all ≡ more ++ releases (drop (i + 1) actions))
  releases_step Does host mid host' all done actions i x less same first second is =
      let one = release_by x in (
        done ++ one,
        subst (λ (calls : List (HostCall A S R K)). Chain Does host calls host') (sym (releases_more done one)) (chain_more Does host mid host' (release_calls done) (release_calls one) first second),
        is ∙ (ap (λ (t : List ℕ). done ++ t) (ap releases (drop_more actions i x less ∙ ap (λ (y : Action A R K). y ∷ drop (i + 1) actions) (sym same))) ∙ sym (append_assoc done one (releases (drop (i + 1) actions)))),
      )

-- of an answer that is Err, what holds of Ok says nothing
pub off_ok : {T E : Type 0} (answer : Result T E) (P : Type 0) → IsErr answer → OnOk answer P
off_ok (Ok value) P is = absurd (false≢true is)
off_ok (Err fault) P is = tt

pub of_err : {T E : Type 0} (answer : Result T E) (P : T → Type 0) (Q : Type 0) → IsErr answer → Q → IfOk answer P × OnErr answer Q
of_err (Ok value) P Q is holds = absurd (false≢true is)
of_err (Err fault) P Q is holds = (tt, holds)

pub or_false : (b : Bool) → (b || false) ≡ b
or_false true = refl
or_false false = refl

pub heard_as : {H A S R K : Type 0} (Does : H → HostCall A S R K → H → Type 0) (host host' : H) (buffer : List ℕ) (p q : Piece) → p ≡ q → Does host (piece_call p buffer) host' → Does host (piece_call q buffer) host'
heard_as Does host host' buffer p q same did = subst (λ (x : Piece). Does host (piece_call x buffer) host') same did

pub of_err_ok : {T E : Type 0} (answer : Result T E) (P Q : Type 0) → IsErr answer → Q → OnOk answer P × OnErr answer Q
of_err_ok (Ok value) P Q is holds = absurd (false≢true is)
of_err_ok (Err fault) P Q is holds = (tt, holds)

pub on_ok_to : {T E : Type 0} (answer : Result T E) (P Q : Type 0) → (P → Q) → OnOk answer P → OnOk answer Q
on_ok_to (Ok value) P Q to p = to p
on_ok_to (Err fault) P Q to p = tt

pub pick : (b : Bool) (P : Type 0) → (b ≡ true) ⊎ P → b ≡ false → P
pick b P (inl is) other = absurd (false≢true (sym other ∙ is))
pick b P (inr holds) other = holds

pub second_to : {P Q R : Type 0} → (Q → R) → P ⊎ Q → P ⊎ R
second_to to (inl p) = inl p
second_to to (inr q) = inr (to q)

pub stays_or : (a b r : Bool) → r ≡ (a || b) → a ≡ true → r ≡ true
stays_or a b r is same = is ∙ ap (λ (x : Bool). x || b) same

pub over_by : (b : Bool) (P Q : Type 0) → (b ≡ true) ⊎ P → Q → (b ≡ true) ⊎ (Q × P)
over_by b P Q (inl is) ended = inl is
over_by b P Q (inr all) ended = inr (ended, all)

pub any_ok : {T E : Type 0} (answer : Result T E) (P : Type 0) → P → OnOk answer P
any_ok (Ok value) P holds = holds
any_ok (Err fault) P holds = tt
