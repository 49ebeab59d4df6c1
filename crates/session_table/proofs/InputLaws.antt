-- What each input does, and never does.
use Rattle.std.proofs.Common.{◌≡◌, ℕ, ◌≤◌, Bool, true, false, cond, not, ◌&&◌, List, [], ◌∷◌, ◌++◌, length, length-append, Option, Some, None, Result, Ok, refl, sym, ap, ◌∙◌, inl, inr, arith, nat_lt}
use Rattle.std.proofs.lemmas.Bool.{false≢true, ltb-true}
use Rattle.authorizer.specs.Users.{Users}
use Rattle.ftp_terms.specs.declared.letters.Letter.{Letter}
use Rattle.ftp_wire.specs.Items.{Item}
use Rattle.ftp_wire.specs.Reading.{item_of}
use Rattle.ftp_wire.specs.declared.commands.Command.TheVariants as command
use Rattle.ftp_wire.specs.declared.items.LineItem.{LineItem}
use Rattle.virtual_tree.specs.declared.fault.StoreFault.{StoreFault}
use Rattle.session_table.specs.Always.{Always}
use Rattle.session_table.specs.Laws.{AdmissionsAreRightful, CallsAreRightful, FewLinesAreHeld, FloorsAreReleasedOnce, NoCallsOutside, NoTransferUnprepared, OneThingIsAsked, OthersAskNoFloors, IsAllowedAt, IsAllowedCall, IsAllowedFor, IsReturned, IsRightful, IsRightfulAdmission, Releases, asking, logged_in, most_asked, releases, starting}
use Rattle.session_table.proofs.Keeping.{always_cond, always_taken, always_to}
use Rattle.session_table.proofs.Rows.{CallFor, Fine, Quiet, UserFor, parting, quiet_then, served_fine, stays}
use Rattle.session_table.specs.declared.actions.Action.{Action}
use Rattle.session_table.specs.declared.actions.Action.TheVariants as action
use Rattle.session_table.specs.declared.actions.HookCall.TheVariants as hook
use Rattle.session_table.specs.declared.answers.Answer.{Answer}
use Rattle.session_table.specs.declared.answers.Answer.TheVariants as answer
use Rattle.session_table.specs.declared.inputs.End.{End}
use Rattle.session_table.specs.declared.inputs.End.TheVariants as ended
use Rattle.session_table.specs.declared.inputs.Input.{Input}
use Rattle.session_table.specs.declared.inputs.Input.TheVariants as input
use Rattle.session_table.specs.declared.refusals.Refusal.TheVariants as refusal
use Rattle.session_table.specs.declared.stages.Control.{Control}
use Rattle.session_table.specs.declared.stages.Control.TheVariants.{Open, Quitting, Closing}
use Rattle.session_table.specs.declared.rules.NamedRow.{NamedRow}
use Rattle.session_table.specs.declared.rules.NamedRow.TheVariants as row
use Rattle.session_table.specs.declared.stages.TransferContent.{TransferContent}
use Rattle.session_table.specs.declared.stages.TransferContent.TheVariants.{Listing as listing, Sending, Taking}
use Rattle.session_table.specs.declared.stages.Passive.{Passive}
use Rattle.session_table.specs.declared.stages.Work.{Work}
use Rattle.session_table.specs.declared.stages.Work.TheVariants.{Idle}
use Rattle.session_table.specs.Plans.{Plan}
use Rattle.session_table.specs.Plans.Plan.{Then}
use Rattle.session_table.specs.Steps.{in_its_turn, is_pass, is_pass_turn}
use Rattle.session_table.specs.Table.{Taken, aborts, and_quits, beside, closed_row, end_hook, end_reply, end_row, end_reported, ended_by, ended_row, ended_with, held_row, holds, idle, in_turn, meanwhile, most_held, ready_as, ready_by, ready_row, served, table}
use Rattle.session_table.specs.Calls.{Call}
use Rattle.session_table.specs.Views.{View, awaited, awaits_ports, counts_lines, is_aborted, is_busy, is_closed, is_inside, running, runs, serves_lines}
use Rattle.virtual_path.specs.Path.{Path}

module _ (A R K : Type 0) where
  -- ---- lists of actions that start, ask for and release nothing

  none : Quiet A R K []
  none = record { starts_none = refl; asks_none = refl; releases_none = refl }

  saying : (reply : Answer A) → Quiet A R K (action.Say reply ∷ [])
  saying reply = record { starts_none = refl; asks_none = refl; releases_none = refl }

  hooking : (content : TransferContent Path) (end : End) → Quiet A R K (end_hook content end)
  hooking listing end = none
  hooking (Sending path) ended.Done = record { starts_none = refl; asks_none = refl; releases_none = refl }
  hooking (Sending path) _ = record { starts_none = refl; asks_none = refl; releases_none = refl }
  hooking (Taking path) ended.Done = record { starts_none = refl; asks_none = refl; releases_none = refl }
  hooking (Taking path) _ = record { starts_none = refl; asks_none = refl; releases_none = refl }

  unless : (aborted : Bool) (reply : Answer A) → Quiet A R K (cond aborted [] (action.Say reply ∷ []))
  unless true reply = none
  unless false reply = saying reply

  replying : (control : Control) (aborted : Bool) (reply : Answer A) → Quiet A R K (end_reply control aborted reply)
  replying Closing aborted reply = none
  replying Open aborted reply = unless aborted reply
  replying Quitting aborted reply = unless aborted reply

  aborting : (runs : Bool) → Quiet A R K (cond runs (action.Abort ∷ []) [])
  aborting true = record { starts_none = refl; asks_none = refl; releases_none = refl }
  aborting false = none

  -- what the end of the control connection leaves to do
  abbrev gone : View → Bool → Bool → List (Action A R K)
  gone view runs inside = cond runs (action.Abort ∷ []) [] ++ cond inside (action.Hook (hook.Logout view.name) ∷ action.ReleaseFloor view.number ∷ []) [] ++ (action.Hook hook.Disconnect ∷ [])

  gone_starts : (view : View) (runs inside : Bool) → starting (gone view runs inside) ≡ 0
  gone_starts view true true = refl
  gone_starts view true false = refl
  gone_starts view false true = refl
  gone_starts view false false = refl

  gone_asks : (view : View) (runs inside : Bool) → asking (gone view runs inside) ≡ 0
  gone_asks view true true = refl
  gone_asks view true false = refl
  gone_asks view false true = refl
  gone_asks view false false = refl

  gone_releases : (view : View) (runs inside : Bool) → releases (gone view runs inside) ≡ cond inside (view.number ∷ []) []
  gone_releases view true true = refl
  gone_releases view true false = refl
  gone_releases view false true = refl
  gone_releases view false false = refl

  -- ---- inputs that are no lines

  module _ (C : Call K → Type 0) (U : ℕ → Type 0) (users : Users) (view : View) where
    abbrev E : List ℕ → View → List (Action A R K) → Type 0
    E = Fine A R K view 0

    quits : (work : Work Path) (prepared : Bool) (actions : List (Action A R K)) (control : Control) → Quiet A R K actions
        → Always C U E [] (and_quits users (record view { work = work; prepared = prepared }) actions control)
    quits work prepared actions Open quiet = stays A R K view _ 0 actions quiet refl
    quits work prepared actions Quitting quiet = parting A R K view _ 0 _ actions quiet refl
    quits work prepared actions Closing quiet = stays A R K view _ 0 actions quiet refl

    rests_fine : Always C U E [] (idle view)
    rests_fine = stays A R K view view 0 [] none refl

    ready_fine : (port : Option ℕ) → Always C U E [] (ready_row users view port)
    ready_fine port = by (awaited view.work)
      where
        at : (passive : Passive) (port : Option ℕ) → Always C U E [] (ready_as users view passive port)
        at passive (Some port) = quits Idle true _ view.control (saying _)
        at passive None = quits Idle view.prepared _ view.control (saying _)

        by : (passive : Option Passive) → Always C U E [] (ready_by users view port passive)
        by None = rests_fine
        by (Some passive) = at passive port

    closed_fine : Always C U E [] (closed_row view)
    closed_fine = record {
      unprepared = λ _. gone_starts view (runs view.work) (is_inside view.stage);
      asks = omega (arith, gone_asks view (runs view.work) (is_inside view.stage));
      floors = inr (gone_releases view (runs view.work) (is_inside view.stage), refl);
    }

    end_fine : (content : TransferContent Path) (aborted : Bool) (end : End) (finished : Result (Unit {0}) StoreFault) → Always C U E [] (end_row users view content aborted end finished)
    end_fine content aborted end finished = always_cond C U E (is_closed view.stage) _ _ (stays A R K view _ 0 [] none refl)
        (quits Idle view.prepared _ view.control (quiet_then A R K (end_reply view.control aborted (end_reported end finished)) (end_hook content end) (replying view.control aborted _) (hooking content end)))

  abbrev over : End → Option K → Input A K
  over end sink = input.TransferEnded end sink

  ended_fine : (U : ℕ → Type 0) (users : Users) (view : View) (held : List Item) (moment : ℕ) (end : End) (sink : Option K)
      → Always (IsRightful users view held moment (over end sink)) U (Fine A R K view 0) [] (ended_row users view moment end sink)
  ended_fine U users view held moment end sink = by sink (running view.work)
    where
      with : (sink : Option K) (content : TransferContent Path)
          → Always (IsRightful users view held moment (over end sink)) U (Fine A R K view 0) [] (ended_with users view moment content (is_aborted view.work) end sink)
      with (Some sink) content = (inl (refl, refl), λ answer. end_fine (IsRightful users view held moment (over end (Some sink))) U users view content (is_aborted view.work) end answer)
      with None content = end_fine (IsRightful users view held moment (over end None)) U users view content (is_aborted view.work) end (Ok tt)

      by : (sink : Option K) (content : Option (TransferContent Path))
          → Always (IsRightful users view held moment (over end sink)) U (Fine A R K view 0) [] (ended_by users view moment end sink content)
      by sink None = stays A R K view view 0 [] none refl
      by sink (Some content) = with sink content

  -- ---- lines

  not_pass : {X : Type 0} (users : Users) (view : View) (item : Item) (number : ℕ) → is_pass item ≡ false → UserFor A R K users view item number → X
  not_pass users view item number is user = absurd (false≢true (sym is ∙ ap is_pass user.1))

  module _ (users : Users) (view : View) (moment : ℕ) where
    abbrev Ends : List ℕ → View → List (Action A R K) → Type 0
    Ends = Fine A R K view 1

    idle_fine : (C : Call K → Type 0) (U : ℕ → Type 0) → Always C U Ends [] (idle view)
    idle_fine C U = stays A R K view view 1 [] none refl

    holds_fine : (C : Call K → Type 0) (U : ℕ → Type 0) (held : List Item) (item : Item) → Always C U Ends [] (holds {A = A} {R = R} {K = K} view held item).plan
    holds_fine C U held item = always_taken C U Ends (nat_lt (length held) most_held) _ _ (idle_fine C U)
        (stays A R K view _ 1 _ (quiet_then A R K ((action.Say (answer.Refusal refusal.TooManyHeldLines) ∷ []) ++ aborts view) (action.CloseControl ∷ [])
        (quiet_then A R K (action.Say (answer.Refusal refusal.TooManyHeldLines) ∷ []) (aborts view) (saying _) (aborting (runs view.work)))
        (record { starts_none = refl; asks_none = refl; releases_none = refl })) refl)

    -- a line that is served at once is not PASS
    at_once_fine : (U : ℕ → Type 0) (item : Item) → is_pass item ≡ false → Always (CallFor A R K users view moment item) U Ends [] (served {A = A} {R = R} {K = K} users view moment item)
    at_once_fine U item is = always_to (CallFor A R K users view moment item) (CallFor A R K users view moment item) (UserFor A R K users view item) U Ends Ends
        (λ call allowed. allowed) (λ number. not_pass users view item number is) (λ admitted after actions end. end) [] _ (served_fine A R K users view moment item)

    meanwhile_fine : (U : ℕ → Type 0) (held : List Item) (item : Item) → Always (CallFor A R K users view moment item) U Ends [] (meanwhile {A = A} {R = R} {K = K} users view held moment item).plan
    meanwhile_fine U held (Ok command.Abor) = at_once_fine U (Ok command.Abor) refl
    meanwhile_fine U held (Ok command.Noop) = at_once_fine U (Ok command.Noop) refl
    meanwhile_fine U held (Ok (command.Stat None)) = at_once_fine U (Ok (command.Stat None)) refl
    meanwhile_fine U held (Ok command.Quit) = stays A R K view _ 1 [] none refl
    meanwhile_fine U held item = holds_fine (CallFor A R K users view moment item) U held item

    abbrev Rightful : List Item → Input A K → Call K → Type 0
    Rightful held reported = IsRightful users view held moment reported

    -- what is said of a line that is served holds of the input that it came with
    comes : (U V : ℕ → Type 0) (held : List Item) (item : LineItem A) (plan : Plan A R K) → ((number : ℕ) → U number → V number)
        → Always (CallFor A R K users view moment (item_of item)) U Ends [] plan → Always (Rightful held (input.Line item)) V Ends [] plan
    comes U V held item plan user = always_to (CallFor A R K users view moment (item_of item)) (Rightful held (input.Line item)) U V Ends Ends (λ call allowed. inr allowed) user (λ admitted after actions end. end) [] plan

    abbrev Admission : List Item → Input A K → ℕ → Type 0
    Admission held reported = IsRightfulAdmission users view held reported

    -- a user who may be admitted by the line whose turn it is
    admission : (held : List Item) (reported : Input A K) (item : Item) → serves_lines view ≡ true → in_its_turn reported held ≡ Some item
        → (number : ℕ) → UserFor A R K users view item number → Admission held reported number
    admission held reported item serves turn number (text, is, named, right, whose) = record {
      text = text;
      serves = serves;
      turn = turn ∙ ap Some is;
      named = named;
      right = right;
      whose = whose;
    }

    in_turn_fine : (item : LineItem A) (held : List Item) → serves_lines view ≡ true
        → Always (Rightful held (input.Line item)) (Admission held (input.Line item)) Ends [] (in_turn {A = A} {R = R} {K = K} users view moment (item_of item) held).plan
    in_turn_fine item [] serves = comes (UserFor A R K users view (item_of item)) (Admission [] (input.Line item)) [] item _ (admission [] (input.Line item) (item_of item) serves refl) (served_fine A R K users view moment (item_of item))
    in_turn_fine item (first ∷ others) serves = holds_fine (Rightful (first ∷ others) (input.Line item)) (Admission (first ∷ others) (input.Line item)) (first ∷ others) (item_of item)

    line_fine : (item : LineItem A) (held : List Item) (counts busy : Bool) → (counts && not busy) ≡ serves_lines view
        → Always (Rightful held (input.Line item)) (Admission held (input.Line item)) Ends []
        (cond counts (cond busy (meanwhile {A = A} {R = R} {K = K} users view held moment (item_of item)) (in_turn users view moment (item_of item) held)) (beside held (idle view))).plan
    line_fine item held false busy serves = idle_fine (Rightful held (input.Line item)) (Admission held (input.Line item))
    line_fine item held true true serves = comes (Admission held (input.Line item)) (Admission held (input.Line item)) held item _ (λ number user. user) (meanwhile_fine (Admission held (input.Line item)) held (item_of item))
    line_fine item held true false serves = in_turn_fine item held (sym serves)

    held_fine : (held : List Item) (serves : Bool) → serves_lines view ≡ serves
        → Always (Rightful held input.Held) (Admission held input.Held) Ends [] (cond serves (held_row {A = A} {R = R} {K = K} users view moment held) (beside held (idle view))).plan
    held_fine held false is = idle_fine (Rightful held input.Held) (Admission held input.Held)
    held_fine [] true is = idle_fine (Rightful [] input.Held) (Admission [] input.Held)
    held_fine (first ∷ others) true is = always_to (CallFor A R K users view moment first) (Rightful (first ∷ others) input.Held) (UserFor A R K users view first) (Admission (first ∷ others) input.Held) Ends Ends
        (λ call allowed. inr allowed) (admission (first ∷ others) input.Held first is refl) (λ admitted after actions end. end) [] _ (served_fine A R K users view moment first)

  -- ---- all inputs

  module _ (users : Users) (view : View) (held : List Item) (moment : ℕ) where
    abbrev pub EndAt : Input A K → List ℕ → View → List (Action A R K) → Type 0
    EndAt reported = Fine A R K view (most_asked reported)

    abbrev pub CallAt : Input A K → Call K → Type 0
    CallAt reported = IsRightful users view held moment reported

    abbrev pub UserAt : Input A K → ℕ → Type 0
    UserAt reported = IsRightfulAdmission users view held reported

    pub input_fine : (reported : Input A K) → Always (CallAt reported) (UserAt reported) (EndAt reported) [] (table {A = A} {R = R} {K = K} users view held moment reported).plan
    input_fine (input.Line item) = line_fine users view moment item held (counts_lines view) (is_busy view.work) refl
    input_fine input.Held = held_fine users view moment held (serves_lines view) refl
    input_fine (input.TransferEnded end sink) = ended_fine (UserAt (input.TransferEnded end sink)) users view held moment end sink
    input_fine (input.DataReady port) = always_cond (CallAt (input.DataReady port)) (UserAt (input.DataReady port)) (EndAt (input.DataReady port)) (awaits_ports view) _ _
        (ready_fine (CallAt (input.DataReady port)) (UserAt (input.DataReady port)) users view port) (rests_fine (CallAt (input.DataReady port)) (UserAt (input.DataReady port)) users view)
    input_fine input.Closed = always_cond (CallAt input.Closed) (UserAt input.Closed) (EndAt input.Closed) (is_closed view.stage) _ _
        (rests_fine (CallAt input.Closed) (UserAt input.Closed) users view) (closed_fine (CallAt input.Closed) (UserAt input.Closed) users view)

-- ---- calls while nobody is logged in

allowed_inside : {K : Type 0} (users : Users) (view : View) (letter : Letter) (text : List ℕ) (call : Call K) → IsAllowedCall (IsAllowedAt users view letter text) view.source call → is_inside view.stage ≡ true
allowed_inside users view letter text (Call.Stat path) is = is.inside
allowed_inside users view letter text (Call.Listing path) is = is.inside
allowed_inside users view letter text (Call.OpenRead path offset) is = is.inside
allowed_inside users view letter text (Call.OpenWrite path mode moment) is = is.inside
allowed_inside users view letter text (Call.Finish sink moment) is = absurd is
allowed_inside users view letter text (Call.MakeDir path) is = is.inside
allowed_inside users view letter text (Call.RemoveDir path) is = is.inside
allowed_inside users view letter text (Call.RemoveFile path) is = is.inside
allowed_inside users view letter text (Call.Rename from to) is = is.1.inside

row_inside : {K : Type 0} (users : Users) (view : View) (row : NamedRow (List ℕ)) (call : Call K) → IsAllowedFor users view row call → is_inside view.stage ≡ true
row_inside users view (row.Login what) call is = absurd is
row_inside users view (row.State what) call is = absurd is
row_inside users view (row.At place) call is = allowed_inside users view place.letter place.text call is

pub outside : {A K : Type 0} (users : Users) (view : View) (held : List Item) (moment : ℕ) (reported : Input A K) (call : Call K)
    → is_inside view.stage ≡ false → IsRightful users view held moment reported call → IsReturned reported moment call
outside users view held moment reported call not (inl returned) = returned
outside users view held moment reported call not (inr allowed) = absurd (false≢true (sym not ∙ row_inside users view _ call allowed.2))

-- ---- held lines

module _ (A R K : Type 0) where
  abbrev Few : List Item → Type 0
  Few held = length held ≤ most_held

  few_cond : (b : Bool) (p q : Taken A R K) → Few p.held → Few q.held → Few (cond b p q).held
  few_cond true p q is also = is
  few_cond false p q is also = also

  few_holds : (view : View) (held : List Item) (item : Item) → Few held → Few (holds {A = A} {R = R} {K = K} view held item).held
  few_holds view held item few = by (nat_lt (length held) most_held) refl
    where
      by : (less : Bool) → nat_lt (length held) most_held ≡ less
          → Few (cond {A = Taken A R K} less (record { plan = idle {A = A} {R = R} {K = K} view; held = held ++ item ∷ [] })
          (record { plan = Then (record view { control = Closing }) ((action.Say (answer.Refusal refusal.TooManyHeldLines) ∷ []) ++ aborts view ++ (action.CloseControl ∷ [])); held = held })).held
      by true is = omega (arith, length-append held (item ∷ []), ltb-true (length held) most_held is)
      by false is = few

  module _ (users : Users) (view : View) (moment : ℕ) where
    few_meanwhile : (held : List Item) (item : Item) → Few held → Few (meanwhile {A = A} {R = R} {K = K} users view held moment item).held
    few_meanwhile held (Ok command.Abor) few = few
    few_meanwhile held (Ok command.Noop) few = few
    few_meanwhile held (Ok (command.Stat None)) few = few
    few_meanwhile held (Ok command.Quit) few = few
    few_meanwhile held item few = few_holds view held item few

    few_in_turn : (held : List Item) (item : Item) → Few held → Few (in_turn {A = A} {R = R} {K = K} users view moment item held).held
    few_in_turn [] item few = few
    few_in_turn (first ∷ others) item few = few_holds view (first ∷ others) item few

    few_held : (held : List Item) → Few held → Few (held_row {A = A} {R = R} {K = K} users view moment held).held
    few_held [] few = few
    few_held (first ∷ others) few = omega (arith, few)

    pub few_table : (held : List Item) (reported : Input A K) → Few held → Few (table {A = A} {R = R} {K = K} users view held moment reported).held
    few_table held (input.Line item) few =
        few_cond (counts_lines view) _ _ (few_cond (is_busy view.work) _ _ (few_meanwhile held (item_of item) few) (few_in_turn held (item_of item) few)) few
    few_table held input.Held few = few_cond (serves_lines view) _ _ (few_held held few) few
    few_table held (input.TransferEnded end sink) few = few
    few_table held (input.DataReady port) few = few
    few_table held input.Closed few = few

-- ---- the laws

module _ (A R K : Type 0) (users : Users) (view : View) (held : List Item) (moment : ℕ) (reported : Input A K) where
  -- what is weaker than what is said of each input
  weaker : (D : Call K → Type 0) (V : ℕ → Type 0) (F : List ℕ → View → List (Action A R K) → Type 0)
      → ((call : Call K) → CallAt A R K users view held moment reported call → D call) → ((number : ℕ) → UserAt A R K users view held moment reported number → V number)
      → ((admitted : List ℕ) (after : View) (actions : List (Action A R K)) → EndAt A R K users view held moment reported admitted after actions → F admitted after actions)
      → Always D V F [] (table {A = A} {R = R} {K = K} users view held moment reported).plan
  weaker D V F call user end =
      always_to (CallAt A R K users view held moment reported) D (UserAt A R K users view held moment reported) V (EndAt A R K users view held moment reported) F call user end [] _ (input_fine A R K users view held moment reported)

pub calls_are_rightful : (A R K : Type 0) → CallsAreRightful A R K
unfolding CallsAreRightful
calls_are_rightful A R K = λ users view held moment reported.
    weaker A R K users view held moment reported (CallAt A R K users view held moment reported) (λ number. Unit {0}) (λ admitted after actions. Unit {0}) (λ call allowed. allowed) (λ number user. tt) (λ admitted after actions end. tt)

pub no_calls_outside : (A R K : Type 0) → NoCallsOutside A R K
unfolding NoCallsOutside
no_calls_outside A R K = λ users view held moment reported not.
    weaker A R K users view held moment reported (IsReturned reported moment) (λ number. Unit {0}) (λ admitted after actions. Unit {0}) (λ call allowed. outside users view held moment reported call not allowed) (λ number user. tt) (λ admitted after actions end. tt)

pub no_transfer_unprepared : (A R K : Type 0) → NoTransferUnprepared A R K
unfolding NoTransferUnprepared
no_transfer_unprepared A R K = λ users view held moment reported not.
    weaker A R K users view held moment reported (λ call. Unit {0}) (λ number. Unit {0}) (λ admitted after actions. starting actions ≡ 0) (λ call allowed. tt) (λ number user. tt) (λ admitted after actions end. end.unprepared not)

pub one_thing_is_asked : (A R K : Type 0) → OneThingIsAsked A R K
unfolding OneThingIsAsked
one_thing_is_asked A R K = λ users view held moment reported.
    weaker A R K users view held moment reported (λ call. Unit {0}) (λ number. Unit {0}) (λ admitted after actions. asking actions ≤ most_asked reported) (λ call allowed. tt) (λ number user. tt) (λ admitted after actions end. end.asks)

pub floors_are_released_once : (A R K : Type 0) → FloorsAreReleasedOnce A R K
unfolding FloorsAreReleasedOnce
floors_are_released_once A R K = λ users view held moment reported.
    weaker A R K users view held moment reported (λ call. Unit {0}) (λ number. Unit {0}) (λ admitted after actions. Releases admitted (logged_in view) (releases actions) (logged_in after)) (λ call allowed. tt) (λ number user. tt) (λ admitted after actions end. end.floors)

pub admissions_are_rightful : (A R K : Type 0) → AdmissionsAreRightful A R K
unfolding AdmissionsAreRightful
admissions_are_rightful A R K = λ users view held moment reported.
    weaker A R K users view held moment reported (λ call. Unit {0}) (UserAt A R K users view held moment reported) (λ admitted after actions. Unit {0}) (λ call allowed. tt) (λ number user. user) (λ admitted after actions end. tt)

pub others_ask_no_floors : (A R K : Type 0) → OthersAskNoFloors A R K
unfolding OthersAskNoFloors
others_ask_no_floors A R K = λ users view held moment reported quiet.
    weaker A R K users view held moment reported (λ call. Unit {0}) (λ number. ⊥) (λ admitted after actions. Unit {0}) (λ call allowed. tt) (λ number user. absurd (false≢true (sym quiet ∙ ap is_pass_turn user.turn))) (λ admitted after actions end. tt)

pub few_lines_are_held : (A R K : Type 0) → FewLinesAreHeld A R K
unfolding FewLinesAreHeld
few_lines_are_held A R K = λ users view held moment reported few.
    few_table A R K users view moment held reported few
