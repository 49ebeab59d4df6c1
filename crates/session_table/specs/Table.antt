-- The session table: the plan of each input in each state of a session.
use Rattle.std.specs.Prelude.{ℕ, ◌&&◌, true, cond, List, [], ◌∷◌, ◌++◌, Bool, Option, Some, None, Result, Ok, Err, codes, length, nat_lt}
use Rattle.std.specs.Fmt.{decimal}
use Rattle.authorizer.specs.Users.{Users}
use Rattle.ftp_reply.specs.Replies.{OneLine}
use Rattle.ftp_wire.specs.Items.{Item}
use Rattle.ftp_wire.specs.Reading.{item_of}
use Rattle.ftp_wire.specs.Written.{port_text}
use Rattle.virtual_path.specs.Path.{Path}
use Rattle.virtual_tree.specs.declared.fault.StoreFault.{StoreFault}
use Rattle.virtual_tree.specs.declared.fault.StoreFault.TheVariants as fault
use Rattle.session_table.specs.declared.actions.Action.{Action}
use Rattle.session_table.specs.declared.actions.Action.TheVariants as action
use Rattle.session_table.specs.declared.actions.HookCall.TheVariants as hook
use Rattle.session_table.specs.declared.answers.Answer.{Answer}
use Rattle.session_table.specs.declared.answers.Answer.TheVariants as answer
use Rattle.session_table.specs.declared.inputs.End.{End}
use Rattle.session_table.specs.declared.inputs.End.TheVariants as ended
use Rattle.session_table.specs.declared.inputs.Input.{Input}
use Rattle.session_table.specs.declared.inputs.Input.TheVariants as input
use Rattle.session_table.specs.declared.notices.Notice.TheVariants as notice
use Rattle.session_table.specs.declared.refusals.Refusal.{Refusal}
use Rattle.session_table.specs.declared.refusals.Refusal.TheVariants as refusal
use Rattle.session_table.specs.declared.rules.Conditions.{Conditions}
use Rattle.session_table.specs.declared.rules.Meanwhile.{Meanwhile}
use Rattle.session_table.specs.declared.rules.Meanwhile.TheVariants.{Waits, Served, QuitsLater}
use Rattle.session_table.specs.declared.rules.Rule.{Rule}
use Rattle.session_table.specs.declared.stages.Control.{Control}
use Rattle.session_table.specs.declared.stages.Control.TheVariants.{Open, Quitting, Closing}
use Rattle.session_table.specs.declared.stages.TransferContent.{TransferContent}
use Rattle.session_table.specs.declared.stages.TransferContent.TheVariants.{Listing, Sending, Taking}
use Rattle.session_table.specs.declared.stages.Passive.{Passive}
use Rattle.session_table.specs.declared.stages.Passive.TheVariants.{Plain, Extended}
use Rattle.session_table.specs.declared.stages.Stage.TheVariants as stage
use Rattle.session_table.specs.declared.stages.Work.TheVariants.{Idle}
use Rattle.session_table.specs.Calls.Call.{Finish}
use Rattle.session_table.specs.Judged.{at_once, first_refusal}
use Rattle.session_table.specs.Plans.{Plan}
use Rattle.session_table.specs.Plans.Plan.{Then, WithLine, WithLines, Ask, AskAdmit}
use Rattle.session_table.specs.Rules.{meanwhile_of, row_plan, rule}
use Rattle.session_table.specs.StateRows.{goodbye_reply, leaves, parts, refuses}
use Rattle.session_table.specs.Views.{View, awaited, awaits_ports, counts_lines, is_aborted, is_busy, is_closed, is_inside, running, runs, serves_lines}

-- maximum number of held lines
abbrev pub most_held : ℕ
most_held = 16

-- The state after a command: the path that RNFR named is forgotten unless the command keeps it, and
-- after a command that moves data, even if it is refused, the offset is 0 if a user is logged in.
abbrev pub left : Conditions → View → View
left conditions view = record view {
  source = cond conditions.keeps_source view.source None;
  offset = cond (conditions.moves_data && is_inside view.stage) 0 view.offset;
}

-- the reply with a passive port
abbrev pub port_reported : {A : Type 0} → View → Passive → ℕ → Answer A
port_reported view Plain port =
    answer.Made (OneLine 227
    (codes "Entering Passive Mode (" ++ port_text (record { address = view.address; port = port })
    ++ codes ")"))
port_reported view Extended port =
    answer.Made (OneLine 229
    (codes "Entering Extended Passive Mode (|||" ++ decimal port ++ codes "|)"))

-- the reply to the end of a transfer
abbrev pub end_reported : {A : Type 0} → End → Result (Unit {0}) StoreFault → Answer A
end_reported ended.Done (Ok _) = answer.Notice notice.TransferComplete
end_reported ended.Done (Err why) = answer.Refusal (refusal.Store why)
end_reported ended.Lost finished = answer.Refusal refusal.ConnectionLost
end_reported ended.Local finished = answer.Refusal (refusal.Store fault.Device)
end_reported ended.Full finished = answer.Refusal (refusal.Store fault.Full)
end_reported ended.NoConnection finished = answer.Refusal refusal.NoDataConnection
end_reported ended.NoMemory finished = answer.Refusal (refusal.Store fault.Memory)
end_reported ended.Aborted finished = answer.Refusal refusal.TransferAborted

-- the result of an input: its plan, and the lines that are held then
pub record Taken (A R K : Type 0) : Type 0 where
  pub plan : Plan A R K
  pub held : List Item

module _ {A R K : Type 0} where
  -- nothing is done
  abbrev pub idle : View → Plan A R K
  idle view = Then view []

  -- a plan, and then this change of the state
  abbrev pub then_left : (View → View) → Plan A R K → Plan A R K
  then_left change (Then view actions) = Then (change view) actions
  then_left change (WithLine text next) = WithLine text (λ line. then_left change (next line))
  then_left change (WithLines texts next) =
      WithLines texts (λ lines. then_left change (next lines))
  then_left change (Ask call next) = Ask call (λ answer. then_left change (next answer))
  then_left change (AskAdmit user next) = AskAdmit user (λ fits. then_left change (next fits))

  abbrev pub unless_refuses : View → Option Refusal → Plan A R K → Plan A R K
  unless_refuses view (Some why) plan = refuses view why
  unless_refuses view None plan = plan

  -- the first refusal of a command, or its row
  unfoldable pub ruled : Users → View → ℕ → Rule (List ℕ) → Plan A R K
  ruled users view moment rule =
      unless_refuses view (first_refusal (at_once view rule.conditions))
      (row_plan users view moment rule.conditions rule.row)

  abbrev pub served_by : Users → View → ℕ → Rule (List ℕ) → Plan A R K
  served_by users view moment rule =
      then_left (left rule.conditions) (ruled users view moment rule)

  -- a served line
  abbrev pub served : Users → View → ℕ → Item → Plan A R K
  served users view moment (Err why) =
      Then (record view { source = None }) (action.Say (answer.Fault why) ∷ [])
  served users view moment (Ok command) = served_by users view moment (rule command)

  -- a transfer that runs is aborted
  abbrev pub aborts : View → List (Action A R K)
  aborts view = cond (runs view.work) (action.Abort ∷ []) []

  -- a line too many
  abbrev pub gives_up : View → Plan A R K
  gives_up view = Then (record view { control = Closing })
      ((action.Say (answer.Refusal refusal.TooManyHeldLines) ∷ []) ++ aborts view
      ++ (action.CloseControl ∷ []))

  -- a line that must wait, after the held lines
  abbrev pub holds : View → List Item → Item → Taken A R K
  holds view held item = cond (nat_lt (length held) most_held)
      (record { plan = idle view; held = held ++ item ∷ [] })
      (record { plan = gives_up view; held = held })

  abbrev pub meanwhile_as : View → List Item → Item → Plan A R K → Meanwhile → Taken A R K
  meanwhile_as view held item plan Waits = holds view held item
  meanwhile_as view held item plan Served = record { plan = plan; held = held }
  meanwhile_as view held item plan QuitsLater =
      record { plan = Then (record view { control = Quitting }) []; held = held }

  -- a line while a transfer runs or a passive port is awaited
  abbrev pub meanwhile : Users → View → List Item → ℕ → Item → Taken A R K
  meanwhile users view held moment item =
      meanwhile_as view held item (served users view moment item) (meanwhile_of item)

  -- a line while nothing is begun: it waits if others wait
  abbrev pub in_turn : Users → View → ℕ → Item → List Item → Taken A R K
  in_turn users view moment item [] = record { plan = served users view moment item; held = [] }
  in_turn users view moment item (first ∷ others) = holds view (first ∷ others) item

  abbrev pub line_row : Users → View → List Item → ℕ → Item → Taken A R K
  line_row users view held moment item =
      cond (is_busy view.work) (meanwhile users view held moment item)
      (in_turn users view moment item held)

  -- the first of the held lines
  abbrev pub held_row : Users → View → ℕ → List Item → Taken A R K
  held_row users view moment [] = record { plan = idle view; held = [] }
  held_row users view moment (first ∷ others) =
      record { plan = served users view moment first; held = others }

  -- a QUIT that waited is served after these actions
  abbrev pub and_quits : Users → View → List (Action A R K) → Control → Plan A R K
  and_quits users view actions Open = Then view actions
  and_quits users view actions Quitting = parts view (goodbye_reply users view) actions
  and_quits users view actions Closing = Then view actions

  abbrev pub ready_as : Users → View → Passive → Option ℕ → Plan A R K
  ready_as users view passive (Some port) =
      and_quits users (record view { work = Idle; prepared = true })
      (action.Say (port_reported view passive port) ∷ []) view.control
  ready_as users view passive None =
      and_quits users (record view { work = Idle })
      (action.Say (answer.Refusal refusal.NoPassivePort) ∷ []) view.control

  -- a port that nothing awaits is not reported
  abbrev pub ready_by : Users → View → Option ℕ → Option Passive → Plan A R K
  ready_by users view port None = idle view
  ready_by users view port (Some passive) = ready_as users view passive port

  abbrev pub ready_row : Users → View → Option ℕ → Plan A R K
  ready_row users view port = ready_by users view port (awaited view.work)

  abbrev pub ready_at : Users → View → Option ℕ → Plan A R K
  ready_at users view port = cond (awaits_ports view) (ready_row users view port) (idle view)

  -- the event for a handler at the end of a transfer of a file
  abbrev pub end_hook : TransferContent Path → End → List (Action A R K)
  end_hook Listing end = []
  end_hook (Sending path) ended.Done = action.Hook (hook.FileSent path) ∷ []
  end_hook (Sending path) _ = action.Hook (hook.IncompleteFileSent path) ∷ []
  end_hook (Taking path) ended.Done = action.Hook (hook.FileReceived path) ∷ []
  end_hook (Taking path) _ = action.Hook (hook.IncompleteFileReceived path) ∷ []

  -- the end of an aborted transfer is not reported, nor one after CloseControl
  abbrev pub end_reply : Control → Bool → Answer A → List (Action A R K)
  end_reply Closing aborted reply = []
  end_reply Open aborted reply = cond aborted [] (action.Say reply ∷ [])
  end_reply Quitting aborted reply = cond aborted [] (action.Say reply ∷ [])

  -- after Closed there is no client
  abbrev pub end_row : Users → View → TransferContent Path → Bool → End
      → Result (Unit {0}) StoreFault → Plan A R K
  end_row users view content aborted end finished =
      cond (is_closed view.stage) (Then (record view { work = Idle }) [])
      (and_quits users (record view { work = Idle })
      (end_reply view.control aborted (end_reported end finished) ++ end_hook content end)
      view.control)

  -- a returned sink is finished in every case
  abbrev pub ended_with :
      Users → View → ℕ → TransferContent Path → Bool → End → Option K → Plan A R K
  ended_with users view moment content aborted end (Some sink) =
      Ask (Finish sink moment) (end_row users view content aborted end)
  ended_with users view moment content aborted end None =
      end_row users view content aborted end (Ok tt)

  -- an end that nothing awaits is not reported either
  abbrev pub ended_by :
      Users → View → ℕ → End → Option K → Option (TransferContent Path) → Plan A R K
  ended_by users view moment end sink None = idle view
  ended_by users view moment end sink (Some content) =
      ended_with users view moment content (is_aborted view.work) end sink

  abbrev pub ended_row : Users → View → ℕ → End → Option K → Plan A R K
  ended_row users view moment end sink = ended_by users view moment end sink (running view.work)

  -- the control connection is gone
  abbrev pub closed_row : View → Plan A R K
  closed_row view =
      Then (record view { stage = stage.Closed; name = [] })
      (aborts view ++ leaves view ++ (action.Hook hook.Disconnect ∷ []))

  abbrev pub closed_at : View → Plan A R K
  closed_at view = cond (is_closed view.stage) (idle view) (closed_row view)

  -- a plan that leaves the held lines unchanged
  abbrev pub beside : List Item → Plan A R K → Taken A R K
  beside held plan = record { plan = plan; held = held }

  -- the whole table; the end of a transfer counts in every state, so a returned sink is finished
  abbrev pub table : Users → View → List Item → ℕ → Input A K → Taken A R K
  table users view held moment (input.Line item) = cond (counts_lines view)
      (line_row users view held moment (item_of item)) (beside held (idle view))
  table users view held moment input.Held = cond (serves_lines view)
      (held_row users view moment held) (beside held (idle view))
  table users view held moment (input.TransferEnded end sink) =
      beside held (ended_row users view moment end sink)
  table users view held moment (input.DataReady port) = beside held (ready_at users view port)
  table users view held moment input.Closed = beside held (closed_at view)
