-- What RNFR named: it comes from an RNFR that is served and allowed, and from nothing else.
use Rattle.std.proofs.Common.{◌≡◌, ℕ, Bool, true, false, cond, not, ◌&&◌, List, [], ◌∷◌, length, Option, Some, None, Result, Ok, Err, refl, sym, subst, nat_lt}
use Rattle.authorizer.specs.Users.{Users}
use Rattle.ftp_terms.specs.declared.entries.Meta.{Meta}
use Rattle.ftp_terms.specs.declared.letters.Letter.TheVariants.{Rename}
use Rattle.ftp_wire.specs.Items.{Item}
use Rattle.ftp_wire.specs.Reading.{item_of}
use Rattle.ftp_wire.specs.declared.commands.Command.TheVariants as command
use Rattle.ftp_wire.specs.declared.items.LineItem.{LineItem}
use Rattle.virtual_path.specs.Path.{Path}
use Rattle.virtual_tree.specs.declared.fault.StoreFault.{StoreFault}
use Rattle.session_table.specs.Always.{Always}
use Rattle.session_table.specs.Laws.{IsAllowedAt, IsAllowedCall, IsAllowedFor, IsNamed, SourcesAreNamed}
use Rattle.session_table.specs.Steps.{in_its_turn}
use Rattle.session_table.proofs.Keeping.{always_cond, always_left, always_taken, always_to, ends_all}
use Rattle.session_table.proofs.Rows.{RowHas, ruled_has}
use Rattle.session_table.specs.declared.actions.Action.{Action}
use Rattle.session_table.specs.declared.inputs.End.{End}
use Rattle.session_table.specs.declared.inputs.Input.{Input}
use Rattle.session_table.specs.declared.inputs.Input.TheVariants as input
use Rattle.session_table.specs.declared.stages.Control.{Control}
use Rattle.session_table.specs.declared.stages.Control.TheVariants.{Open, Quitting, Closing}
use Rattle.session_table.specs.declared.notices.Notice.TheVariants as notice
use Rattle.session_table.specs.declared.rules.Rule.{Rule}
use Rattle.session_table.specs.declared.stages.TransferContent.{TransferContent}
use Rattle.session_table.specs.declared.stages.Passive.{Passive}
use Rattle.session_table.specs.declared.stages.Work.{Work}
use Rattle.session_table.specs.declared.stages.Work.TheVariants.{Idle}
use Rattle.session_table.specs.Calls.{Call}
use Rattle.session_table.specs.FileRows.{is_root, unless_fault}
use Rattle.session_table.specs.Judged.{Location}
use Rattle.session_table.specs.Plans.{Plan}
use Rattle.session_table.specs.Rules.{Line, rule}
use Rattle.session_table.specs.StateRows.{notes}
use Rattle.session_table.specs.Table.{and_quits, beside, end_row, ended_by, ended_row, ended_with, held_row, holds, idle, in_turn, left, meanwhile, most_held, ready_as, ready_by, ready_row, ruled, served, served_by, table}
use Rattle.session_table.specs.Views.{View, awaited, awaits_ports, counts_lines, is_aborted, is_busy, is_closed, running, serves_lines}

-- what was named before
kept : (users : Users) (view : View) (source : Option Path) → view.source ≡ source → IsNamed users view None source
kept users view None is = tt
kept users view (Some path) is = is

-- no line is served: what was named stays
stays : (users : Users) (view : View) (b : Bool) → IsNamed users view (cond b None None) view.source
stays users view true = kept users view view.source refl
stays users view false = kept users view view.source refl

none_named : (users : Users) (view : View) (item : Option Item) → IsNamed users view item None
none_named users view item = tt

module _ (A R K : Type 0) (users : Users) (view : View) where
  abbrev C : Call K → Type 0
  C call = Unit {0}

  abbrev U : ℕ → Type 0
  U number = Unit {0}

  -- the source is named, where this is the line that is served in its turn
  abbrev E : Option Item → List ℕ → View → List (Action A R K) → Type 0
  E item admitted after actions = IsNamed users view item after.source

  abbrev Within : Option Item → Plan A R K → Type 0
  Within item plan = Always {A = A} {R = R} {K = K} C U (E item) [] plan

  module _ (moment : ℕ) where
    -- the end of RNFR, before its conditions are seen to
    abbrev EndOf : List ℕ → List ℕ → View → List (Action A R K) → Type 0
    EndOf text admitted after actions = E (Some (Ok (command.Rnfr text))) admitted (left (rule (command.Rnfr text)).conditions after) actions

    -- RNFR, where it is not refused
    rnfr_has : (text : List ℕ) → RowHas A R K users view moment U (EndOf text) (rule (command.Rnfr text)).conditions (rule (command.Rnfr text)).row
    rnfr_has text = (refl, λ location allowed prepared. always_cond (IsAllowedCall (IsAllowedAt users view Rename text) view.source) U (EndOf text) (is_root location.path) _ _ tt (allowed, by location allowed))
      where
        by : (location : Location) → IsAllowedAt users view Rename text location.stored → (answer : Result Meta StoreFault)
            → Always {A = A} {R = R} {K = K} (IsAllowedCall (IsAllowedAt users view Rename text) view.source) U (EndOf text) [] (unless_fault view (λ meta. notes (record view { source = Some location.stored }) notice.SendRnto) answer)
        by location allowed (Err why) = tt
        by location allowed (Ok meta) = allowed

    rnfr_named : (text : List ℕ) → Within (Some (Ok (command.Rnfr text))) (served {A = A} {R = R} {K = K} users view moment (Ok (command.Rnfr text)))
    rnfr_named text = always_left C U (E (Some (Ok (command.Rnfr text)))) (left (rule (command.Rnfr text)).conditions) [] _
        (always_to (IsAllowedFor users view (rule (command.Rnfr text)).row) C U U (EndOf text) (EndOf text) (λ call allowed. tt) (λ user asks. tt) (λ admitted after actions end. end) [] (ruled users view moment (rule (command.Rnfr text)))
        (ruled_has A R K users view moment U (EndOf text) (λ why. tt) (rule (command.Rnfr text)) (rnfr_has text)))

    -- any other rule leaves nothing named
    forgets : (item : Option Item) (rule : Rule (List ℕ)) → rule.conditions.keeps_source ≡ false → Within item (served_by users view moment rule)
    forgets item rule is = always_left C U (E item) (left rule.conditions) [] _
        (ends_all (λ admitted after actions. E item admitted (left rule.conditions after) actions)
        (λ admitted after actions. subst (λ (b : Bool). IsNamed users view item (cond b after.source None)) (sym is) (none_named users view item)) [] _)

    served_named : (item : Item) → Within (Some item) (served {A = A} {R = R} {K = K} users view moment item)
    served_named (Err why) = tt
    served_named (Ok (command.Rnfr text)) = rnfr_named text
    served_named (Ok (command.Stat None)) = forgets (Some (Ok (command.Stat None))) (rule (command.Stat None)) refl
    served_named (Ok (command.Stat (Some text))) = forgets (Some (Ok (command.Stat (Some text)))) (rule (command.Stat (Some text))) refl
    served_named (Ok line) = forgets (Some (Ok line)) (rule line) refl

    -- a line that is served at once leaves nothing named
    at_once : (line : Line) → (rule line).conditions.keeps_source ≡ false → Within None (served {A = A} {R = R} {K = K} users view moment (Ok line))
    at_once line is = forgets None (rule line) is

    held_named : (held : List Item) (item : Item) → Within None (holds {A = A} {R = R} {K = K} view held item).plan
    held_named held item = always_taken C U (E None) (nat_lt (length held) most_held) _ _ (kept users view view.source refl) (kept users view view.source refl)

    meanwhile_named : (held : List Item) (item : Item) → Within None (meanwhile {A = A} {R = R} {K = K} users view held moment item).plan
    meanwhile_named held (Ok command.Abor) = at_once command.Abor refl
    meanwhile_named held (Ok command.Noop) = at_once command.Noop refl
    meanwhile_named held (Ok (command.Stat None)) = at_once (command.Stat None) refl
    meanwhile_named held (Ok command.Quit) = kept users view view.source refl
    meanwhile_named held item = held_named held item

    turn_named : (item : LineItem A) (held : List Item) → Within (in_its_turn {K = K} (input.Line item) held) (in_turn {A = A} {R = R} {K = K} users view moment (item_of item) held).plan
    turn_named item [] = served_named (item_of item)
    turn_named item (first ∷ others) = held_named (first ∷ others) (item_of item)

    line_named : (item : LineItem A) (held : List Item) (counts busy : Bool) → Within (cond (counts && not busy) (in_its_turn {K = K} (input.Line item) held) None)
        (cond counts (cond busy (meanwhile {A = A} {R = R} {K = K} users view held moment (item_of item)) (in_turn users view moment (item_of item) held)) (beside held (idle view))).plan
    line_named item held false busy = kept users view view.source refl
    line_named item held true true = meanwhile_named held (item_of item)
    line_named item held true false = turn_named item held

    due_named : (held : List Item) (serves : Bool) → Within (cond serves (in_its_turn {A = A} {K = K} input.Held held) None)
        (cond serves (held_row {A = A} {R = R} {K = K} users view moment held) (beside held (idle view))).plan
    due_named held false = kept users view view.source refl
    due_named [] true = kept users view view.source refl
    due_named (first ∷ others) true = served_named first

  -- inputs that are no lines
  quits : (b : Bool) (work : Work Path) (prepared : Bool) (actions : List (Action A R K)) (control : Control)
      → Within (cond b None None) (and_quits users (record view { work = work; prepared = prepared }) actions control)
  quits b work prepared actions Open = stays users view b
  quits b work prepared actions Quitting = stays users view b
  quits b work prepared actions Closing = stays users view b

  ready_named : (b : Bool) (port : Option ℕ) → Within (cond b None None) (ready_row users view port)
  ready_named b port = by (awaited view.work)
    where
      at : (passive : Passive) (port : Option ℕ) → Within (cond b None None) (ready_as users view passive port)
      at passive (Some port) = quits b Idle true _ view.control
      at passive None = quits b Idle view.prepared _ view.control

      by : (passive : Option Passive) → Within (cond b None None) (ready_by users view port passive)
      by None = stays users view b
      by (Some passive) = at passive port

  end_named : (b : Bool) (content : TransferContent Path) (aborted : Bool) (end : End) (finished : Result (Unit {0}) StoreFault)
      → Within (cond b None None) (end_row users view content aborted end finished)
  end_named b content aborted end finished = always_cond C U (E (cond b None None)) (is_closed view.stage) _ _ (stays users view b) (quits b Idle view.prepared _ view.control)

  ended_named : (b : Bool) (moment : ℕ) (end : End) (sink : Option K) → Within (cond b None None) (ended_row users view moment end sink)
  ended_named b moment end sink = by sink (running view.work)
    where
      with : (sink : Option K) (content : TransferContent Path) → Within (cond b None None) (ended_with users view moment content (is_aborted view.work) end sink)
      with (Some sink) content = (tt, λ answer. end_named b content (is_aborted view.work) end answer)
      with None content = end_named b content (is_aborted view.work) end (Ok tt)

      by : (sink : Option K) (content : Option (TransferContent Path)) → Within (cond b None None) (ended_by users view moment end sink content)
      by sink None = stays users view b
      by sink (Some content) = with sink content

  module _ (held : List Item) (moment : ℕ) where
    abbrev Taking : Input A K → Type 0
    Taking reported = Within (cond (serves_lines view) (in_its_turn reported held) None) (table {A = A} {R = R} {K = K} users view held moment reported).plan

    named : (reported : Input A K) → Taking reported
    named (input.Line item) = line_named moment item held (counts_lines view) (is_busy view.work)
    named input.Held = due_named moment held (serves_lines view)
    named (input.TransferEnded end sink) = ended_named (serves_lines view) moment end sink
    named (input.DataReady port) = always_cond C U (E (cond (serves_lines view) None None)) (awaits_ports view) _ _ (ready_named (serves_lines view) port) (stays users view (serves_lines view))
    named input.Closed = always_cond C U (E (cond (serves_lines view) None None)) (is_closed view.stage) _ _ (stays users view (serves_lines view)) (stays users view (serves_lines view))

pub sources_are_named : (A R K : Type 0) → SourcesAreNamed A R K
unfolding SourcesAreNamed
sources_are_named A R K = λ users view held moment reported. named A R K users view held moment reported
