-- A session on ends is one on what is known of them.
use Rattle.std.proofs.Common.{◌≡◌, ℕ, List, Option, Result, ap, inl, inr, subst}
use Rattle.std.specs.declared.alloc.Global.{Global}
use Rattle.authorizer.specs.Users.{Users}
use Rattle.handler_hooks.specs.Events.{Event}
use Rattle.memory_store.specs.InMemory.{InMemory, Memory, Upload}
use Rattle.rate_floors.specs.Promises.{Promises}
use Rattle.session_host.specs.Alone.{Parts}
use Rattle.session_host.specs.ControlFault.{ControlFault}
use Rattle.session_host.specs.Rows.{IsRow, Outcome}
use Rattle.session_host.specs.Sessions.{new_session}
use Rattle.session_host.specs.Sides.{Given, SideCall}
use Rattle.session_host.specs.Silent.{StaysSilent}
use Rattle.session_host.specs.Reported.{IsReported}
use Rattle.session_table.specs.Steps.{Standing}
use Rattle.session_table.specs.declared.settings.Settings.{Settings}
use Rattle.script_session.specs.Scripts.{AnswersScript, IsScript, ReadsZero, as_known, home_address, script_parts, unasked}
use Rattle.script_session.specs.declared.side.ScriptSide.{ScriptSide}

-- the ends as what is known of them
abbrev pub known : {S C D H R W : Type 0} → (R → Option (List ℕ)) → (W → Option (List ℕ)) → Parts S C D R W H → Parts S C D (Option (List ℕ)) (Option (List ℕ)) H
known remaining contents host =
    record { store = host.store; promises = host.promises; clock = host.clock; side = host.side; reader = remaining host.reader; writer = contents host.writer; hooks = host.hooks }

module _ {A S C D H Q K T R W : Type 0} (Row : Standing → Given K → ℕ → S → S → Promises → Outcome A Q K → Type 0)
    (Gives : C → ℕ → C → Type 0) (Asks : D → SideCall A Q K → D → Type 0) (Reported : H → Event → H → Type 0)
    (remaining : R → Option (List ℕ)) (contents : W → Option (List ℕ)) where
  pub reported_known : (result : Result T ControlFault) (session : Standing) (old new : Parts S C D R W H)
      → IsReported Row Gives Asks Reported remaining contents result session old new
      → IsReported Row Gives Asks Reported as_known as_known result session (known remaining contents old) (known remaining contents new)
  reported_known result session old new (inl (memory, same)) = inl (memory, ap (known remaining contents) same)
  reported_known result session old new (inr reported) = inr (record {
    read = reported.read;
    items = reported.items;
    written = reported.written;
    actions = reported.actions;
    side = reported.side;
    hooks = reported.hooks;
    lost = reported.lost;
    last = reported.last;
    row = reported.row;
    serves = reported.serves;
    said = reported.said;
    acts = reported.acts;
    closed = reported.closed;
    answered = reported.answered;
    paid = reported.paid;
    kept = reported.kept;
    store_is = reported.store_is;
    promises_are = reported.promises_are;
    side_is = reported.side_is;
    hooks_are = reported.hooks_are;
    consumed = reported.consumed;
    heard = reported.heard;
    cut = reported.cut;
    over = reported.over;
    appended = reported.appended;
    whole = reported.whole;
    part = reported.part;
  })

module _ {T R W : Type 0} (users : Users) (settings : Settings Global) (port : ℕ) (remaining : R → Option (List ℕ)) (contents : W → Option (List ℕ)) (result : Result T ControlFault)
    (store store' : Memory) (promises promises' : Promises) (side : ScriptSide Global Upload) (reader reader' : R) (writer writer' : W) where
  pub script_reported : promises' ≡ promises
      → IsReported (IsRow {A = Global} {R = List ℕ} InMemory users) ReadsZero AnswersScript StaysSilent remaining contents result (new_session settings home_address)
      (script_parts store promises (unasked port) reader writer) (script_parts store' promises' side reader' writer')
      → IsScript users settings port promises store store' (remaining reader) (remaining reader') (contents writer) (contents writer') result
  script_reported same reported = record {
    side = side;
    reported = subst (λ (x : Promises). IsReported (IsRow {A = Global} {R = List ℕ} InMemory users) ReadsZero AnswersScript StaysSilent as_known as_known result (new_session settings home_address)
        (script_parts store promises (unasked port) (remaining reader) (contents writer)) (script_parts store' x side (remaining reader') (contents writer')))
        same (reported_known _ ReadsZero AnswersScript StaysSilent remaining contents _ _ _ _ reported);
  }
