-- Why a session on a host of its own breaks off, by what its calls leave of the reader and of the writer.
use Rattle.std.proofs.Common.{ℕ, ◌≡◌, ◌≤◌, ◌+◌, ◌⊎◌, inl, inr, List, [], ◌∷◌, ◌++◌, Bool, true, false, Option, Some, None, IfErr, IfSome, Result, Ok, Err, ◌<◌, length, refl, sym, ap, subst, ◌∙◌, arith}
use Rattle.std.proofs.lemmas.List.{append-nil, length-append}
use Rattle.std.specs.Io.KnownBytes.{Appends, Consumes}
use Rattle.ftp_reply.specs.Replies.{reply_text}
use Rattle.ftp_wire.specs.Items.{Item}
use Rattle.authorizer.specs.Users.{Users}
use Rattle.handler_hooks.specs.Events.{Event, event_of}
use Rattle.rate_floors.specs.Promises.{Promises}
use Rattle.session_table.specs.Answers.{answer_form}
use Rattle.session_table.specs.Steps.{Standing}
use Rattle.session_table.specs.declared.actions.Action.{Action}
use Rattle.session_table.specs.declared.actions.Action.TheVariants.{Say, Hook, OpenPassive, ConnectTo, DropData, Start, Abort, CloseControl, ReleaseFloor}
use Rattle.control_session.proofs.Balance.{chain_split}
use Rattle.control_session.proofs.Going.{open_went}
use Rattle.control_session.specs.Calls.{Chain, HostCall}
use Rattle.control_session.specs.Calls.HostCall.{Asked, Broke, Declined, Noted, Read, ReadEnd, ReadFailed, Released, Tried, Wrote}
use Rattle.control_session.specs.Rows.{Outcome}
use Rattle.control_session.specs.Sessions.{IsServed, IsSession, nothing}
use Rattle.control_session.specs.Sides.{Given, SideCall}
use Rattle.control_session.specs.Sides.Given.{Line, Held, Came, Closed}
use Rattle.control_session.specs.Sides.SideCall.{Aborts, Connects, Drops, Looks, Opens, Settles, Starts}
use Rattle.control_session.specs.Turns.{Carried, Carries, Heard, Move, Runs, Said, Situation, Went, asked_as, at, behind, concat, release_calls}
use Rattle.control_session.specs.Turns.Move.{Takes, Tries, Declines, Asks, Reads, Ends, Fails, Pays}
use Rattle.control_session.specs.declared.fault.ControlFault.{ControlFault}
use Rattle.control_session.specs.declared.fault.ControlFault.TheVariants.{ReadFault, WriteFault, Memory as NoMemory}
use Rattle.control_session.specs.declared.turn_fault.TurnFault.{TurnFault}
use Rattle.control_session.specs.declared.turn_fault.TurnFault.TheVariants.{Write, Memory}
use Rattle.session_host.proofs.Reporting.{appends_more, appends_none, consumes_more, consumes_none}
use Rattle.session_host.specs.Alone.{AloneDoes, Parts}
use Rattle.session_host.specs.Breaks.{IsBreak, MayBreakReading, MayBreakWriting}

-- 1 for true
abbrev bit : Bool → ℕ
bit true = 1
bit false = 0

-- a line changes nothing in what was heard but whether the data side was asked
behind_as : {K : Type 0} (given : Given K) (heard : Heard) → (asked : Bool) × (behind given heard ≡ asked_as asked heard)
behind_as (Line item) heard = (false, refl)
behind_as Held heard = (false, refl)
behind_as (Came event) heard = (heard.asked, refl)
behind_as Closed heard = (heard.asked, refl)

module _ {W : Type 0} (contents : W → Option (List ℕ)) (may_refuse : W → List ℕ → Type 0) where
  -- a text that is refused after another that is taken
  refused_later : (a b : W) (taken : List ℕ) → Appends (contents a) (contents b) taken → MayBreakWriting contents may_refuse b → MayBreakWriting contents may_refuse a
  refused_later a b taken first (later, more, text, appended, refuses) =
      (later, taken ++ more, text, appends_more (contents a) (contents b) (contents later) taken more first appended, refuses)

module _ {A S C D R W H Q K : Type 0} (users : Users) (Gives : C → ℕ → C → Type 0) (Asks' : D → SideCall A Q K → D → Type 0) (Reported : H → Event → H → Type 0)
    (remaining : R → Option (List ℕ)) (may_fail : R → Bool) (contents : W → Option (List ℕ)) (may_refuse : W → List ℕ → Type 0) where
  abbrev Does : Parts S C D R W H → HostCall A S Q K → Parts S C D R W H → Type 0
  Does = AloneDoes users Gives Asks' Reported remaining may_fail contents may_refuse

  only : (old new : Parts S C D R W H) (calls : List (HostCall A S Q K)) (call : HostCall A S Q K) → calls ≡ call ∷ [] → Chain Does old calls new → Does old call new
  only old new calls call is chain =
      let (mid, did, same) = subst (λ (x : List (HostCall A S Q K)). Chain Does old x new) is chain in
      subst (λ (x : Parts S C D R W H). Does old call x) (sym same) did

  no_call : (old new : Parts S C D R W H) (calls : List (HostCall A S Q K)) → calls ≡ [] → Chain Does old calls new → new ≡ old
  no_call old new calls is chain = subst (λ (x : List (HostCall A S Q K)). Chain Does old x new) is chain

  -- ---- calls beside those that read

  -- the reader is as it was, and these octets were written
  abbrev Beside : Parts S C D R W H → Parts S C D R W H → Type 0
  Beside old new = (new.reader ≡ old.reader) × ((taken : List ℕ) × Appends (contents old.writer) (contents new.writer) taken)

  beside_same : (old new : Parts S C D R W H) → new.reader ≡ old.reader → new.writer ≡ old.writer → Beside old new
  beside_same old new reader writer =
      (reader, ([], subst (λ (x : W). Appends (contents old.writer) (contents x) []) (sym writer) (appends_none (contents old.writer))))

  beside_as : (old new other : Parts S C D R W H) → new ≡ other → other.reader ≡ old.reader → other.writer ≡ old.writer → Beside old new
  beside_as old new other same reader writer =
      beside_same old new (ap (λ (x : Parts S C D R W H). x.reader) same ∙ reader) (ap (λ (x : Parts S C D R W H). x.writer) same ∙ writer)

  beside_then : (a b c : Parts S C D R W H) → Beside a b → Beside b c → Beside a c
  beside_then a b c (reader, (taken, wrote)) (also, (more, then)) =
      (also ∙ reader, (taken ++ more, appends_more (contents a.writer) (contents b.writer) (contents c.writer) taken more wrote then))

  -- a reply is lost only if the writer refuses it
  abbrev LostBy : Parts S C D R W H → Option TurnFault → Option TurnFault → Type 0
  LostBy old before after = after ≡ Some Write → (before ≡ Some Write) ⊎ MayBreakWriting contents may_refuse old.writer

  kept : (old : Parts S C D R W H) (before after : Option TurnFault) → after ≡ before → LostBy old before after
  kept old before after same = λ lost. inl (sym same ∙ lost)

  lost_then : (a b : Parts S C D R W H) (before mid after : Option TurnFault) → Beside a b → LostBy a before mid → LostBy b mid after → LostBy a before after
  lost_then a b before mid after (reader, (taken, wrote)) first second = λ lost. go (second lost)
    where
      go : (mid ≡ Some Write) ⊎ MayBreakWriting contents may_refuse b.writer → (before ≡ Some Write) ⊎ MayBreakWriting contents may_refuse a.writer
      go (inl is) = first is
      go (inr refused) = inr (refused_later contents may_refuse a.writer b.writer taken wrote refused)

  said_beside : (text : List ℕ) (before after : Option TurnFault) (calls : List (HostCall A S Q K)) (old new : Parts S C D R W H) → Said text calls after → Chain Does old calls new
      → Beside old new × LostBy old before after
  said_beside text before None calls old new is chain =
      let (wrote, rest) = only old new calls (Wrote text) is chain in
      ((ap (λ (x : Parts S C D R W H). x.reader) rest, (text, wrote)), λ lost. absurd (cc))
  said_beside text before (Some Write) calls old new is chain =
      let (refuses, (part, more, whole, wrote), rest) = only old new calls (Broke text) is chain in
      ((ap (λ (x : Parts S C D R W H). x.reader) rest, (part, wrote)), λ lost. inr (old.writer, [], text, appends_none (contents old.writer), refuses))
  said_beside text before (Some Memory) calls old new is chain =
      let same = no_call old new calls is chain in
      (beside_as old new old same refl refl, λ lost. absurd (cc))

  asked_beside : (call : SideCall A Q K) (before after : Option TurnFault) (calls : List (HostCall A S Q K)) (old new : Parts S C D R W H) → calls ≡ Asked call ∷ [] → after ≡ before → Chain Does old calls new
      → Beside old new × LostBy old before after
  asked_beside call before after calls old new is same chain =
      let (did, rest) = only old new calls (Asked call) is chain in
      (beside_as old new _ rest refl refl, kept old before after same)

  none_beside : (before after : Option TurnFault) (calls : List (HostCall A S Q K)) (old new : Parts S C D R W H) → calls ≡ [] → after ≡ before → Chain Does old calls new → Beside old new × LostBy old before after
  none_beside before after calls old new is same chain = (beside_as old new old (no_call old new calls is chain) refl refl, kept old before after same)

  carried_beside : (action : Action A Q K) (before after : Option TurnFault) (calls : List (HostCall A S Q K)) (old new : Parts S C D R W H) → Carried action before calls after → Chain Does old calls new
      → Beside old new × LostBy old before after
  carried_beside (Say reply) None after calls old new said chain = said_beside (reply_text (answer_form reply)) None after calls old new said chain
  carried_beside (Say reply) (Some fault) after calls old new (none, same) chain = none_beside (Some fault) after calls old new none same chain
  carried_beside (Hook hook) before after calls old new (is, same) chain =
      let (reported, rest) = only old new calls (Noted (event_of hook)) is chain in
      (beside_as old new _ rest refl refl, kept old before after same)
  carried_beside OpenPassive before after calls old new (is, same) chain = asked_beside Opens before after calls old new is same chain
  carried_beside (ConnectTo to) before after calls old new (is, same) chain = asked_beside (Connects to) before after calls old new is same chain
  carried_beside DropData before after calls old new (is, same) chain = asked_beside Drops before after calls old new is same chain
  carried_beside (Start job) before after calls old new (is, same) chain = asked_beside (Starts job) before after calls old new is same chain
  carried_beside Abort before after calls old new (is, same) chain = asked_beside Aborts before after calls old new is same chain
  carried_beside CloseControl before after calls old new (none, same) chain = none_beside before after calls old new none same chain
  carried_beside (ReleaseFloor user) before after calls old new (none, same) chain = none_beside before after calls old new none same chain

  carries_beside : (actions : List (Action A Q K)) (before after : Option TurnFault) (calls : List (HostCall A S Q K)) (old new : Parts S C D R W H) → Carries actions before calls after → Chain Does old calls new
      → Beside old new × LostBy old before after
  carries_beside [] before after calls old new (none, same) chain = none_beside before after calls old new none same chain
  carries_beside (action ∷ actions) before after calls old new (first, rest, mid, split, carried, more) chain =
      let (host, one, two) = chain_split Does old new first rest (subst (λ (x : List (HostCall A S Q K)). Chain Does old x new) split chain) in
      let (head, lost) = carried_beside action before mid first old host carried one in
      let (tail, also) = carries_beside actions mid after rest host new more two in
      (beside_then old host new head tail, lost_then old host before mid after head lost also)

  released_beside : (users : List ℕ) (old new : Parts S C D R W H) → Chain Does old (release_calls users) new → Beside old new
  released_beside [] old new same = beside_as old new old same refl refl
  released_beside (user ∷ users) old new (mid, did, more) = beside_then old mid new (beside_as old mid _ did refl refl) (released_beside users mid new more)

  -- ---- what holds after each move

  -- no read failed, each read but that of the end returned an octet, and those are all that was taken of the text
  abbrev ReadSo : Parts S C D R W H → Parts S C D R W H → Heard → Type 0
  ReadSo first host heard = (heard.failed ≡ false) × (heard.reads ≤ length heard.octets + bit heard.ended) × Consumes (remaining first.reader) (remaining host.reader) heard.octets

  record Stands (first host : Parts S C D R W H) (now : Situation K) : Type 0 where
    pub fails : may_fail host.reader ≡ may_fail first.reader
    pub reads : (may_fail first.reader ≡ true) ⊎ ReadSo first host now.heard
    pub taken : List ℕ
    pub wrote : Appends (contents first.writer) (contents host.writer) taken
    pub lost : now.lost ≡ Some Write → MayBreakWriting contents may_refuse first.writer

  reads_as : (first old new : Parts S C D R W H) (heard : Heard) → new.reader ≡ old.reader → (may_fail first.reader ≡ true) ⊎ ReadSo first old heard → (may_fail first.reader ≡ true) ⊎ ReadSo first new heard
  reads_as first old new heard same (inl may) = inl may
  reads_as first old new heard same (inr (failed, count, consumed)) =
      inr (failed, count, subst (λ (x : R). Consumes (remaining first.reader) (remaining x) heard.octets) (sym same) consumed)

  -- of what was heard only whether the data side was asked has changed
  beside_stands : (first old new : Parts S C D R W H) (before after : Situation K) (asked : Bool) → Beside old new → after.heard ≡ asked_as asked before.heard → LostBy old before.lost after.lost
      → Stands first old before → Stands first new after
  beside_stands first old new before after asked (reader, (more, then)) heard lost stands = record {
    fails = ap may_fail reader ∙ stands.fails;
    reads = subst (λ (x : Heard). (may_fail first.reader ≡ true) ⊎ ReadSo first new x) (sym heard) (reads_as first old new (asked_as asked before.heard) reader stands.reads);
    taken = stands.taken ++ more;
    wrote = appends_more (contents first.writer) (contents old.writer) (contents new.writer) stands.taken more stands.wrote then;
    lost = λ is. go (lost is);
  }
    where
      go : (before.lost ≡ Some Write) ⊎ MayBreakWriting contents may_refuse old.writer → MayBreakWriting contents may_refuse first.writer
      go (inl is) = stands.lost is
      go (inr refused) = refused_later contents may_refuse first.writer old.writer stands.taken stands.wrote refused

  more_read : (first old new : Parts S C D R W H) (heard : Heard) (octets : List ℕ) (items : List Item) → 0 < length octets → Consumes (remaining old.reader) (remaining new.reader) octets
      → ReadSo first old heard
      → ReadSo first new (record { octets = heard.octets ++ octets; items = heard.items ++ items; reads = heard.reads + 1; ended = heard.ended; failed = heard.failed; asked = false })
  more_read first old new heard octets items some consumed (failed, count, all) = (
    failed,
    omega (arith, count, some, length-append heard.octets octets),
    consumes_more (remaining first.reader) (remaining old.reader) (remaining new.reader) heard.octets octets all consumed,
  )

  end_read : (first old new : Parts S C D R W H) (heard : Heard) → heard.ended ≡ false → Consumes (remaining old.reader) (remaining new.reader) [] → ReadSo first old heard
      → ReadSo first new (record heard { reads = heard.reads + 1; ended = true; asked = false })
  end_read first old new heard unended consumed (failed, count, all) = (
    failed,
    (let none : bit heard.ended ≡ 0 = ap bit unended in omega (arith, count, none)),
    subst (λ (x : List ℕ). Consumes (remaining first.reader) (remaining new.reader) x) (append-nil heard.octets)
        (consumes_more (remaining first.reader) (remaining old.reader) (remaining new.reader) heard.octets [] all consumed),
  )

  -- octets were taken from the reader
  read_stands : (first old new : Parts S C D R W H) (before after : Situation K) (heard : Heard) → after.heard ≡ heard → may_fail new.reader ≡ may_fail old.reader → new.writer ≡ old.writer
      → after.lost ≡ before.lost → (ReadSo first old before.heard → ReadSo first new heard) → Stands first old before → Stands first new after
  read_stands first old new before after heard same fails writer lost more stands = record {
    fails = fails ∙ stands.fails;
    reads = subst (λ (x : Heard). (may_fail first.reader ≡ true) ⊎ ReadSo first new x) (sym same) (go stands.reads);
    taken = stands.taken;
    wrote = subst (λ (x : W). Appends (contents first.writer) (contents x) stands.taken) (sym writer) stands.wrote;
    lost = λ is. stands.lost (sym lost ∙ is);
  }
    where
      go : (may_fail first.reader ≡ true) ⊎ ReadSo first old before.heard → (may_fail first.reader ≡ true) ⊎ ReadSo first new heard
      go (inl may) = inl may
      go (inr so) = inr (more so)

  module _ (Row : Users → Standing → Given K → ℕ → S → S → Promises → Outcome A Q K → Type 0) (first : Parts S C D R W H) where
    move_stands : (before after : Situation K) (calls : List (HostCall A S Q K)) (old new : Parts S C D R W H) → Move Row before calls after → Chain Does old calls new → Stands first old before → Stands first new after
    move_stands before after calls old new (Takes turn) chain stands =
        let (mid, did, more) = subst (λ (x : List (HostCall A S Q K)). Chain Does old x new) turn.trace chain in
        let (host, one, two) = chain_split Does mid new (release_calls turn.paid) turn.carried more in
        let lent = beside_as old mid _ did.rest refl refl in
        let freed = beside_then old mid host lent (released_beside turn.paid mid host one) in
        let (reported, lost) = carries_beside turn.actions before.lost after.lost turn.carried host new turn.carries two in
        let (asked, heard) = behind_as turn.given before.heard in
        beside_stands first old new before after asked (beside_then old host new freed reported) (turn.heard ∙ heard)
        (lost_then old host before.lost before.lost after.lost freed (kept old before.lost before.lost refl) lost) stands
    move_stands before after calls old new (Tries given moment lent store store' promises came taken next row same trace) chain stands =
        let did = only old new calls (Tried before.session moment lent store store' promises) trace chain in
        beside_stands first old new before after before.heard.asked (beside_as old new _ did.rest refl refl) (ap (λ (x : Situation K). x.heard) same)
        (λ lost. let no = sym (ap (λ (x : Situation K). x.lost) same) ∙ lost in absurd (cc)) stands
    move_stands before after calls old new (Declines given came taken next line same trace) chain stands = absurd (only old new calls Declined trace chain)
    move_stands before after calls old new (Asks event none same (inl (live, trace))) chain stands =
        let (did, rest) = only old new calls (Asked (Looks event)) trace chain in
        beside_stands first old new before after true (beside_as old new _ rest refl refl) (ap (λ (x : Situation K). x.heard) same)
        (kept old before.lost after.lost (ap (λ (x : Situation K). x.lost) same)) stands
    move_stands before after calls old new (Asks event none same (inr (gone, trace))) chain stands =
        let (did, rest) = only old new calls (Asked (Settles event)) trace chain in
        beside_stands first old new before after true (beside_as old new _ rest refl refl) (ap (λ (x : Situation K). x.heard) same)
        (kept old before.lost after.lost (ap (λ (x : Situation K). x.lost) same)) stands
    move_stands before after calls old new (Reads octets items idle live unended same trace) chain stands =
        let (did, some) = only old new calls (Read octets) trace chain in
        read_stands first old new before after _ (ap (λ (x : Situation K). x.heard) same) did.fails (ap (λ (x : Parts S C D R W H). x.writer) did.rest) (ap (λ (x : Situation K). x.lost) same)
        (more_read first old new before.heard octets items some did.taken) stands
    move_stands before after calls old new (Ends idle live unended same trace) chain stands =
        let (did, end) = only old new calls ReadEnd trace chain in
        read_stands first old new before after _ (ap (λ (x : Situation K). x.heard) same) did.fails (ap (λ (x : Parts S C D R W H). x.writer) did.rest) (ap (λ (x : Situation K). x.lost) same)
        (end_read first old new before.heard unended did.taken) stands
    move_stands before after calls old new (Fails idle live unended same trace) chain stands =
        let (did, may) = only old new calls ReadFailed trace chain in
        record {
          fails = did.fails ∙ stands.fails;
          reads = inl (sym stands.fails ∙ may);
          taken = stands.taken;
          wrote = subst (λ (x : W). Appends (contents first.writer) (contents x) stands.taken) (sym (ap (λ (x : Parts S C D R W H). x.writer) did.rest)) stands.wrote;
          lost = λ is. stands.lost (sym (ap (λ (x : Situation K). x.lost) same) ∙ is);
        }
    move_stands before after calls old new (Pays user owed owes same trace) chain stands =
        let rest = only old new calls (Released user) trace chain in
        beside_stands first old new before after before.heard.asked (beside_as old new _ rest refl refl) (ap (λ (x : Situation K). x.heard) same)
        (kept old before.lost after.lost (ap (λ (x : Situation K). x.lost) same)) stands

    runs_stand : (moves : List (List (HostCall A S Q K))) (before after : Situation K) (old new : Parts S C D R W H) → Runs Row moves before after → Chain Does old (concat moves) new
        → Stands first old before → Stands first new after
    runs_stand [] before after old new same none stands =
        subst (λ (x : Situation K). Stands first new x) (sym same) (subst (λ (x : Parts S C D R W H). Stands first x before) (sym none) stands)
    runs_stand (calls ∷ moves) before after old new (mid, move, rest) chain stands =
        let (host, one, two) = chain_split Does old new calls (concat moves) chain in
        runs_stand moves mid after host new rest two (move_stands before mid calls old host move one stands)

    went_stands : (old new : Parts S C D R W H) (before after : Situation K) → Went Row Does old before new after → Stands first old before → Stands first new after
    went_stands old new before after went stands = runs_stand went.moves before after old new went.runs went.asked stands

    session_stands : {T : Type 0} (turns : ℕ) (result : Result T ControlFault) (session : Standing) (new : Parts S C D R W H) (is : IsSession Row Does turns result session first new)
        → Stands first new is.last
    session_stands turns result session new is =
        let (greeted, lost) = carries_beside is.actions None is.lost is.said first is.mid is.greets is.greeted in
        let begun = at session None [] nothing [] false is.lost in
        let start : Stands first is.mid begun = record {
          fails = ap may_fail greeted.0;
          reads = inr (refl, omega arith, subst (λ (x : R). Consumes (remaining first.reader) (remaining x) []) (sym greeted.0) (consumes_none (remaining first.reader)));
          taken = greeted.1.0;
          wrote = greeted.1.1;
          lost = λ is. go (lost is);
        } in
        let stood = went_stands is.mid is.turned begun is.stood (open_went Row Does is.mid is.turned begun is.stood is.went) start in
        let closing = is.closing in
        let closed = at closing.session None is.stood.taken is.stood.heard closing.owes is.stood.closed is.stood.lost in
        let settled = at closing.session closing.event is.stood.taken (asked_as true is.stood.heard) closing.owes is.stood.closed is.stood.lost in
        let done = went_stands is.turned closing.mid is.stood closed closing.first stood in
        let heard = beside_stands first closing.mid closing.mid' closed settled true (beside_as closing.mid closing.mid' _ closing.settled.1 refl refl) refl
        (kept closing.mid is.stood.lost is.stood.lost refl) done in
        went_stands closing.mid' new settled is.last closing.rest heard
      where
        go : (◌≡◌ {A = Option TurnFault} None (Some Write)) ⊎ MayBreakWriting contents may_refuse first.writer → MayBreakWriting contents may_refuse first.writer
        go (inl lost) = absurd (cc)
        go (inr refused) = refused

    -- ---- the fault

    long_enough : (left left' : Option (List ℕ)) (octets : List ℕ) (reads : ℕ) → reads ≤ length octets + 1 → Consumes left left' octets → IfSome left (λ text. reads ≤ length text + 1)
    long_enough None left' octets reads few consumed = tt
    long_enough (Some text) None octets reads few consumed = absurd consumed
    long_enough (Some text) (Some rest) octets reads few consumed = omega (arith, few, ap length consumed, length-append octets rest)

    at_most_one : (ended : Bool) → bit ended ≤ 1
    at_most_one true = omega arith
    at_most_one false = omega arith

    reading : (turns : ℕ) (new : Parts S C D R W H) (heard : Heard) → (heard.failed ≡ true) ⊎ (heard.reads ≡ turns) → (may_fail first.reader ≡ true) ⊎ ReadSo first new heard
        → MayBreakReading turns (may_fail first.reader) (remaining first.reader)
    reading turns new heard why (inl may) = inl may
    reading turns new heard (inl failed) (inr (none, count, consumed)) = let no = sym failed ∙ none in absurd (cc)
    reading turns new heard (inr all) (inr (none, count, consumed)) =
        inr (long_enough (remaining first.reader) (remaining new.reader) heard.octets turns (omega (arith, all, count, at_most_one heard.ended)) consumed)

    session_breaks : {T : Type 0} (turns : ℕ) (fault : ControlFault) (session : Standing) (new : Parts S C D R W H) → IsSession {T = T} Row Does turns (Err fault) session first new
        → IsBreak (MayBreakReading turns (may_fail first.reader) (remaining first.reader)) (MayBreakWriting contents may_refuse first.writer) fault
    session_breaks turns ReadFault session new is =
        let stands = session_stands turns (Err ReadFault) session new is in
        reading turns new is.last.heard (is.read_fault refl) stands.reads
    session_breaks turns WriteFault session new is =
        let stands = session_stands turns (Err WriteFault) session new is in
        stands.lost is.lost_to
    session_breaks turns NoMemory session new is = tt

    fault_breaks : {T : Type 0} (turns : ℕ) (fault : ControlFault) (session : Standing) (new : Parts S C D R W H) → IsServed {T = T} Row Does turns (Err fault) session first new
        → IsBreak (MayBreakReading turns (may_fail first.reader) (remaining first.reader)) (MayBreakWriting contents may_refuse first.writer) fault
    fault_breaks turns ReadFault session new (inl (memory, same)) = absurd (cc)
    fault_breaks turns WriteFault session new (inl (memory, same)) = absurd (cc)
    fault_breaks turns NoMemory session new (inl (memory, same)) = tt
    fault_breaks turns fault session new (inr is) = session_breaks turns fault session new is

    -- the fault of a session, if it breaks off
    pub breaks : {T : Type 0} (turns : ℕ) (result : Result T ControlFault) (session : Standing) (new : Parts S C D R W H) → IsServed Row Does turns result session first new
        → IfErr result (IsBreak (MayBreakReading turns (may_fail first.reader) (remaining first.reader)) (MayBreakWriting contents may_refuse first.writer))
    breaks turns (Ok done) session new is = tt
    breaks turns (Err fault) session new is = fault_breaks turns fault session new is
