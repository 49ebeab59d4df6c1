-- What a session on a host of its own has read, written and done, told end to end.
use Rattle.std.proofs.Common.{ℕ, ◌≡◌, ◌⊎◌, inl, inr, List, [], ◌∷◌, ◌++◌, Bool, true, false, Option, Some, None, Result, Ok, Err, refl, sym, ap, subst, append_assoc, ◌∙◌}
use Rattle.std.specs.Result.{OnErr, OnOk}
use Rattle.std.proofs.lemmas.Bool.{false≢true}
use Rattle.std.proofs.lemmas.List.{append-nil}
use Rattle.std.specs.Io.KnownBytes.{Appends, Consumes, IsAtEnd}
use Rattle.ftp_reply.specs.Replies.{reply_text}
use Rattle.ftp_wire.specs.Items.{Item}
use Rattle.ftp_wire.specs.Reading.{OnlyReadsAs}
use Rattle.authorizer.specs.Users.{Users}
use Rattle.handler_hooks.specs.Events.{Event, event_of}
use Rattle.rate_floors.specs.Promises.{Promises}
use Rattle.session_table.specs.Steps.{Standing}
use Rattle.session_table.specs.Answers.{answer_form}
use Rattle.session_table.specs.Views.{is_closed}
use Rattle.session_table.specs.declared.actions.Action.{Action}
use Rattle.session_table.specs.declared.actions.Action.TheVariants.{Say, Hook, OpenPassive, ConnectTo, DropData, Start, Abort, CloseControl, ReleaseFloor}
use Rattle.control_session.proofs.Balance.{chain_split}
use Rattle.control_session.specs.Calls.{Chain, HostCall}
use Rattle.control_session.specs.Calls.HostCall.{Asked, Declined, Read, ReadEnd, ReadFailed, Released, Tried}
use Rattle.control_session.specs.Rows.{Outcome}
use Rattle.control_session.specs.Rows.Outcome.{Made, Stopped}
use Rattle.control_session.specs.Sessions.{IsServed, IsSession, nothing}
use Rattle.control_session.specs.Sides.{Given, SideCall, SideEvent}
use Rattle.control_session.specs.Sides.Given.{Line, Held, Came, Closed}
use Rattle.control_session.specs.Sides.SideCall.{Aborts, Connects, Drops, Looks, Opens, Settles, Starts}
use Rattle.control_session.specs.Reported.{text_of, texts}
use Rattle.control_session.specs.Turns.{Carried, Carries, Heard, IsIdle, IsTurn, Move, Next, Runs, Situation, Went, asked_as, at, behind, concat, release_calls}
use Rattle.control_session.specs.Turns.Move.{Takes, Tries, Declines, Asks, Reads, Ends, Fails, Pays}
use Rattle.control_session.specs.declared.fault.ControlFault.{ControlFault}
use Rattle.control_session.proofs.Going.{concat_more, open_went}
use Rattle.control_session.specs.declared.turn_fault.TurnFault.{TurnFault}
use Rattle.control_session.specs.declared.turn_fault.TurnFault.TheVariants.{Write, Memory}
use Rattle.session_host.specs.Alone.{AloneDoes, Parts}
use Rattle.session_host.specs.Reported.{Act, Acts, IsEndToEnd, IsReported, IsTurned, Scene, Serves, released, situated}
use Rattle.session_host.specs.Reported.Act.{Turns, Hears, Listens, Frees, Lacks}

-- ---- octets that are known

pub appends_none : (xs : Option (List ℕ)) → Appends xs xs []
appends_none None = tt
appends_none (Some xs) = sym (append-nil xs)

pub appends_more : (a b c : Option (List ℕ)) (xs ys : List ℕ) → Appends a b xs → Appends b c ys → Appends a c (xs ++ ys)
appends_more None b c xs ys first second = tt
appends_more (Some a) None c xs ys first second = absurd first
appends_more (Some a) (Some b) None xs ys first second = absurd second
appends_more (Some a) (Some b) (Some c) xs ys first second = second ∙ (ap (λ (t : List ℕ). t ++ ys) first ∙ append_assoc a xs ys)

pub consumes_none : (xs : Option (List ℕ)) → Consumes xs xs []
consumes_none None = tt
consumes_none (Some xs) = refl

pub consumes_more : (a b c : Option (List ℕ)) (xs ys : List ℕ) → Consumes a b xs → Consumes b c ys → Consumes a c (xs ++ ys)
consumes_more None b c xs ys first second = tt
consumes_more (Some a) None c xs ys first second = absurd first
consumes_more (Some a) (Some b) None xs ys first second = absurd second
consumes_more (Some a) (Some b) (Some c) xs ys first second = first ∙ (ap (λ (t : List ℕ). xs ++ t) second ∙ sym (append_assoc xs ys c))

-- ---- what is written of what is said

-- of what was said all was written, unless a reply could not be said: then some of it was, from its front
abbrev pub Cut : Option TurnFault → List ℕ → List ℕ → Type 0
Cut None written said = written ≡ said
Cut (Some fault) written said = (rest : List ℕ) × (said ≡ written ++ rest)

-- the same of what is said more; nothing is written any more once a reply could not be said
abbrev pub CutBy : Option TurnFault → Option TurnFault → List ℕ → List ℕ → Type 0
CutBy None None written said = written ≡ said
CutBy None (Some fault) written said = (rest : List ℕ) × (said ≡ written ++ rest)
CutBy (Some why) None written said = ⊥
CutBy (Some why) (Some fault) written said = written ≡ []

cut_by_more : (a b c : Option TurnFault) (first says second reporting : List ℕ) → CutBy a b first says → CutBy b c second reporting → CutBy a c (first ++ second) (says ++ reporting)
cut_by_more None b c first says second reporting one two = by b c one two
  where
    by : (b c : Option TurnFault) → CutBy None b first says → CutBy b c second reporting → CutBy None c (first ++ second) (says ++ reporting)
    by None None one two = ap (λ (x : List ℕ). x ++ second) one ∙ ap (λ (x : List ℕ). says ++ x) two
    by None (Some fault) one (rest, is) = (rest, ap (λ (x : List ℕ). x ++ reporting) (sym one) ∙ (ap (λ (x : List ℕ). first ++ x) is ∙ sym (append_assoc first second rest)))
    by (Some why) None one two = absurd two
    by (Some why) (Some fault) (rest, is) none = (
      rest ++ reporting,
      ap (λ (x : List ℕ). x ++ reporting) is
          ∙ (append_assoc first rest reporting ∙ ap (λ (x : List ℕ). x ++ (rest ++ reporting)) (sym (append-nil first) ∙ ap (λ (x : List ℕ). first ++ x) (sym none))),
    )
cut_by_more (Some why) None c first says second reporting one two = absurd one
cut_by_more (Some why) (Some fault) None first says second reporting one two = absurd two
cut_by_more (Some why) (Some fault) (Some last) first says second reporting one two = ap (λ (x : List ℕ). x ++ second) one ∙ two

cut_none : (lost : Option TurnFault) → CutBy lost lost [] []
cut_none None = refl
cut_none (Some fault) = refl

-- whether a reply was lost, or memory ran out for a step
abbrev pub is_lost : Option TurnFault → Bool
is_lost None = false
is_lost (Some fault) = true

stays_lost : (lost lost' : Option TurnFault) (written said : List ℕ) → CutBy lost lost' written said → is_lost lost ≡ true → is_lost lost' ≡ true
stays_lost None lost' written said cut is = absurd (false≢true is)
stays_lost (Some why) None written said cut is = absurd cut
stays_lost (Some why) (Some fault) written said cut is = refl

stopped_cut : (lost : Option TurnFault) → CutBy lost (Some Memory) [] []
stopped_cut None = ([], refl)
stopped_cut (Some fault) = refl

-- a line changes nothing else in what was heard
behind_as : {K : Type 0} (given : Given K) (heard : Heard) → behind given heard ≡ asked_as (behind given heard).asked heard
behind_as (Line item) heard = refl
behind_as Held heard = refl
behind_as (Came event) heard = refl
behind_as Closed heard = refl

-- whether the data side was asked, of two that were heard alike in this
behind_asked : {K : Type 0} (given : Given K) (heard other : Heard) → heard.asked ≡ other.asked → (behind given heard).asked ≡ (behind given other).asked
behind_asked (Line item) heard other is = refl
behind_asked Held heard other is = refl
behind_asked (Came event) heard other is = is
behind_asked Closed heard other is = is

module _ {A D H Q K : Type 0} (Asks' : D → SideCall A Q K → D → Type 0) (Reported : H → Event → H → Type 0) where
  -- what one action makes of the data side and of the handler
  abbrev ServesOne : Action A Q K → D → H → D → H → Type 0
  ServesOne (Say reply) side hooks side' hooks' = (side' ≡ side) × (hooks' ≡ hooks)
  ServesOne (Hook call) side hooks side' hooks' = (side' ≡ side) × Reported hooks (event_of call) hooks'
  ServesOne OpenPassive side hooks side' hooks' = Asks' side Opens side' × (hooks' ≡ hooks)
  ServesOne (ConnectTo to) side hooks side' hooks' = Asks' side (Connects to) side' × (hooks' ≡ hooks)
  ServesOne DropData side hooks side' hooks' = Asks' side Drops side' × (hooks' ≡ hooks)
  ServesOne (Start job) side hooks side' hooks' = Asks' side (Starts job) side' × (hooks' ≡ hooks)
  ServesOne Abort side hooks side' hooks' = Asks' side Aborts side' × (hooks' ≡ hooks)
  ServesOne CloseControl side hooks side' hooks' = (side' ≡ side) × (hooks' ≡ hooks)
  ServesOne (ReleaseFloor user) side hooks side' hooks' = (side' ≡ side) × (hooks' ≡ hooks)

  serves_as : (actions : List (Action A Q K)) (side side1 side' : D) (hooks hooks1 hooks' : H) → side1 ≡ side → hooks1 ≡ hooks → Serves Asks' Reported actions side1 hooks1 side' hooks' → Serves Asks' Reported actions side hooks side' hooks'
  serves_as actions side side1 side' hooks hooks1 hooks' same also rest =
      subst (λ (s : D). Serves Asks' Reported actions s hooks side' hooks') same (subst (λ (h : H). Serves Asks' Reported actions side1 h side' hooks') also rest)

  serves_more : (action : Action A Q K) (actions : List (Action A Q K)) (side side1 side' : D) (hooks hooks1 hooks' : H)
      → ServesOne action side hooks side1 hooks1 → Serves Asks' Reported actions side1 hooks1 side' hooks' → Serves Asks' Reported (action ∷ actions) side hooks side' hooks'
  serves_more (Say reply) actions side side1 side' hooks hooks1 hooks' (same, also) rest = serves_as actions side side1 side' hooks hooks1 hooks' same also rest
  serves_more (Hook call) actions side side1 side' hooks hooks1 hooks' (same, reported) rest = (hooks1, reported, serves_as actions side side1 side' hooks1 hooks1 hooks' same refl rest)
  serves_more OpenPassive actions side side1 side' hooks hooks1 hooks' (did, also) rest = (side1, did, serves_as actions side1 side1 side' hooks hooks1 hooks' refl also rest)
  serves_more (ConnectTo to) actions side side1 side' hooks hooks1 hooks' (did, also) rest = (side1, did, serves_as actions side1 side1 side' hooks hooks1 hooks' refl also rest)
  serves_more DropData actions side side1 side' hooks hooks1 hooks' (did, also) rest = (side1, did, serves_as actions side1 side1 side' hooks hooks1 hooks' refl also rest)
  serves_more (Start job) actions side side1 side' hooks hooks1 hooks' (did, also) rest = (side1, did, serves_as actions side1 side1 side' hooks hooks1 hooks' refl also rest)
  serves_more Abort actions side side1 side' hooks hooks1 hooks' (did, also) rest = (side1, did, serves_as actions side1 side1 side' hooks hooks1 hooks' refl also rest)
  serves_more CloseControl actions side side1 side' hooks hooks1 hooks' (same, also) rest = serves_as actions side side1 side' hooks hooks1 hooks' same also rest
  serves_more (ReleaseFloor user) actions side side1 side' hooks hooks1 hooks' (same, also) rest = serves_as actions side side1 side' hooks hooks1 hooks' same also rest

-- ---- what calls make of a host of its own

module _ {A S C D R W H Q K : Type 0} (users : Users) (Gives : C → ℕ → C → Type 0) (Asks' : D → SideCall A Q K → D → Type 0) (Reported : H → Event → H → Type 0)
    (remaining : R → Option (List ℕ)) (may_fail : R → Bool) (contents : W → Option (List ℕ)) (may_refuse : W → List ℕ → Type 0) where
  abbrev Does : Parts S C D R W H → HostCall A S Q K → Parts S C D R W H → Type 0
  Does = AloneDoes users Gives Asks' Reported remaining may_fail contents may_refuse

  one : (old new : Parts S C D R W H) (calls : List (HostCall A S Q K)) (call : HostCall A S Q K) → calls ≡ call ∷ [] → Chain Does old calls new → Does old call new
  one old new calls call is chain =
      let (mid, did, same) = subst (λ (x : List (HostCall A S Q K)). Chain Does old x new) is chain in
      subst (λ (x : Parts S C D R W H). Does old call x) (sym same) did

  nothing_done : (old new : Parts S C D R W H) (calls : List (HostCall A S Q K)) → calls ≡ [] → Chain Does old calls new → new ≡ old
  nothing_done old new calls is chain = subst (λ (x : List (HostCall A S Q K)). Chain Does old x new) is chain

  -- all but the data side, the writer and the handler stays
  record Beside (old new : Parts S C D R W H) : Type 0 where
    pub store : new.store ≡ old.store
    pub promises : new.promises ≡ old.promises
    pub clock : new.clock ≡ old.clock
    pub reader : new.reader ≡ old.reader

  beside_as : (old new other : Parts S C D R W H) → new ≡ other → Beside old other → Beside old new
  beside_as old new other same beside = subst (λ (x : Parts S C D R W H). Beside old x) (sym same) beside

  beside_none : (old new : Parts S C D R W H) → new ≡ old → Beside old new
  beside_none old new same = beside_as old new old same (record { store = refl; promises = refl; clock = refl; reader = refl })

  beside_writer : (old new : Parts S C D R W H) → new ≡ record old { writer = new.writer } → Beside old new
  beside_writer old new same = beside_as old new (record old { writer = new.writer }) same (record { store = refl; promises = refl; clock = refl; reader = refl })

  beside_hooks : (old new : Parts S C D R W H) → new ≡ record old { hooks = new.hooks } → Beside old new
  beside_hooks old new same = beside_as old new (record old { hooks = new.hooks }) same (record { store = refl; promises = refl; clock = refl; reader = refl })

  beside_side : (old new : Parts S C D R W H) → new ≡ record old { side = new.side } → Beside old new
  beside_side old new same = beside_as old new (record old { side = new.side }) same (record { store = refl; promises = refl; clock = refl; reader = refl })

  beside_then : (a b c : Parts S C D R W H) → Beside a b → Beside b c → Beside a c
  beside_then a b c first second = record {
    store = second.store ∙ first.store;
    promises = second.promises ∙ first.promises;
    clock = second.clock ∙ first.clock;
    reader = second.reader ∙ first.reader;
  }

  writes_none : (old new : Parts S C D R W H) → new.writer ≡ old.writer → Appends (contents old.writer) (contents new.writer) []
  writes_none old new same = subst (λ (w : W). Appends (contents old.writer) (contents w) []) (sym same) (appends_none (contents old.writer))

  -- what carrying out actions makes of a host: what is written of what they say, and the calls that they make
  record Carrying (old new : Parts S C D R W H) (lost lost' : Option TurnFault) (says : List ℕ) : Type 0 where
    pub written : List ℕ
    pub beside : Beside old new
    pub appended : Appends (contents old.writer) (contents new.writer) written
    pub cut : CutBy lost lost' written says

  quiet : (old new : Parts S C D R W H) (lost lost' : Option TurnFault) → lost' ≡ lost → Beside old new → new.writer ≡ old.writer → Carrying old new lost lost' []
  quiet old new lost lost' same beside writer = record {
    written = [];
    beside = beside;
    appended = writes_none old new writer;
    cut = subst (λ (l : Option TurnFault). CutBy lost l [] []) (sym same) (cut_none lost);
  }

  asked : (old new : Parts S C D R W H) (calls : List (HostCall A S Q K)) (call : SideCall A Q K) (lost lost' : Option TurnFault) → calls ≡ Asked call ∷ [] → lost' ≡ lost → Chain Does old calls new
      → (Asks' old.side call new.side × (new.hooks ≡ old.hooks)) × Carrying old new lost lost' []
  asked old new calls call lost lost' is same chain =
      let (did, rest) = one old new calls (Asked call) is chain in (
        (did, ap (λ (x : Parts S C D R W H). x.hooks) rest),
        quiet old new lost lost' same (beside_side old new rest) (ap (λ (x : Parts S C D R W H). x.writer) rest),
      )

  idle : (old new : Parts S C D R W H) (calls : List (HostCall A S Q K)) (lost lost' : Option TurnFault) → calls ≡ [] → lost' ≡ lost → Chain Does old calls new
      → ((new.side ≡ old.side) × (new.hooks ≡ old.hooks)) × Carrying old new lost lost' []
  idle old new calls lost lost' is same chain =
      let still = nothing_done old new calls is chain in (
        (ap (λ (x : Parts S C D R W H). x.side) still, ap (λ (x : Parts S C D R W H). x.hooks) still),
        quiet old new lost lost' same (beside_none old new still) (ap (λ (x : Parts S C D R W H). x.writer) still),
      )

  carried_reported : (action : Action A Q K) (lost lost' : Option TurnFault) (calls : List (HostCall A S Q K)) (old new : Parts S C D R W H)
      → Carried action lost calls lost' → Chain Does old calls new → ServesOne Asks' Reported action old.side old.hooks new.side new.hooks × Carrying old new lost lost' (text_of action)
  carried_reported (Say reply) None None calls old new is chain =
      let (did, rest) = one old new calls _ is chain in (
        (ap (λ (x : Parts S C D R W H). x.side) rest, ap (λ (x : Parts S C D R W H). x.hooks) rest),
        record { written = reply_text (answer_form reply); beside = beside_writer old new rest; appended = did; cut = refl },
      )
  carried_reported (Say reply) None (Some Write) calls old new is chain =
      let (refuses, part, rest) = one old new calls _ is chain in (
        (ap (λ (x : Parts S C D R W H). x.side) rest, ap (λ (x : Parts S C D R W H). x.hooks) rest),
        record { written = part.0; beside = beside_writer old new rest; appended = part.3; cut = (part.1, part.2) },
      )
  carried_reported (Say reply) None (Some Memory) calls old new is chain =
      let still = nothing_done old new calls is chain in (
        (ap (λ (x : Parts S C D R W H). x.side) still, ap (λ (x : Parts S C D R W H). x.hooks) still),
        record {
          written = [];
          beside = beside_none old new still;
          appended = writes_none old new (ap (λ (x : Parts S C D R W H). x.writer) still);
          cut = (reply_text (answer_form reply), refl);
        },
      )
  carried_reported (Say reply) (Some fault) lost' calls old new (is, same) chain =
      let still = nothing_done old new calls is chain in (
        (ap (λ (x : Parts S C D R W H). x.side) still, ap (λ (x : Parts S C D R W H). x.hooks) still),
        record {
          written = [];
          beside = beside_none old new still;
          appended = writes_none old new (ap (λ (x : Parts S C D R W H). x.writer) still);
          cut = subst (λ (l : Option TurnFault). CutBy (Some fault) l [] (reply_text (answer_form reply))) (sym same) refl;
        },
      )
  carried_reported (Hook call) lost lost' calls old new (is, same) chain =
      let (did, rest) = one old new calls _ is chain in (
        (ap (λ (x : Parts S C D R W H). x.side) rest, did),
        quiet old new lost lost' same (beside_hooks old new rest) (ap (λ (x : Parts S C D R W H). x.writer) rest),
      )
  carried_reported OpenPassive lost lost' calls old new (is, same) chain = asked old new calls Opens lost lost' is same chain
  carried_reported (ConnectTo to) lost lost' calls old new (is, same) chain = asked old new calls (Connects to) lost lost' is same chain
  carried_reported DropData lost lost' calls old new (is, same) chain = asked old new calls Drops lost lost' is same chain
  carried_reported (Start job) lost lost' calls old new (is, same) chain = asked old new calls (Starts job) lost lost' is same chain
  carried_reported Abort lost lost' calls old new (is, same) chain = asked old new calls Aborts lost lost' is same chain
  carried_reported CloseControl lost lost' calls old new (is, same) chain = idle old new calls lost lost' is same chain
  carried_reported (ReleaseFloor user) lost lost' calls old new (is, same) chain = idle old new calls lost lost' is same chain

  carrying_more : (a b c : Parts S C D R W H) (l0 l1 l2 : Option TurnFault) (says reporting : List ℕ) → Carrying a b l0 l1 says → Carrying b c l1 l2 reporting → Carrying a c l0 l2 (says ++ reporting)
  carrying_more a b c l0 l1 l2 says reporting first second = record {
    written = first.written ++ second.written;
    beside = beside_then a b c first.beside second.beside;
    appended = appends_more (contents a.writer) (contents b.writer) (contents c.writer) first.written second.written first.appended second.appended;
    cut = cut_by_more l0 l1 l2 first.written says second.written reporting first.cut second.cut;
  }

  carries_reported : (actions : List (Action A Q K)) (lost lost' : Option TurnFault) (calls : List (HostCall A S Q K)) (old new : Parts S C D R W H)
      → Carries actions lost calls lost' → Chain Does old calls new → Serves Asks' Reported actions old.side old.hooks new.side new.hooks × Carrying old new lost lost' (texts actions)
  carries_reported [] lost lost' calls old new (is, same) chain = idle old new calls lost lost' is same chain
  carries_reported (action ∷ actions) lost lost' calls old new (first, rest, mid, is, carried, carries) chain =
      let (host, front, back) = chain_split Does old new first rest (subst (λ (x : List (HostCall A S Q K)). Chain Does old x new) is chain) in
      let (serves, now) = carried_reported action lost mid first old host carried front in
      let (serving, later) = carries_reported actions mid lost' rest host new carries back in (
        serves_more Asks' Reported action actions old.side host.side new.side old.hooks host.hooks new.hooks serves serving,
        carrying_more old host new lost mid lost' (text_of action) (texts actions) now later,
      )

  paid_reported : (paid : List ℕ) (old new : Parts S C D R W H) → Chain Does old (release_calls paid) new → new ≡ record old { promises = released paid old.promises }
  paid_reported [] old new same = same
  paid_reported (user ∷ paid) old new (mid, did, more) =
      paid_reported paid mid new more ∙ ap (λ (x : Parts S C D R W H). record x { promises = released paid x.promises }) did

  -- ---- moves

  module _ (Row : Users → Standing → Given K → ℕ → S → S → Promises → Outcome A Q K → Type 0) where
    abbrev scene_of : Situation K → Parts S C D R W H → Scene S C D H K
    scene_of now host = record {
      session = now.session;
      came = now.came;
      asked = now.heard.asked;
      taken = now.taken;
      owed = now.owed;
      closed = now.closed;
      lost = is_lost now.lost;
      store = host.store;
      promises = host.promises;
      clock = host.clock;
      side = host.side;
      hooks = host.hooks;
    }

    abbrev Doing : List Item → Scene S C D H K → List ℕ → Scene S C D H K → Type 0
    Doing = Act (Row users) Gives Asks' Reported

    follows_next : (items later : List Item) (now : Situation K) (host : Parts S C D R W H) (given : Given K) (came : Option (SideEvent K)) (taken : List Item)
        → items ≡ now.heard.items ++ later → Next now given came taken → Next (situated items (scene_of now host)) given came taken
    follows_next items later now host (Came event) came taken is next = next
    follows_next items later now host Held came taken is next = next
    follows_next items later now host (Line item) came taken is (idle, live, (rest, heard), gone, more) =
        (idle, live, (rest ++ later, is ∙ (ap (λ (x : List Item). x ++ later) heard ∙ append_assoc now.taken (item ∷ rest) later)), gone, more)
    follows_next items later now host Closed came taken is next = next

    -- what a move makes of a session, of what was read and of what was written
    record Moved (items : List Item) (before : Situation K) (old : Parts S C D R W H) (after : Situation K) (new : Parts S C D R W H) : Type 0 where
      pub says : List (List ℕ)
      pub acts : Acts (Row users) Gives Asks' Reported says items (scene_of before old) (scene_of after new)
      pub written : List ℕ
      pub appended : Appends (contents old.writer) (contents new.writer) written
      pub cut : CutBy before.lost after.lost written (concat says)
      pub octets : List ℕ
      pub consumed : Consumes (remaining old.reader) (remaining new.reader) octets
      pub heard : after.heard.octets ≡ before.heard.octets ++ octets
      pub at_end : (before.heard.ended ≡ true → IsAtEnd (remaining old.reader)) → after.heard.ended ≡ true → IsAtEnd (remaining new.reader)

    -- nothing is read
    read_nothing : (old new : Parts S C D R W H) → new.reader ≡ old.reader → Consumes (remaining old.reader) (remaining new.reader) []
    read_nothing old new same = subst (λ (r : R). Consumes (remaining old.reader) (remaining r) []) (sym same) (consumes_none (remaining old.reader))

    still_at_end : (old new : Parts S C D R W H) (was is : Bool) → new.reader ≡ old.reader → is ≡ was → (was ≡ true → IsAtEnd (remaining old.reader)) → is ≡ true → IsAtEnd (remaining new.reader)
    still_at_end old new was is same stays ends ended = subst (λ (r : R). IsAtEnd (remaining r)) (sym same) (ends (sym stays ∙ ended))

    turn_reported : (items later : List Item) (before after : Situation K) (calls : List (HostCall A S Q K)) (old new : Parts S C D R W H)
        → items ≡ before.heard.items ++ later → IsTurn Row before calls after → Chain Does old calls new → Moved items before old after new
    turn_reported items later before after calls old new is turn chain =
        let (lent, did, rest) = subst (λ (x : List (HostCall A S Q K)). Chain Does old x new) turn.trace chain in
        let (host, front, back) = chain_split Does lent new (release_calls turn.paid) turn.carried rest in
        let freed = paid_reported turn.paid lent host front in
        let (serves, carrying) = carries_reported turn.actions before.lost after.lost turn.carried host new turn.carries back in
        let stores : new.store ≡ turn.store' =
        carrying.beside.store ∙ (ap (λ (x : Parts S C D R W H). x.store) freed ∙ ap (λ (x : Parts S C D R W H). x.store) did.rest) in
        let clocks : new.clock ≡ lent.clock = carrying.beside.clock ∙ ap (λ (x : Parts S C D R W H). x.clock) freed in
        let readers : new.reader ≡ old.reader =
        carrying.beside.reader ∙ (ap (λ (x : Parts S C D R W H). x.reader) freed ∙ ap (λ (x : Parts S C D R W H). x.reader) did.rest) in
        let writers : host.writer ≡ old.writer = ap (λ (x : Parts S C D R W H). x.writer) freed ∙ ap (λ (x : Parts S C D R W H). x.writer) did.rest in
        let sides : host.side ≡ old.side = ap (λ (x : Parts S C D R W H). x.side) freed ∙ ap (λ (x : Parts S C D R W H). x.side) did.rest in
        let handlers : host.hooks ≡ old.hooks = ap (λ (x : Parts S C D R W H). x.hooks) freed ∙ ap (λ (x : Parts S C D R W H). x.hooks) did.rest in
        let turned : IsTurned (Row users) Gives Asks' Reported items (scene_of before old) (texts turn.actions) (scene_of after new) = record {
          given = turn.given;
          moment = turn.moment;
          promises = turn.promises';
          actions = turn.actions;
          paid = turn.paid;
          next = follows_next items later before old turn.given after.came after.taken is turn.next;
          gives = subst (λ (c : C). Gives old.clock turn.moment c) (sym clocks) did.gives;
          asked = ap (λ (x : Heard). x.asked) turn.heard ∙ behind_asked turn.given before.heard (situated items (scene_of before old)).heard refl;
          row = subst (λ (s : S). Row users before.session turn.given turn.moment old.store s old.promises (Made turn.promises' after.session turn.actions)) (sym stores)
              (subst (λ (s : S). Row users before.session turn.given turn.moment s turn.store' old.promises (Made turn.promises' after.session turn.actions)) did.store_lent
              (subst (λ (p : Promises). Row users before.session turn.given turn.moment turn.store turn.store' p (Made turn.promises' after.session turn.actions)) did.promises_lent
              (subst (λ (u : Users). Row u before.session turn.given turn.moment turn.store turn.store' turn.promises (Made turn.promises' after.session turn.actions)) did.users_lent turn.row)));
          owes = turn.owes;
          promises_are = carrying.beside.promises
              ∙ (ap (λ (x : Parts S C D R W H). x.promises) freed ∙ ap (λ (x : Parts S C D R W H). released turn.paid x.promises) did.rest);
          serves = serves_as Asks' Reported turn.actions old.side host.side new.side old.hooks host.hooks new.hooks sides handlers serves;
          closed = turn.closed;
          lost = stays_lost before.lost after.lost carrying.written (texts turn.actions) carrying.cut;
          says_is = refl;
        } in
        record {
          says = texts turn.actions ∷ [];
          acts = (scene_of after new, Turns turned, refl);
          written = carrying.written;
          appended = subst (λ (w : W). Appends (contents w) (contents new.writer) carrying.written) writers carrying.appended;
          cut = subst (λ (x : List ℕ). CutBy before.lost after.lost carrying.written x) (sym (append-nil (texts turn.actions))) carrying.cut;
          octets = [];
          consumed = read_nothing old new readers;
          heard = ap (λ (x : Heard). x.octets) (turn.heard ∙ behind_as turn.given before.heard) ∙ sym (append-nil before.heard.octets);
          at_end = still_at_end old new before.heard.ended after.heard.ended readers (ap (λ (x : Heard). x.ended) (turn.heard ∙ behind_as turn.given before.heard));
        }

    -- a move that is one act, and reads and writes nothing
    plain : (items : List Item) (before after : Situation K) (old new : Parts S C D R W H) → Doing items (scene_of before old) [] (scene_of after new)
        → new.reader ≡ old.reader → new.writer ≡ old.writer → after.heard.octets ≡ before.heard.octets → after.heard.ended ≡ before.heard.ended → CutBy before.lost after.lost [] [] → Moved items before old after new
    plain items before after old new does readers writers octets ended cut = record {
      says = [] ∷ [];
      acts = (scene_of after new, does, refl);
      written = [];
      appended = writes_none old new writers;
      cut = cut;
      octets = [];
      consumed = read_nothing old new readers;
      heard = octets ∙ sym (append-nil before.heard.octets);
      at_end = still_at_end old new before.heard.ended after.heard.ended readers ended;
    }

    uncut : (before after : Situation K) → after.lost ≡ before.lost → CutBy before.lost after.lost [] []
    uncut before after same = subst (λ (l : Option TurnFault). CutBy before.lost l [] []) (sym same) (cut_none before.lost)

    asks_reported : (items : List Item) (before after : Situation K) (old new : Parts S C D R W H) (event : Option (SideEvent K)) → before.came ≡ None → after ≡ record before { came = event; heard = asked_as true before.heard }
        → (Asks' old.side (Looks event) new.side) ⊎ ((is_closed before.session.view.stage ≡ true) × Asks' old.side (Settles event) new.side) → new ≡ record old { side = new.side } → Moved items before old after new
    asks_reported items before after old new event none same asks rest =
        plain items before after old new
        (Hears event none
        (ap (λ (x : Situation K). scene_of x new) same ∙ ap (λ (x : Parts S C D R W H). scene_of (record before { came = event; heard = asked_as true before.heard }) x) rest) asks refl)
        (ap (λ (x : Parts S C D R W H). x.reader) rest) (ap (λ (x : Parts S C D R W H). x.writer) rest)
        (ap (λ (x : Situation K). x.heard.octets) same) (ap (λ (x : Situation K). x.heard.ended) same) (uncut before after (ap (λ (x : Situation K). x.lost) same))

    -- something is read, and nothing else is done
    reads_reported : (items : List Item) (before after : Situation K) (old new : Parts S C D R W H) (heard : Heard) (octets : List ℕ) → IsIdle before → before.closed ≡ false → heard.asked ≡ false → after ≡ record before { heard = heard }
        → new ≡ record old { reader = new.reader } → Consumes (remaining old.reader) (remaining new.reader) octets → heard.octets ≡ before.heard.octets ++ octets
        → (heard.ended ≡ true → IsAtEnd (remaining new.reader)) → Moved items before old after new
    reads_reported items before after old new heard octets idle live unasked same rest consumed more ends = record {
      says = [] ∷ [];
      acts = (
        scene_of after new,
        Listens idle live
            (ap (λ (x : Situation K). scene_of x new) same ∙ (ap (λ (x : Parts S C D R W H). scene_of (record before { heard = heard }) x) rest
            ∙ ap (λ (b : Bool). record (scene_of before old) { asked = b }) unasked)) refl,
        refl,
      );
      written = [];
      appended = writes_none old new (ap (λ (x : Parts S C D R W H). x.writer) rest);
      cut = subst (λ (l : Option TurnFault). CutBy before.lost l [] []) (sym (ap (λ (x : Situation K). x.lost) same)) (cut_none before.lost);
      octets = octets;
      consumed = consumed;
      heard = ap (λ (x : Situation K). x.heard.octets) same ∙ more;
      at_end = λ was ended. ends (sym (ap (λ (x : Situation K). x.heard.ended) same) ∙ ended);
    }

    never : {X : Type 0} (b : Bool) → b ≡ false → b ≡ true → X
    never b not is = absurd (false≢true (sym not ∙ is))

    move_reported : (items later : List Item) (before after : Situation K) (calls : List (HostCall A S Q K)) (old new : Parts S C D R W H)
        → items ≡ before.heard.items ++ later → Move Row before calls after → Chain Does old calls new → Moved items before old after new
    move_reported items later before after calls old new is (Takes turn) chain = turn_reported items later before after calls old new is turn chain
    move_reported items later before after calls old new is (Tries given moment lent store store' promises came taken next stopped same trace) chain =
        let did = one old new calls (Tried before.session moment lent store store' promises) trace chain in
        let stores : new.store ≡ store' = ap (λ (x : Parts S C D R W H). x.store) did.rest in
        let rest : new ≡ record old { clock = new.clock; store = new.store } =
        did.rest ∙ (ap (λ (s : S). record old { clock = new.clock; store = s; promises = promises }) (sym stores) ∙ ap (λ (p : Promises). record old { clock = new.clock; store = new.store; promises = p }) did.promises_lent) in
        plain items before after old new
        (Lacks given moment came taken (follows_next items later before old given came taken is next) did.gives
        (subst (λ (s : S). Row users before.session given moment old.store s old.promises Stopped) (sym stores)
        (subst (λ (s : S). Row users before.session given moment s store' old.promises Stopped) did.store_lent
        (subst (λ (p : Promises). Row users before.session given moment store store' p Stopped) did.promises_lent
        (subst (λ (u : Users). Row u before.session given moment store store' promises Stopped) did.users_lent stopped))))
        (ap (λ (x : Situation K). scene_of x new) same ∙ ap (λ (x : Parts S C D R W H). scene_of (record before { lost = Some Memory }) x) rest) refl)
        (ap (λ (x : Parts S C D R W H). x.reader) rest) (ap (λ (x : Parts S C D R W H). x.writer) rest)
        (ap (λ (x : Situation K). x.heard.octets) same) (ap (λ (x : Situation K). x.heard.ended) same)
        (subst (λ (l : Option TurnFault). CutBy before.lost l [] []) (sym (ap (λ (x : Situation K). x.lost) same)) (stopped_cut before.lost))
    move_reported items later before after calls old new is (Declines given came taken next line same trace) chain = absurd (one old new calls Declined trace chain)
    move_reported items later before after calls old new is (Asks event none same (inl (live, trace))) chain =
        let (did, rest) = one old new calls (Asked (Looks event)) trace chain in
        asks_reported items before after old new event none same (inl did) rest
    move_reported items later before after calls old new is (Asks event none same (inr (gone, trace))) chain =
        let (did, rest) = one old new calls (Asked (Settles event)) trace chain in
        asks_reported items before after old new event none same (inr (gone, did)) rest
    move_reported items later before after calls old new is (Reads octets found idle live unended same trace) chain =
        let (did, some) = one old new calls (Read octets) trace chain in
        reads_reported items before after old new _ octets idle live refl same did.rest did.taken refl (λ ended. never before.heard.ended unended ended)
    move_reported items later before after calls old new is (Ends idle live unended same trace) chain =
        let (did, ends) = one old new calls ReadEnd trace chain in
        reads_reported items before after old new _ [] idle live refl same did.rest did.taken (sym (append-nil before.heard.octets)) (λ ended. ends)
    move_reported items later before after calls old new is (Fails idle live unended same trace) chain =
        let (did, fails) = one old new calls ReadFailed trace chain in
        reads_reported items before after old new _ [] idle live refl same did.rest did.taken (sym (append-nil before.heard.octets)) (λ ended. never before.heard.ended unended ended)
    move_reported items later before after calls old new is (Pays user owed owes same trace) chain =
        let rest = one old new calls (Released user) trace chain in
        plain items before after old new
        (Frees user owed owes
        (ap (λ (x : Situation K). scene_of x new) same ∙ ap (λ (x : Parts S C D R W H). scene_of (record before { owed = owed }) x) rest) refl)
        (ap (λ (x : Parts S C D R W H). x.reader) rest) (ap (λ (x : Parts S C D R W H). x.writer) rest)
        (ap (λ (x : Situation K). x.heard.octets) same) (ap (λ (x : Situation K). x.heard.ended) same) (uncut before after (ap (λ (x : Situation K). x.lost) same))

    acts_more : (items : List Item) (first second : List (List ℕ)) (a b c : Scene S C D H K)
        → Acts (Row users) Gives Asks' Reported first items a b → Acts (Row users) Gives Asks' Reported second items b c → Acts (Row users) Gives Asks' Reported (first ++ second) items a c
    acts_more items [] second a b c same rest = subst (λ (x : Scene S C D H K). Acts (Row users) Gives Asks' Reported second items x c) same rest
    acts_more items (says ∷ first) second a b c (mid, does, more) rest = (mid, does, acts_more items first second mid b c more rest)

    moved_more : (items : List Item) (x y z : Situation K) (a b c : Parts S C D R W H) → Moved items x a y b → Moved items y b z c → Moved items x a z c
    moved_more items x y z a b c first second = record {
      says = first.says ++ second.says;
      acts = acts_more items first.says second.says (scene_of x a) (scene_of y b) (scene_of z c) first.acts second.acts;
      written = first.written ++ second.written;
      appended = appends_more (contents a.writer) (contents b.writer) (contents c.writer) first.written second.written first.appended second.appended;
      cut = subst (λ (t : List ℕ). CutBy x.lost z.lost (first.written ++ second.written) t) (sym (concat_more first.says second.says))
          (cut_by_more x.lost y.lost z.lost first.written (concat first.says) second.written (concat second.says) first.cut second.cut);
      octets = first.octets ++ second.octets;
      consumed = consumes_more (remaining a.reader) (remaining b.reader) (remaining c.reader) first.octets second.octets first.consumed second.consumed;
      heard = second.heard ∙ (ap (λ (t : List ℕ). t ++ second.octets) first.heard ∙ append_assoc x.heard.octets first.octets second.octets);
      at_end = λ was. second.at_end (first.at_end was);
    }

    moved_none : (items : List Item) (before after : Situation K) (old new : Parts S C D R W H) → after ≡ before → new ≡ old → Moved items before old after new
    moved_none items before after old new same still = record {
      says = [];
      acts = ap (λ (x : Situation K). scene_of x new) same ∙ ap (λ (x : Parts S C D R W H). scene_of before x) still;
      written = [];
      appended = writes_none old new (ap (λ (x : Parts S C D R W H). x.writer) still);
      cut = subst (λ (l : Option TurnFault). CutBy before.lost l [] []) (sym (ap (λ (x : Situation K). x.lost) same)) (cut_none before.lost);
      octets = [];
      consumed = read_nothing old new (ap (λ (x : Parts S C D R W H). x.reader) still);
      heard = ap (λ (x : Situation K). x.heard.octets) same ∙ sym (append-nil before.heard.octets);
      at_end = still_at_end old new before.heard.ended after.heard.ended (ap (λ (x : Parts S C D R W H). x.reader) still) (ap (λ (x : Situation K). x.heard.ended) same);
    }

    -- lines are found, and none is lost
    abbrev Grown : Heard → Heard → Type 0
    Grown before after = (more : List Item) × (after.items ≡ before.items ++ more)

    grown_as : (before after : Situation K) → after.heard.items ≡ before.heard.items → Grown before.heard after.heard
    grown_as before after same = ([], same ∙ sym (append-nil before.heard.items))

    move_grows : (before after : Situation K) (calls : List (HostCall A S Q K)) → Move Row before calls after → Grown before.heard after.heard
    move_grows before after calls (Takes turn) = grown_as before after (ap (λ (x : Heard). x.items) (turn.heard ∙ behind_as turn.given before.heard))
    move_grows before after calls (Tries given moment lent store store' promises came taken next stopped same trace) = grown_as before after (ap (λ (x : Situation K). x.heard.items) same)
    move_grows before after calls (Declines given came taken next line same trace) = grown_as before after (ap (λ (x : Situation K). x.heard.items) same)
    move_grows before after calls (Asks event none same trace) = grown_as before after (ap (λ (x : Situation K). x.heard.items) same)
    move_grows before after calls (Reads octets found idle live unended same trace) = (found, ap (λ (x : Situation K). x.heard.items) same)
    move_grows before after calls (Ends idle live unended same trace) = grown_as before after (ap (λ (x : Situation K). x.heard.items) same)
    move_grows before after calls (Fails idle live unended same trace) = grown_as before after (ap (λ (x : Situation K). x.heard.items) same)
    move_grows before after calls (Pays user owed owes same trace) = grown_as before after (ap (λ (x : Situation K). x.heard.items) same)

    runs_grow : (moves : List (List (HostCall A S Q K))) (before after : Situation K) → Runs Row moves before after → Grown before.heard after.heard
    runs_grow [] before after same = grown_as before after (ap (λ (x : Situation K). x.heard.items) same)
    runs_grow (calls ∷ moves) before after (mid, move, more) =
        let first = move_grows before mid calls move in
        let rest = runs_grow moves mid after more in
        (first.0 ++ rest.0, rest.1 ∙ (ap (λ (x : List Item). x ++ rest.0) first.1 ∙ append_assoc before.heard.items first.0 rest.0))

    runs_reported : (items later : List Item) (moves : List (List (HostCall A S Q K))) (before after : Situation K) (old new : Parts S C D R W H)
        → items ≡ after.heard.items ++ later → Runs Row moves before after → Chain Does old (concat moves) new → Moved items before old after new
    runs_reported items later [] before after old new is same chain = moved_none items before after old new same chain
    runs_reported items later (calls ∷ moves) before after old new is (mid, move, more) chain =
        let (host, front, back) = chain_split Does old new calls (concat moves) chain in
        let grown = runs_grow (calls ∷ moves) before after (mid, move, more) in
        moved_more items before mid after old host new
        (move_reported items (grown.0 ++ later) before mid calls old host (is ∙ (ap (λ (x : List Item). x ++ later) grown.1 ∙ append_assoc before.heard.items grown.0 later)) move front)
        (runs_reported items later moves mid after host new is more back)

    went_reported : (items later : List Item) (before after : Situation K) (old new : Parts S C D R W H) → items ≡ after.heard.items ++ later → Went Row Does old before new after → Moved items before old after new
    went_reported items later before after old new is went = runs_reported items later went.moves before after old new is went.runs went.asked

    -- ---- the whole

    whole_reported : {T : Type 0} (result : Result T ControlFault) (lost : Option TurnFault) (written said : List ℕ) → OnOk result (lost ≡ None) → CutBy None lost written said → OnOk result (written ≡ said)
    whole_reported (Ok value) lost written said none cut = subst (λ (l : Option TurnFault). CutBy None l written said) none cut
    whole_reported (Err fault) lost written said none cut = tt

    part_reported : (lost : Option TurnFault) (written said : List ℕ) → CutBy None lost written said → (rest : List ℕ) × (said ≡ written ++ rest)
    part_reported None written said same = ([], sym same ∙ sym (append-nil written))
    part_reported (Some fault) written said cut = cut

    on_ok : {T : Type 0} (result : Result T ControlFault) (P P' : Type 0) → (P → P') → OnOk result P → OnOk result P'
    on_ok (Ok value) P P' to holds = to holds
    on_ok (Err fault) P P' to holds = tt

    on_err : {T : Type 0} (result : Result T ControlFault) (P P' : Type 0) → (P → P') → OnErr result P → OnErr result P'
    on_err (Ok value) P P' to holds = tt
    on_err (Err fault) P P' to holds = to holds

    over_reported : (last : Situation K) (reader : R) → (last.heard.ended ≡ true → IsAtEnd (remaining reader)) → (last.closed ≡ true) ⊎ ((last.heard.ended ≡ true) × (last.heard.items ≡ last.taken))
        → (last.closed ≡ true) ⊎ (IsAtEnd (remaining reader) × (last.heard.items ≡ last.taken))
    over_reported last reader ends (inl closed) = inl closed
    over_reported last reader ends (inr (ended, all)) = inr (ends ended, all)

    settled_reported : (items : List Item) (now : Situation K) (old new : Parts S C D R W H) (event : Option (SideEvent K)) → now.came ≡ None → is_closed now.session.view.stage ≡ true → Does old (Asked (Settles event)) new
        → Moved items now old (record now { came = event; heard = asked_as true now.heard }) new
    settled_reported items now old new event none gone (did, rest) = asks_reported items now (record now { came = event; heard = asked_as true now.heard }) old new event none refl (inr (gone, did)) rest

    pub session_reported : {T : Type 0} (turns : ℕ) (result : Result T ControlFault) (session : Standing) (old new : Parts S C D R W H)
        → IsSession Row Does turns result session old new → IsEndToEnd (Row users) Gives Asks' Reported remaining contents result session old new
    session_reported turns result session old new is =
        let closing = is.closing in
        let begun = at {K = K} session None [] nothing [] false is.lost in
        let left = at {K = K} closing.session None is.stood.taken is.stood.heard closing.owes is.stood.closed is.stood.lost in
        let settled = record left { came = closing.event; heard = asked_as true left.heard } in
        let items = is.last.heard.items in
        let (later, grown) = runs_grow closing.rest.moves settled is.last closing.rest.runs in
        let (serves, greets) = carries_reported is.actions None is.lost is.said old is.mid is.greets is.greeted in
        let moved =
        moved_more items begun is.stood is.last is.mid is.turned new (went_reported items later begun is.stood is.mid is.turned grown (open_went Row Does is.mid is.turned begun is.stood is.went))
        (moved_more items is.stood left is.last is.turned closing.mid new (went_reported items later is.stood left is.turned closing.mid grown closing.first)
        (moved_more items left settled is.last closing.mid closing.mid' new (settled_reported items left closing.mid closing.mid' closing.event refl closing.closed_then closing.settled)
        (went_reported items [] settled is.last closing.mid' new (sym (append-nil items)) closing.rest))) in
        let cut = cut_by_more None is.lost is.last.lost greets.written (texts is.actions) moved.written (concat moved.says) greets.cut moved.cut in
        let begins = scene_of begun is.mid in
        record {
          read = moved.octets;
          items = items;
          written = greets.written ++ moved.written;
          actions = is.actions;
          side = is.mid.side;
          hooks = is.mid.hooks;
          lost = is_lost is.lost;
          last = scene_of is.last new;
          said = moved.says;
          row = is.row;
          serves = serves;
          acts = subst (λ (c : C). Acts (Row users) Gives Asks' Reported moved.says items (record begins { store = old.store; promises = old.promises; clock = c }) (scene_of is.last new)) greets.beside.clock
              (subst (λ (p : Promises). Acts (Row users) Gives Asks' Reported moved.says items (record begins { store = old.store; promises = p }) (scene_of is.last new)) greets.beside.promises
              (subst (λ (s : S). Acts (Row users) Gives Asks' Reported moved.says items (record begins { store = s }) (scene_of is.last new)) greets.beside.store moved.acts));
          closed = is.closed_then;
          answered = is.answered;
          paid = is.paid;
          kept = on_ok result _ _ (λ (none : is.last.lost ≡ None). ap is_lost none) is.whole;
          store_is = refl;
          promises_are = refl;
          side_is = refl;
          hooks_are = refl;
          consumed = subst (λ (r : R). Consumes (remaining r) (remaining new.reader) moved.octets) greets.beside.reader moved.consumed;
          heard = subst (λ (x : List ℕ). OnOk result (OnlyReadsAs x items)) moved.heard is.heard;
          cut = subst (λ (x : List ℕ). OnErr result ((fed unfed : List ℕ) × (x ≡ fed ++ unfed) × OnlyReadsAs fed items)) moved.heard is.cut;
          over = on_ok result _ _ (over_reported is.last new.reader (moved.at_end (λ ended. absurd (false≢true ended)))) is.all;
          appended = appends_more (contents old.writer) (contents is.mid.writer) (contents new.writer) greets.written moved.written greets.appended moved.appended;
          whole = whole_reported result is.last.lost (greets.written ++ moved.written) (texts is.actions ++ concat moved.says) is.whole cut;
          part = part_reported is.last.lost (greets.written ++ moved.written) (texts is.actions ++ concat moved.says) cut;
        }

    pub served_reported : {T : Type 0} (turns : ℕ) (result : Result T ControlFault) (session : Standing) (old new : Parts S C D R W H)
        → IsServed Row Does turns result session old new → IsReported (Row users) Gives Asks' Reported remaining contents result session old new
    served_reported turns result session old new (inl unserved) = inl unserved
    served_reported turns result session old new (inr is) = inr (session_reported turns result session old new is)
