-- A session that has the floors for itself leaves them as they were, however it ends.
use Rattle.std.proofs.Common.{ℕ, ◌≡◌, inl, inr, List, [], ◌∷◌, ◌++◌, Option, Some, None, Result, refl, sym, ap, subst, append_assoc, ◌∙◌}
use Rattle.authorizer.specs.Users.{Users}
use Rattle.control_session.specs.Sides.{Given}
use Rattle.control_session.specs.Sides.SideCall.{Settles}
use Rattle.rate_floors.specs.Promises.{Promises, after_release, counted}
use Rattle.session_table.specs.Laws.{logged_in, releases}
use Rattle.session_table.specs.Steps.{Standing}
use Rattle.session_table.specs.declared.actions.Action.{Action}
use Rattle.session_table.specs.declared.actions.Action.TheVariants.{Say, Hook, OpenPassive, ConnectTo, DropData, Start, Abort, CloseControl, ReleaseFloor}
use Rattle.control_session.specs.Calls.{Chain, HostCall}
use Rattle.control_session.specs.Calls.HostCall.{Asked, Lent, Released}
use Rattle.control_session.specs.Rows.{Outcome}
use Rattle.control_session.specs.Rows.Outcome.{Made}
use Rattle.control_session.specs.Turns.{Carried, Carries, IsTurn, Move, Runs, Situation, Went, concat, release_calls}
use Rattle.control_session.specs.Turns.Move.{Takes, Tries, Declines, Asks, Reads, Ends, Fails, Pays}
use Rattle.control_session.specs.declared.turn_fault.TurnFault.{TurnFault}
use Rattle.control_session.specs.declared.turn_fault.TurnFault.TheVariants.{Write, Memory}
use Rattle.control_session.specs.Floors.{FloorsBy, HasFloors}
use Rattle.control_session.specs.Sessions.{IsSession}
use Rattle.control_session.specs.declared.fault.ControlFault.{ControlFault}
use Rattle.control_session.proofs.Counting.{Balanced, counted_swap, counts, gone_counts, released_back}
use Rattle.control_session.proofs.Going.{open_went}

pub chain_split : {H A S R K : Type 0} (Does : H → HostCall A S R K → H → Type 0) (a c : H) (xs ys : List (HostCall A S R K)) → Chain Does a (xs ++ ys) c
    → (b : H) × Chain Does a xs b × Chain Does b ys c
chain_split Does a c [] ys chain = (a, refl, chain)
chain_split Does a c (x ∷ xs) ys (mid, did, more) =
    let rest = chain_split Does mid c xs ys more in (rest.0, (mid, did, rest.1), rest.2)

counts_more : (xs ys : List ℕ) (p : Promises) → counts (xs ++ ys) p ≡ counts xs (counts ys p)
counts_more [] ys p = refl
counts_more (x ∷ xs) ys p = ap (λ (q : Promises). counted q x) (counts_more xs ys p)

counts_past : (x : ℕ) (ys : List ℕ) (p : Promises) → counts ys (counted p x) ≡ counted (counts ys p) x
counts_past x [] p = refl
counts_past x (y ∷ ys) p = ap (λ (q : Promises). counted q y) (counts_past x ys p) ∙ counted_swap y x (counts ys p)

counts_both : (xs ys : List ℕ) (p : Promises) → counts xs (counts ys p) ≡ counts ys (counts xs p)
counts_both [] ys p = refl
counts_both (x ∷ xs) ys p = ap (λ (q : Promises). counted q x) (counts_both xs ys p) ∙ sym (counts_past x ys (counts xs p))

counts_swap : (xs ys zs : List ℕ) (p : Promises) → counts (xs ++ (ys ++ zs)) p ≡ counts (ys ++ (xs ++ zs)) p
counts_swap xs ys zs p = counts_more xs (ys ++ zs) p ∙ (ap (counts xs) (counts_more ys zs p) ∙ (counts_both xs ys (counts zs p)
    ∙ (sym (ap (counts ys) (counts_more xs zs p)) ∙ sym (counts_more ys (xs ++ zs) p))))

turn_counts : (base p p' : Promises) (before after owed owed' asked paid more : List ℕ) → p ≡ counts (before ++ owed) base → p' ≡ counts more p
    → more ++ before ≡ asked ++ after → asked ++ owed ≡ paid ++ owed' → p' ≡ counts (paid ++ (after ++ owed')) base
turn_counts base p p' before after owed owed' asked paid more is is' law owes =
    is' ∙ (ap (counts more) is ∙ (sym (counts_more more (before ++ owed) base)
    ∙ (ap (λ (l : List ℕ). counts l base) (sym (append_assoc more before owed) ∙ (ap (λ (l : List ℕ). l ++ owed) law ∙ append_assoc asked after owed))
    ∙ (counts_swap asked after owed base ∙ (ap (λ (l : List ℕ). counts (after ++ l) base) owes ∙ counts_swap after paid owed' base)))))

module _ {H A S R K : Type 0} (Does : H → HostCall A S R K → H → Type 0) (floors : H → Promises) (own : HasFloors Does floors) where
  one : (old new : H) (calls : List (HostCall A S R K)) (call : HostCall A S R K) → calls ≡ call ∷ [] → Chain Does old calls new → FloorsBy floors old call new
  one old new calls call is chain =
      let (mid, did, same) = subst (λ (x : List (HostCall A S R K)). Chain Does old x new) is chain in
      subst (λ (x : H). FloorsBy floors old call x) (sym same) (own old mid call did)

  none : (old new : H) (calls : List (HostCall A S R K)) → calls ≡ [] → Chain Does old calls new → floors new ≡ floors old
  none old new calls is chain = ap floors (subst (λ (x : List (HostCall A S R K)). Chain Does old x new) is chain)

  carried_keeps : (action : Action A R K) (before after : Option TurnFault) (old new : H) (calls : List (HostCall A S R K)) → Carried action before calls after → Chain Does old calls new → floors new ≡ floors old
  carried_keeps (Say reply) (Some fault) after old new calls (is, same) chain = none old new calls is chain
  carried_keeps (Say reply) None None old new calls is chain = one old new calls _ is chain
  carried_keeps (Say reply) None (Some Write) old new calls is chain = one old new calls _ is chain
  carried_keeps (Say reply) None (Some Memory) old new calls is chain = none old new calls is chain
  carried_keeps (Hook hook) before after old new calls (is, same) chain = one old new calls _ is chain
  carried_keeps OpenPassive before after old new calls (is, same) chain = one old new calls _ is chain
  carried_keeps (ConnectTo to) before after old new calls (is, same) chain = one old new calls _ is chain
  carried_keeps DropData before after old new calls (is, same) chain = one old new calls _ is chain
  carried_keeps (Start job) before after old new calls (is, same) chain = one old new calls _ is chain
  carried_keeps Abort before after old new calls (is, same) chain = one old new calls _ is chain
  carried_keeps CloseControl before after old new calls (is, same) chain = none old new calls is chain
  carried_keeps (ReleaseFloor user) before after old new calls (is, same) chain = none old new calls is chain

  carries_keeps : (actions : List (Action A R K)) (before after : Option TurnFault) (old new : H) (calls : List (HostCall A S R K)) → Carries actions before calls after → Chain Does old calls new → floors new ≡ floors old
  carries_keeps [] before after old new calls (is, same) chain = none old new calls is chain
  carries_keeps (action ∷ actions) before after old new calls (first, rest, mid, is, carried, carries) chain =
      let (next, front, back) = chain_split Does old new first rest (subst (λ (x : List (HostCall A S R K)). Chain Does old x new) is chain) in
      carries_keeps actions mid after next new rest carries back ∙ carried_keeps action before mid old next first carried front

  paid_keeps : (base : Promises) (paid rest : List ℕ) (old new : H) → floors old ≡ counts (paid ++ rest) base → Chain Does old (release_calls paid) new → floors new ≡ counts rest base
  paid_keeps base [] rest old new is same = ap floors same ∙ is
  paid_keeps base (user ∷ paid) rest old new is (mid, did, more) = paid_keeps base paid rest mid new
      (own old mid (Released user) did ∙ (ap (λ (p : Promises). after_release p user) is ∙ released_back user (counts (paid ++ rest) base))) more

  module _ (Row : Users → Standing → Given K → ℕ → S → S → Promises → Outcome A R K → Type 0)
      (balance : (users : Users) (before after : Standing) (given : Given K) (moment : ℕ) (store store' : S) (p p' : Promises) (actions : List (Action A R K))
      → Row users before given moment store store' p (Made p' after actions) → Balanced (logged_in before.view) p p' (releases actions) (logged_in after.view)) where
    -- the floors are those of the start, and those of the users who are logged in or owed
    abbrev pub Has : Promises → H → Situation K → Type 0
    Has base host now = floors host ≡ counts (logged_in now.session.view ++ now.owed) base

    turn_has : (base : Promises) (old new : H) (before after : Situation K) (calls : List (HostCall A S R K)) → IsTurn Row before calls after → Chain Does old calls new → Has base old before → Has base new after
    turn_has base old new before after calls turn chain has =
        let (mid, did, rest) = subst (λ (x : List (HostCall A S R K)). Chain Does old x new) turn.trace chain in
        let (lent, gave) = own old mid (Lent before.session turn.moment turn.users turn.store turn.store' turn.promises turn.promises') did in
        let (more, is, law) = balance turn.users before.session after.session turn.given turn.moment turn.store turn.store' turn.promises turn.promises' turn.actions turn.row in
        let (next, front, back) = chain_split Does mid new (release_calls turn.paid) turn.carried rest in
        carries_keeps turn.actions before.lost after.lost next new turn.carried turn.carries back
        ∙ paid_keeps base turn.paid (logged_in after.session.view ++ after.owed) mid next
        (gave ∙ turn_counts base turn.promises turn.promises' (logged_in before.session.view) (logged_in after.session.view) before.owed after.owed (releases turn.actions) turn.paid more (lent ∙ has) is law turn.owes)
        front

    same_has : (base : Promises) (old new : H) (before after : Situation K) → after.session ≡ before.session → after.owed ≡ before.owed → floors new ≡ floors old → Has base old before → Has base new after
    same_has base old new before after session_is owed_is same has =
        same ∙ (has ∙ sym (ap (λ (v : Standing). counts (logged_in v.view ++ after.owed) base) session_is ∙ ap (λ (x : List ℕ). counts (logged_in before.session.view ++ x) base) owed_is))

    move_has : (base : Promises) (old new : H) (before after : Situation K) (calls : List (HostCall A S R K)) → Move Row before calls after → Chain Does old calls new → Has base old before → Has base new after
    move_has base old new before after calls (Takes turn) chain has = turn_has base old new before after calls turn chain has
    move_has base old new before after calls (Tries given moment users store store' promises came taken next stopped same is) chain has =
        same_has base old new before after (ap (λ (x : Situation K). x.session) same) (ap (λ (x : Situation K). x.owed) same) (one old new calls _ is chain) has
    move_has base old new before after calls (Declines given came taken next line same is) chain has =
        same_has base old new before after (ap (λ (x : Situation K). x.session) same) (ap (λ (x : Situation K). x.owed) same) (one old new calls _ is chain) has
    move_has base old new before after calls (Asks event empty same (inl (live, is))) chain has =
        same_has base old new before after (ap (λ (x : Situation K). x.session) same) (ap (λ (x : Situation K). x.owed) same) (one old new calls _ is chain) has
    move_has base old new before after calls (Asks event empty same (inr (gone, is))) chain has =
        same_has base old new before after (ap (λ (x : Situation K). x.session) same) (ap (λ (x : Situation K). x.owed) same) (one old new calls _ is chain) has
    move_has base old new before after calls (Reads octets items idle live unended same is) chain has =
        same_has base old new before after (ap (λ (x : Situation K). x.session) same) (ap (λ (x : Situation K). x.owed) same) (one old new calls _ is chain) has
    move_has base old new before after calls (Ends idle live unended same is) chain has =
        same_has base old new before after (ap (λ (x : Situation K). x.session) same) (ap (λ (x : Situation K). x.owed) same) (one old new calls _ is chain) has
    move_has base old new before after calls (Fails idle live unended same is) chain has =
        same_has base old new before after (ap (λ (x : Situation K). x.session) same) (ap (λ (x : Situation K). x.owed) same) (one old new calls _ is chain) has
    move_has base old new before after calls (Pays user owed owes same is) chain has =
        one old new calls (Released user) is chain
        ∙ (ap (λ (p : Promises). after_release p user) (has ∙ (ap (λ (x : List ℕ). counts (logged_in before.session.view ++ x) base) owes ∙ counts_swap (logged_in before.session.view) (user ∷ []) owed base))
        ∙ (released_back user (counts (logged_in before.session.view ++ owed) base)
        ∙ sym (ap (λ (x : Situation K). counts (logged_in x.session.view ++ x.owed) base) same)))

    runs_have : (base : Promises) (moves : List (List (HostCall A S R K))) (old new : H) (before after : Situation K) → Runs Row moves before after → Chain Does old (concat moves) new → Has base old before → Has base new after
    runs_have base [] old new before after same chain has =
        ap floors chain ∙ (has ∙ sym (ap (λ (x : Situation K). counts (logged_in x.session.view ++ x.owed) base) same))
    runs_have base (calls ∷ moves) old new before after (next, move, more) chain has =
        let (mid, front, back) = chain_split Does old new calls (concat moves) chain in
        runs_have base moves mid new next after more back (move_has base old mid before next calls move front has)

    went_has : (base : Promises) (old new : H) (before after : Situation K) → Went Row Does old before new after → Has base old before → Has base new after
    went_has base old new before after went has = runs_have base went.moves old new before after went.runs went.asked has

    -- a session that has the floors for itself leaves them as they were
    pub floors_back : {T : Type 0} (turns : ℕ) (result : Result T ControlFault) (session : Standing) (host host' : H) → logged_in session.view ≡ []
        → IsSession Row Does turns result session host host' → floors host' ≡ floors host
    floors_back turns result session host host' fresh whole =
        let base = floors host in
        let closing = whole.closing in
        let start = carries_keeps whole.actions None whole.lost host whole.mid whole.said whole.greets whole.greeted in
        let begins = start ∙ sym (ap (λ (x : List ℕ). counts (x ++ []) base) fresh) in
        let turned = went_has base whole.mid whole.turned _ whole.stood (open_went Row Does whole.mid whole.turned _ whole.stood whole.went) begins in
        let first = went_has base whole.turned closing.mid whole.stood _ closing.first turned in
        let settled = own closing.mid closing.mid' (Asked (Settles closing.event)) closing.settled ∙ first in
        let ends = went_has base closing.mid' host' _ whole.last closing.rest settled in
        ends ∙ (ap (λ (x : List ℕ). counts (x ++ whole.last.owed) base) (gone_counts whole.last.session.view whole.closed_then)
        ∙ ap (λ (x : List ℕ). counts x base) whole.paid)
