-- A sitting, turn by turn.
use Rattle.std.proofs.Common.{◌≡◌, ◌≢◌, ℕ, ◌+◌, ◌++◌, true, false, List, [], ◌∷◌, length, map, sym, refl, ap, ◌∙◌, subst, arith, append_assoc, append-nil, All}
use Rattle.std.specs.Prelude.{Some, None}
use Rattle.std.proofs.lemmas.List.{map-append}
use Rattle.std.proofs.lemmas.List.Sums.{sum_by_push}
use Rattle.std.proofs.lemmas.List.Elements.{All-nil, All-push, All-append}
use Rattle.line_rates.specs.declared.ask.Ask.{Ask}
use Rattle.line_rates.specs.declared.ask.Way.{Way}
use Rattle.grant_ledger.specs.Books.{TallyView, capped}
use Rattle.data_pump.specs.declared.pumped.PumpEnd.{PumpEnd}
use Rattle.data_pump.specs.declared.pumped.PumpEnd.TheVariants as pump
use Rattle.data_pump.specs.declared.pumped.Pumped.{Pumped}
use Rattle.data_pump.specs.Uploads.{InView}
use Rattle.desk_rule.specs.declared.view.LaneView.{LaneView}
use Rattle.desk_rule.specs.Lanes.{sat_down}
use Rattle.transfer_worker.specs.declared.end.JobEnd.{JobEnd}
use Rattle.transfer_worker.specs.declared.end.JobEnd.TheVariants.{Stopped}
use Rattle.transfer_worker.specs.Ends.{Reports, end_of}
use Rattle.transfer_worker.specs.Passes.{PassCall}
use Rattle.transfer_worker.specs.Transfers.{Flow, Known, Pumps, ToppedUp, way_in, last_in}
use Rattle.transfer_worker.specs.Transfers.Flow.{Sending, Receiving}
use Rattle.transfer_worker.specs.Runs.{WorkerView, worker, counted, Turn, Halt, asks_at, looks_at, calls_at, calls_in, calls_of, moves_of, looks_of, Adds, Bears, IsTurn, AreTurns, EndsAt}
use Rattle.transfer_worker.specs.Works.{RunsTransfer}
use Rattle.transfer_worker.proofs.Adding.{adds_none, adds_then, adds_as, adds_still, counted_append}
use Rattle.transfer_worker.proofs.Steps.{Asked, Heard}

-- an end of a job is no pump's More
pub not_more : (p : PumpEnd) (end : JobEnd) → end_of p ≡ Some end → p ≢ pump.More
not_more p end is e = clash (sym (ap end_of e) ∙ is)
  where
    clash : None ≡ Some end → ⊥
    clash f = cc

-- no pump's end is Stopped
pub not_stopped : (p : PumpEnd) (end : JobEnd) → end_of p ≡ Some end → end ≢ Stopped
not_stopped pump.Ended end e = λ f. absurd (cc)
not_stopped pump.More end e = λ f. absurd (cc)
not_stopped pump.ReadFault end e = λ f. absurd (cc)
not_stopped pump.WriteFault end e = λ f. absurd (cc)
not_stopped pump.Memory end e = λ f. absurd (cc)

pub only_more : (p : PumpEnd) → end_of p ≡ None → p ≡ pump.More
only_more pump.Ended e = absurd (cc)
only_more pump.More e = refl
only_more pump.ReadFault e = absurd (cc)
only_more pump.WriteFault e = absurd (cc)
only_more pump.Memory e = absurd (cc)

calls_push : (session moved : ℕ) (turns : List Turn) (t : Turn) → calls_of session moved (turns ++ t ∷ []) ≡ calls_of session moved turns ++ calls_in session (counted moved (moves_of turns)) t
calls_push session moved [] t = append-nil (calls_in session moved t)
calls_push session moved (u ∷ turns) t =
    ap (λ (l : List PassCall). calls_in session moved u ++ l) (calls_push session (capped moved u.pumped.moved) turns t)
    ∙ sym (append_assoc (calls_in session moved u) (calls_of session (capped moved u.pumped.moved) turns) (calls_in session (counted (capped moved u.pumped.moved) (moves_of turns)) t))

module _ {R K C : Type 0} (k : Known R K C) where
  pumps_way : (octets : ℕ) (flow next : Flow R K C) (pumped : Pumped) → Pumps k octets flow next pumped → way_in next ≡ way_in flow
  pumps_way octets (Sending old) (Sending new) pumped p = refl
  pumps_way octets (Sending old) (Receiving new) pumped p = absurd p
  pumps_way octets (Receiving old) (Sending new) pumped p = absurd p
  pumps_way octets (Receiving old) (Receiving new) pumped p = refl

  pub pumps_last : (octets : ℕ) (flow next : Flow R K C) (pumped : Pumped) → Pumps k octets flow next pumped → last_in next ≡ pumped.end
  pumps_last octets (Sending old) (Sending new) pumped p = p.1
  pumps_last octets (Sending old) (Receiving new) pumped p = absurd p
  pumps_last octets (Receiving old) (Sending new) pumped p = absurd p
  pumps_last octets (Receiving old) (Receiving new) pumped p = p.1

  -- topping up changes neither the way nor the end of the last pump
  topped_way : (flow next : Flow R K C) → ToppedUp k flow next → way_in next ≡ way_in flow
  topped_way (Sending old) (Sending new) p = refl
  topped_way (Sending old) (Receiving new) p = absurd p
  topped_way (Receiving old) (Sending new) p = absurd p
  topped_way (Receiving old) (Receiving new) p = refl

  pub topped_last : (flow next : Flow R K C) → ToppedUp k flow next → last_in next ≡ last_in flow
  topped_last (Sending old) (Sending new) p = p.1
  topped_last (Sending old) (Receiving new) p = absurd p
  topped_last (Receiving old) (Sending new) p = absurd p
  topped_last (Receiving old) (Receiving new) p = ap (λ (u : InView C K). u.last) p

module _ {R K C : Type 0} (k : Known R K C) (may_want : ℕ → Type 0) where
  turn_way : (flow next : Flow R K C) (t : Turn) → IsTurn k may_want flow t next → way_in next ≡ way_in flow
  turn_way flow next t turn = go t.pumped.end refl ∙ pumps_way k t.octets flow turn.pumped t.pumped turn.pumps
    where
      over : t.pumped.end ≢ pump.More → way_in next ≡ way_in turn.pumped
      over not = ap way_in (turn.ends not)

      go : (end : PumpEnd) → t.pumped.end ≡ end → way_in next ≡ way_in turn.pumped
      go pump.More e = topped_way k turn.pumped next (turn.tops e)
      go pump.Ended e = over (λ f. absurd (clash (sym e ∙ f)))
        where
          clash : pump.Ended ≡ pump.More → ⊥
          clash f = cc
      go pump.ReadFault e = over (λ f. absurd (clash (sym e ∙ f)))
        where
          clash : pump.ReadFault ≡ pump.More → ⊥
          clash f = cc
      go pump.WriteFault e = over (λ f. absurd (clash (sym e ∙ f)))
        where
          clash : pump.WriteFault ≡ pump.More → ⊥
          clash f = cc
      go pump.Memory e = over (λ f. absurd (clash (sym e ∙ f)))
        where
          clash : pump.Memory ≡ pump.More → ⊥
          clash f = cc

  turns_push : (start flow next : Flow R K C) (turns : List Turn) (t : Turn) → AreTurns k may_want start turns flow → IsTurn k may_want flow t next → AreTurns k may_want start (turns ++ t ∷ []) next
  turns_push start flow next [] t are turn = (next, subst (λ (f : Flow R K C). IsTurn k may_want f t next) are turn, refl)
  turns_push start flow next (u ∷ turns) t are turn = (are.0, are.1, turns_push are.0 flow next turns t are.2 turn)

  -- a sitting so far: its turns lead from the transfer as it was opened to what it is now
  pub record Sits (user session : ℕ) (start : Flow R K C) (v : WorkerView) (now : Flow R K C) (moved : ℕ) (w : WorkerView) : Type 0 where
    pub turns : List Turn
    pub are_turns : AreTurns k may_want start turns now
    pub way_is : way_in now ≡ way_in start
    pub bear : All (Bears user session (way_in start)) (map (λ t. t.ask) turns)
    pub moved_is : moved ≡ counted 0 (moves_of turns)
    pub sittings_are : w.lane.sittings ≡ v.lane.sittings ++ length v.lane.asks ∷ []
    pub adds : Adds (map (λ t. t.ask) turns) (map (λ t. t.octets) turns) (looks_of turns) (moves_of turns) (calls_of session 0 turns) v w

  pub begins : (user session : ℕ) (start : Flow R K C) (x y : LaneView) (t : TallyView) (h : Heard) (q : Asked) (moved : ℕ) → y ≡ sat_down x → moved ≡ 0 → Sits user session start (worker x t h q) start moved (worker y t h q)
  begins user session start x y t h q moved e zero = record {
    turns = [];
    are_turns = refl;
    way_is = refl;
    bear = All-nil (Bears user session (way_in start));
    moved_is = zero;
    sittings_are = ap (λ (l : LaneView). l.sittings) e;
    adds = adds_still [] [] 0 [] [] (worker x t h q) (worker x t h q) (worker y t h q) (adds_none (worker x t h q)) (ap (λ (l : LaneView). l.asks) e) (ap (λ (l : LaneView). l.taken) e) (ap (λ (l : LaneView). l.looks) e) refl refl;
  }

  module _ (user session : ℕ) (start : Flow R K C) (v : WorkerView) where
    pub turn_more : (now next : Flow R K C) (moved : ℕ) (w z : WorkerView) (t : Turn) → Sits user session start v now moved w → IsTurn k may_want now t next → Bears user session (way_in now) t.ask
        → z.lane.sittings ≡ w.lane.sittings → Adds (t.ask ∷ []) (t.octets ∷ []) (length t.between) (t.pumped.moved ∷ []) (calls_in session moved t) w z
        → Sits user session start v next (capped moved t.pumped.moved) z
    turn_more now next moved w z t s turn bears sittings adds =
        let asks = map-append (λ (u : Turn). u.ask) s.turns (t ∷ []) in
        let taken = map-append (λ (u : Turn). u.octets) s.turns (t ∷ []) in
        let moves = map-append (λ (u : Turn). u.pumped.moved) s.turns (t ∷ []) in record {
          turns = s.turns ++ t ∷ [];
          are_turns = turns_push start now next s.turns t s.are_turns turn;
          way_is = turn_way now next t turn ∙ s.way_is;
          bear = subst (λ (l : List Ask). All (Bears user session (way_in start)) l) (sym asks)
              (All-push (Bears user session (way_in start)) (map (λ (u : Turn). u.ask) s.turns) t.ask s.bear (bears.0, bears.1, bears.2 ∙ s.way_is));
          moved_is = ap (λ (n : ℕ). capped n t.pumped.moved) s.moved_is ∙ sym (ap (λ (l : List ℕ). counted 0 l) moves ∙ counted_append 0 (moves_of s.turns) (t.pumped.moved ∷ []));
          sittings_are = sittings ∙ s.sittings_are;
          adds = adds_as (map (λ (u : Turn). u.ask) s.turns ++ t.ask ∷ []) (map (λ (u : Turn). u.ask) (s.turns ++ t ∷ []))
              (map (λ (u : Turn). u.octets) s.turns ++ t.octets ∷ []) (map (λ (u : Turn). u.octets) (s.turns ++ t ∷ []))
              (looks_of s.turns + length t.between) (looks_of (s.turns ++ t ∷ []))
              (moves_of s.turns ++ t.pumped.moved ∷ []) (moves_of (s.turns ++ t ∷ []))
              (calls_of session 0 s.turns ++ calls_in session moved t) (calls_of session 0 (s.turns ++ t ∷ []))
              v z (sym asks) (sym taken) (sym (sum_by_push (λ (u : Turn). length u.between) s.turns t)) (sym moves)
              (ap (λ (n : ℕ). calls_of session 0 s.turns ++ calls_in session n t) s.moved_is ∙ sym (calls_push session 0 s.turns t))
              (adds_then (map (λ (u : Turn). u.ask) s.turns) (t.ask ∷ []) (map (λ (u : Turn). u.octets) s.turns) (t.octets ∷ []) (looks_of s.turns) (length t.between)
              (moves_of s.turns) (t.pumped.moved ∷ []) (calls_of session 0 s.turns) (calls_in session moved t) v w z s.adds adds);
        }

    -- a sitting whose last pump told an end
    pub ended : (now : Flow R K C) (moved : ℕ) (w z : WorkerView) (end : JobEnd) → Sits user session start v now moved w → end_of (last_in now) ≡ Some end
        → z.lane.sittings ≡ w.lane.sittings → z.lane.asks ≡ w.lane.asks → z.lane.taken ≡ w.lane.taken → z.lane.looks ≡ w.lane.looks → z.tally.moved ≡ w.tally.moved → z.passed ≡ w.passed
        → Reports v.heard z.heard session end
        → RunsTransfer k may_want user session start false v z
    ended now moved w z end s is sittings asks taken looks tally passed reports = record {
      end = end;
      turns = s.turns;
      halt = None;
      final = now;
      stops = not_stopped (last_in now) end is;
      are_turns = s.are_turns;
      ends = is;
      bear = subst (λ (l : List Ask). All (Bears user session (way_in start)) l) (sym (append-nil (map (λ (u : Turn). u.ask) s.turns))) s.bear;
      sittings_are = sittings ∙ s.sittings_are;
      adds = adds_still (map (λ (u : Turn). u.ask) s.turns ++ []) (map (λ (u : Turn). u.octets) s.turns) (looks_of s.turns + 0) (moves_of s.turns) (calls_of session 0 s.turns ++ [])
          v w z
          (adds_as (map (λ (u : Turn). u.ask) s.turns) (map (λ (u : Turn). u.ask) s.turns ++ []) (map (λ (u : Turn). u.octets) s.turns) (map (λ (u : Turn). u.octets) s.turns) (looks_of s.turns) (looks_of s.turns + 0)
          (moves_of s.turns) (moves_of s.turns) (calls_of session 0 s.turns) (calls_of session 0 s.turns ++ [])
          v w (sym (append-nil (map (λ (u : Turn). u.ask) s.turns))) refl (omega arith) refl (sym (append-nil (calls_of session 0 s.turns))) s.adds)
          asks taken looks tally passed;
      reports = reports;
    }

    -- a sitting that was stopped between two pumps
    pub stopped : (now : Flow R K C) (moved : ℕ) (w z : WorkerView) (halt : Halt) → Sits user session start v now moved w → EndsAt may_want now (Some halt) Stopped
        → All (Bears user session (way_in now)) (asks_at (Some halt))
        → z.lane.sittings ≡ w.lane.sittings
        → Adds (asks_at (Some halt)) [] (looks_at (Some halt)) [] (calls_at session moved (Some halt)) w z
        → Reports v.heard z.heard session Stopped
        → RunsTransfer k may_want user session start true v z
    stopped now moved w z halt s ends bears sittings adds reports = record {
      end = Stopped;
      turns = s.turns;
      halt = Some halt;
      final = now;
      stops = refl;
      are_turns = s.are_turns;
      ends = ends;
      bear = All-append (Bears user session (way_in start)) (map (λ (u : Turn). u.ask) s.turns) (asks_at (Some halt)) s.bear (subst (λ (way : Way). All (Bears user session way) (asks_at (Some halt))) s.way_is bears);
      sittings_are = sittings ∙ s.sittings_are;
      adds = adds_as (map (λ (u : Turn). u.ask) s.turns ++ asks_at (Some halt)) (map (λ (u : Turn). u.ask) s.turns ++ asks_at (Some halt))
          (map (λ (u : Turn). u.octets) s.turns ++ []) (map (λ (u : Turn). u.octets) s.turns)
          (looks_of s.turns + looks_at (Some halt)) (looks_of s.turns + looks_at (Some halt))
          (moves_of s.turns ++ []) (moves_of s.turns)
          (calls_of session 0 s.turns ++ calls_at session moved (Some halt)) (calls_of session 0 s.turns ++ calls_at session (counted 0 (moves_of s.turns)) (Some halt))
          v z refl (append-nil (map (λ (u : Turn). u.octets) s.turns)) refl (append-nil (moves_of s.turns))
          (ap (λ (n : ℕ). calls_of session 0 s.turns ++ calls_at session n (Some halt)) s.moved_is)
          (adds_then (map (λ (u : Turn). u.ask) s.turns) (asks_at (Some halt)) (map (λ (u : Turn). u.octets) s.turns) [] (looks_of s.turns) (looks_at (Some halt))
          (moves_of s.turns) [] (calls_of session 0 s.turns) (calls_at session moved (Some halt)) v w z s.adds adds);
      reports = reports;
    }
