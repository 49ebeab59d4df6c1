-- What each step of a worker adds: a pass, a look, a grant that was pumped, an ask.
use Rattle.std.proofs.Common.{◌≡◌, ℕ, ◌+◌, ◌++◌, length, List, [], ◌∷◌, sym, refl, ap, ◌∙◌, arith, append_assoc, append-nil, length-append}
use Rattle.std.specs.Prelude.{Option, replicate}
use Rattle.std.proofs.lemmas.List.{replicate_more}
use Rattle.std.proofs.lemmas.Grind.{flat_map-append}
use Rattle.line_rates.specs.declared.ask.Ask.{Ask}
use Rattle.grant_ledger.specs.Books.{TallyView}
use Rattle.data_pump.specs.declared.pumped.Pumped.{Pumped}
use Rattle.desk_rule.specs.declared.view.LaneView.{LaneView}
use Rattle.desk_rule.specs.Lanes.{has_asked}
use Rattle.transfer_worker.specs.declared.end.JobEnd.{JobEnd}
use Rattle.transfer_worker.specs.declared.gate.Go.TheVariants.{On, Later, Stop}
use Rattle.transfer_worker.specs.Passes.{PassCall, pass_call, Passes, calls_until, leaves}
use Rattle.transfer_worker.specs.Runs.{WorkerView, worker, Adds}
use Rattle.transfer_worker.specs.Works.{WaitsInVain}
use Rattle.transfer_worker.proofs.Adding.{passes_then, passes_are}

abbrev pub Asked : Type 0
Asked = Option (List PassCall)

abbrev pub Heard : Type 0
Heard = Option (List (ℕ × JobEnd))

-- one answer Later more
pub later : (session moved laters : ℕ) (t u w : Asked) → Passes t u (replicate laters (pass_call session moved Later)) → Passes u w (pass_call session moved Later ∷ [])
    → Passes t w (replicate (laters + 1) (pass_call session moved Later))
later session moved laters t u w p q =
    passes_are t w (replicate laters (pass_call session moved Later) ++ pass_call session moved Later ∷ []) (replicate (laters + 1) (pass_call session moved Later)) (replicate_more laters (pass_call session moved Later))
    (passes_then t u w (replicate laters (pass_call session moved Later)) (pass_call session moved Later ∷ []) p q)

-- one leave more
pub leaves_more : (session moved laters : ℕ) (between : List ℕ) → leaves session moved between ++ calls_until session moved On laters ≡ leaves session moved (between ++ laters ∷ [])
leaves_more session moved laters between =
    ap (λ (l : List PassCall). leaves session moved between ++ l) (sym (append-nil (calls_until session moved On laters)))
    ∙ sym (flat_map-append (calls_until session moved On) between (laters ∷ []))

module _ (session moved : ℕ) (v : WorkerView) where
  -- a take that found nothing, and a leave
  pub looks_again : (between : List ℕ) (laters : ℕ) (u w : WorkerView) → Adds [] [] (length between) [] (leaves session moved between) v u
      → w.lane.asks ≡ u.lane.asks → w.lane.taken ≡ u.lane.taken → w.lane.looks ≡ u.lane.looks + 1 → w.tally.moved ≡ u.tally.moved
      → Passes u.passed w.passed (calls_until session moved On laters)
      → Adds [] [] (length (between ++ laters ∷ [])) [] (leaves session moved (between ++ laters ∷ [])) v w
  looks_again between laters u w p asks taken looks tally q = record {
    asks_are = asks ∙ p.asks_are;
    taken_are = taken ∙ p.taken_are;
    looks_are = omega (arith, looks, p.looks_are, length-append between (laters ∷ []));
    moved_is = tally ∙ p.moved_is;
    passes = passes_are v.passed w.passed (leaves session moved between ++ calls_until session moved On laters) (leaves session moved (between ++ laters ∷ [])) (leaves_more session moved laters between)
        (passes_then v.passed u.passed w.passed (leaves session moved between) (calls_until session moved On laters) p.passes q);
  }

  -- a take that found nothing, and Stop
  pub waits_in_vain : (between : List ℕ) (laters : ℕ) (u w : WorkerView) → Adds [] [] (length between) [] (leaves session moved between) v u
      → w.lane.asks ≡ u.lane.asks → w.lane.taken ≡ u.lane.taken → w.lane.looks ≡ u.lane.looks + 1 → w.tally.moved ≡ u.tally.moved
      → Passes u.passed w.passed (calls_until session moved Stop laters)
      → w.lane.state ≡ v.lane.state → w.lane.sittings ≡ v.lane.sittings
      → WaitsInVain session moved v w
  waits_in_vain between laters u w p asks taken looks tally q state sittings = record {
    between = between;
    laters = laters;
    state_is = state;
    sittings_are = sittings;
    adds = record {
      asks_are = asks ∙ p.asks_are;
      taken_are = taken ∙ p.taken_are;
      looks_are = omega (arith, looks, p.looks_are);
      moved_is = tally ∙ p.moved_is;
      passes = passes_then v.passed u.passed w.passed (leaves session moved between) (calls_until session moved Stop laters) p.passes q;
    };
  }

-- a turn: leave to ask, the ask, and the grant
pub adds_turn : (session moved before : ℕ) (a : Ask) (between : List ℕ) (octets : ℕ) (pumped : Pumped) (x y : LaneView) (t : TallyView) (h g : Heard) (q r : Asked) (w : WorkerView)
    → Passes q r (calls_until session moved On before) → y ≡ has_asked a x
    → Adds [] (octets ∷ []) (length between) (pumped.moved ∷ []) (leaves session moved between) (worker y t h r) w
    → Adds (a ∷ []) (octets ∷ []) (length between) (pumped.moved ∷ []) (calls_until session moved On before ++ leaves session moved between) (worker x t g q) w
adds_turn session moved before a between octets pumped x y t h g q r w p e adds = record {
  asks_are = adds.asks_are ∙ append-nil y.asks ∙ ap (λ (l : LaneView). l.asks) e;
  taken_are = adds.taken_are ∙ ap (λ (l : LaneView). l.taken ++ octets ∷ []) e;
  looks_are = adds.looks_are ∙ ap (λ (l : LaneView). l.looks + length between) e;
  moved_is = adds.moved_is;
  passes = passes_then q r w.passed (calls_until session moved On before) (leaves session moved between) p adds.passes;
}

-- a turn that was stopped after its ask
pub adds_open : (session moved before : ℕ) (a : Ask) (between : List ℕ) (laters : ℕ) (x y : LaneView) (t : TallyView) (h g : Heard) (q r : Asked) (w : WorkerView)
    → Passes q r (calls_until session moved On before) → y ≡ has_asked a x
    → Adds [] [] (length between + 1) [] (leaves session moved between ++ calls_until session moved Stop laters) (worker y t h r) w
    → Adds (a ∷ []) [] (length between + 1) [] (calls_until session moved On before ++ leaves session moved between ++ calls_until session moved Stop laters) (worker x t g q) w
adds_open session moved before a between laters x y t h g q r w p e adds = record {
  asks_are = adds.asks_are ∙ append-nil y.asks ∙ ap (λ (l : LaneView). l.asks) e;
  taken_are = adds.taken_are ∙ ap (λ (l : LaneView). l.taken ++ []) e;
  looks_are = adds.looks_are ∙ ap (λ (l : LaneView). l.looks + (length between + 1)) e;
  moved_is = adds.moved_is;
  passes = passes_are q w.passed (calls_until session moved On before ++ (leaves session moved between ++ calls_until session moved Stop laters)) (calls_until session moved On before ++ leaves session moved between ++ calls_until session moved Stop laters)
      (sym (append_assoc (calls_until session moved On before) (leaves session moved between) (calls_until session moved Stop laters)))
      (passes_then q r w.passed (calls_until session moved On before) (leaves session moved between ++ calls_until session moved Stop laters) p adds.passes);
}

-- a pass that said Stop
pub adds_stop : (session moved laters : ℕ) (x : LaneView) (t : TallyView) (h g : Heard) (q r : Asked) → Passes q r (calls_until session moved Stop laters)
    → Adds [] [] 0 [] (calls_until session moved Stop laters) (worker x t h q) (worker x t g r)
adds_stop session moved laters x t h g q r p = record {
  asks_are = sym (append-nil x.asks);
  taken_are = sym (append-nil x.taken);
  looks_are = omega arith;
  moved_is = refl;
  passes = p;
}
