-- The steps at a seat whose view is known.
use Rattle.std.proofs.Common.{◌≡◌, ℕ, [], ◌∷◌, sym, refl, ◌∙◌, subst}
use mathlib.Core.Option.{none}
use Rattle.atomic_table.specs.Table.{Me, step, rest, Allows}
use Rattle.line_rates.specs.declared.ask.Ask.{Ask}
use Rattle.desk_rule.specs.declared.view.LaneSlot.{LaneSlot}
use Rattle.desk_rule.specs.declared.view.LaneSlot.TheVariants.{WithAsk}
use Rattle.desk_rule.specs.declared.view.SeatState.{SeatState}
use Rattle.desk_rule.specs.declared.view.SeatState.TheVariants.{Worker}
use Rattle.desk_rule.specs.declared.view.LaneView.{LaneView}
use Rattle.desk_rule.specs.declared.view.DeskView.{DeskView}
use Rattle.desk_rule.specs.declared.view.DeskView.TheVariants.{Lane}
use Rattle.desk_rule.specs.Lanes.{Owns, lane_in, has_asked, held_in, KnowsLane}
use Rattle.desk_rule.specs.Steps.{Ran}
use Rattle.desk_rule.specs.Lanes as spec
use Rattle.desk_rule.proofs.Keeps.{asks}

pub owns_of : (v : DeskView) (i : ℕ) (x : LaneView) → v ≡ Lane i x → Owns i v
owns_of v i x e = subst (Owns i) (sym e) refl

module _ {N : Type 0} where
  pub knows_of : (m : (Me (LaneSlot N) DeskView)) (i : ℕ) (y : LaneView) (st : SeatState) → m ≡ (Lane i y, held_in st i) → y.state ≡ st → KnowsLane m i st
  knows_of m i y st is s = subst (λ (u : (Me (LaneSlot N) DeskView)). KnowsLane u i st) (sym is) (refl, s, refl)

  -- the seat that sits, once it has put its ask into the slot
  pub ready : (me me' : (Me (LaneSlot N) DeskView)) (i : ℕ) (y : (LaneSlot N)) → KnowsLane me i Worker → me' ≡ (me.0, (i, y) ∷ rest me.1) → me' ≡ (Lane i (lane_in i me.0), (i, y) ∷ [])
  ready me me' i y k is = is ∙ (λ q. (k.0 q, (i, y) ∷ rest (k.2 q)))

  pub asks_of : (n id : ℕ) (me : (Me (LaneSlot N) DeskView)) (i : ℕ) (x : LaneView) (a : Ask) → me ≡ (Lane i x, (i, WithAsk a) ∷ []) → x.state ≡ Worker → Allows Ran n id me i (λ _. 2) (λ _. spec.asks (step n i 2 0 none) me 2)
  asks_of n id me i x a is st = subst (λ (u : (Me (LaneSlot N) DeskView)). Allows Ran n id u i (λ _. 2) (λ _. spec.asks (step n i 2 0 none) u 2)) (sym is) (asks n id (Lane i x, (i, WithAsk a) ∷ []) i a refl st refl)

  pub asks_then : (n : ℕ) (me me' : (Me (LaneSlot N) DeskView)) (i : ℕ) (x : LaneView) (a : Ask) → me ≡ (Lane i x, (i, WithAsk a) ∷ []) → spec.asks (step n i 2 0 none) me 2 me' → me' ≡ (Lane i (has_asked a x), [])
  asks_then n me me' i x a is reported = subst (λ (u : (Me (LaneSlot N) DeskView)). spec.asks (step n i 2 0 none) u 2 me') is reported a refl

  pub known_as : (m : (Me (LaneSlot N) DeskView)) (i : ℕ) (st st' : SeatState) → KnowsLane m i st → (lane_in i m.0).state ≡ st' → KnowsLane m i st'
  known_as m i st st' k is = subst (KnowsLane m i) (sym k.1 ∙ is) k
