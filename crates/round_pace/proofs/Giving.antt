-- A round gives what is handed in for the guarantees of its asks.
use Rattle.std.proofs.Common.{◌≡◌, ℕ, ◌*◌, ◌/◌, ◌≤◌, List, length, map, get_or, inl, inr, sym, ap, ◌∙◌, arith}
use Rattle.std.specs.FinMap as finite
use Rattle.std.specs.List.{All}
use Rattle.std.specs.Prelude.{min, slice_index}
use Rattle.std.proofs.lemmas.List.{get_or-map, length-map}
use Rattle.fair_terms.specs.Fair.{fair_within}
use Rattle.line_rates.specs.declared.ask.Ask.{Ask}
use Rattle.line_rates.specs.Granted.{Granted, granted_ask, granted_octets}
use Rattle.line_rates.specs.Names.{floor_of}
use Rattle.line_rates.specs.Rates.{Rates, floor_rate as stated_floor}
use Rattle.round_pace.specs.Earned.{tick_of}
use Rattle.round_pace.specs.FloorsFit.{floor_in}
use Rattle.round_pace.specs.Given.{IsGiven, RoundsGive}
use Rattle.round_pace.specs.Guaranteed.{IsGuaranteed, owed_to, parts_for}
use Rattle.round_pace.specs.Histories.{AreBest}
use Rattle.round_pace.specs.Offered.{offer_round}
use Rattle.round_pace.specs.Paced.{Paced}

tenth : (x : ℕ) → 10 * x / 10 ≡ x
tenth x = omega arith

module _ (rates : Rates) (p : Paced) (tick : ℕ) (is : IsGuaranteed rates tick p) where
  floor_is : (a : Ask) → floor_of (offer_round tick p).offered a ≡ min a.want (floor_in (stated_floor (finite.get rates.users a.user) a.way) (owed_to a.way a.user (offer_round tick p)) (parts_for a.way a.user (offer_round tick p)))
  floor_is a =
      ap (λ (x : ℕ). min a.want (x / 10)) (is.floors a.way a.user)
      ∙ ap (min a.want) (tenth (floor_in (stated_floor (finite.get rates.users a.user) a.way) (owed_to a.way a.user (offer_round tick p)) (parts_for a.way a.user (offer_round tick p))))

  given : (at : ℕ) (leaves : List Granted) → AreBest (offer_round tick p).offered at leaves → All (IsGiven rates (offer_round tick p)) leaves
  given at leaves (inl none) k d lt = absurd (omega (arith, ap length none, lt))
  given at leaves (inr best) k d lt =
      let long : length (map granted_octets leaves) ≡ length leaves = length-map leaves granted_octets in
      let asks : length (map granted_ask leaves) ≡ length leaves = length-map leaves granted_ask in
      let floors : slice_index best.0.floors k ≤ slice_index (map granted_octets leaves) k = (fair_within (offer_round tick p).offered.share_by (map granted_ask leaves) best.0 (map granted_octets leaves) best.2).floors k (omega (arith, long, lt)) in
      let floor : slice_index best.0.floors k ≡ floor_of (offer_round tick p).offered (get_or leaves k d).ask =
      ap (λ (xs : List ℕ). slice_index xs k) best.1.floors
      ∙ get_or-map (floor_of (offer_round tick p).offered) (map granted_ask leaves) k d.ask 0 (omega (arith, asks, lt))
      ∙ ap (floor_of (offer_round tick p).offered) (get_or-map granted_ask leaves k d d.ask lt) in
      let octets : slice_index (map granted_octets leaves) k ≡ (get_or leaves k d).octets = get_or-map granted_octets leaves k d 0 lt in
      through _ _ _ _ (sym (floor ∙ floor_is (get_or leaves k d).ask)) floors octets
    where
      through : (a b c e : ℕ) → a ≡ b → b ≤ c → c ≡ e → a ≤ e
      through a b c e x y z = omega (arith, x, y, z)

pub rounds_give : RoundsGive
rounds_give rates p h is held = given rates p (tick_of h.now) is ((offer_round (tick_of h.now) p).moment / 100) h.leaves held.best
