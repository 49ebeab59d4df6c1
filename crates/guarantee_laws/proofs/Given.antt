-- A round in which a session asks grants it at least what is handed in for its guarantee.
use Rattle.std.proofs.Common.{◌≡◌, ℕ, suc, ◌+◌, ◌≤◌, Bool, true, false, cond, List, [], ◌∷◌, get_or, sym, refl, subst, arith}
use Rattle.std.specs.List.{All, list_any}
use Rattle.std.specs.Prelude.{nat_eq, nat_le, min, ◌&&◌, ◌||◌}
use Rattle.std.proofs.lemmas.Bool.{leb-true, eqb-true}
use Rattle.std.proofs.lemmas.List.Sums.{sum_by-cons}
use Rattle.std.specs.FinMap as finite
use Rattle.line_rates.specs.declared.ask.Way.{Way}
use Rattle.line_rates.specs.Granted.{Granted}
use Rattle.line_rates.specs.Names.{same_way}
use Rattle.line_rates.specs.Rates.{Rates, floor_rate as stated_floor}
use Rattle.round_pace.specs.Earned.{tick_of}
use Rattle.round_pace.specs.Given.{IsGiven, RoundsGive}
use Rattle.round_pace.specs.FloorsFit.{floor_in}
use Rattle.round_pace.specs.Guaranteed.{IsGuaranteed, owed_to, parts_for}
use Rattle.round_pace.specs.Histories.{Held, IsHeld}
use Rattle.round_pace.specs.OwnParts.{session_octets}
use Rattle.round_pace.specs.Paced.{Paced}
use Rattle.guarantee_laws.specs.SessionRounds.{SessionWay, offered_in, handed_in, wants, asks_in, granted_to}
use Rattle.guarantee_laws.proofs.OwnSums.{both_true, way_is}

module _ (rates : Rates) (s : SessionWay) (o : Paced) (least : ℕ) where
  -- what is given to each ask of the session
  abbrev Gives : Granted → Type 0
  Gives g = (g.ask.way ≡ s.way) → (g.ask.user ≡ s.user) → min g.ask.want least ≤ g.octets

  abbrev mine : Granted → Bool
  mine g = same_way g.ask.way s.way && (nat_eq g.ask.user s.user && nat_eq g.ask.session s.session)

  one : (g : Granted) → Gives g → wants s least g ≡ true → least ≤ cond (mine g) g.octets 0
  one g gives hit =
      let both = both_true (mine g) (nat_le least g.ask.want) hit in
      let rest = both_true (same_way g.ask.way s.way) (nat_eq g.ask.user s.user && nat_eq g.ask.session s.session) both.0 in
      let last = both_true (nat_eq g.ask.user s.user) (nat_eq g.ask.session s.session) rest.1 in
      subst (λ (b : Bool). least ≤ cond b g.octets 0) (sym both.0)
      (enough g.ask.want least g.octets (leb-true least g.ask.want both.1) (gives (way_is g.ask.way s.way rest.0) (eqb-true g.ask.user s.user last.0)))
    where
      enough : (w l o : ℕ) → l ≤ w → min w l ≤ o → l ≤ o
      enough w l o h k = omega (arith, h, k)

  some : (gs : List Granted) → All Gives gs → list_any (wants s least) gs ≡ true → least ≤ session_octets s.way s.user s.session gs
  some [] all hit = absurd (cc)
  some (g ∷ gs) all hit = go (wants s least g) refl hit (sum_by-cons (λ (x : Granted). cond (mine x) x.octets 0) g gs) (some gs (λ k d lt. all (suc k) d (omega arith)))
    where
      first : (l a b c : ℕ) → c ≡ a + b → l ≤ a → l ≤ c
      first l a b c e h = omega (arith, e, h)

      later : (l a b c : ℕ) → c ≡ a + b → l ≤ b → l ≤ c
      later l a b c e h = omega (arith, e, h)

      go : (b : Bool) → wants s least g ≡ b → (b || list_any (wants s least) gs) ≡ true → session_octets s.way s.user s.session (g ∷ gs) ≡ cond (mine g) g.octets 0 + session_octets s.way s.user s.session gs
          → (list_any (wants s least) gs ≡ true → least ≤ session_octets s.way s.user s.session gs) → least ≤ session_octets s.way s.user s.session (g ∷ gs)
      go true is hit sum rest = first least (cond (mine g) g.octets 0) (session_octets s.way s.user s.session gs) (session_octets s.way s.user s.session (g ∷ gs)) sum (one g (all 0 g (omega arith)) is)
      go false is hit sum rest = later least (cond (mine g) g.octets 0) (session_octets s.way s.user s.session gs) (session_octets s.way s.user s.session (g ∷ gs)) sum (rest hit)

-- what is given to an ask of a user and a way
alike : (rates : Rates) (o : Paced) (g : Granted) (w : Way) (u : ℕ) → g.ask.way ≡ w → g.ask.user ≡ u → IsGiven rates o g
    → min g.ask.want (floor_in (stated_floor (finite.get rates.users u) w) (owed_to w u o) (parts_for w u o)) ≤ g.octets
alike rates o g w u way user given =
    subst (λ (z : Way × ℕ). min g.ask.want (floor_in (stated_floor (finite.get rates.users z.1) z.0) (owed_to z.0 z.1 o) (parts_for z.0 z.1 o)) ≤ g.octets) (λ i. (way i, user i)) given

pub given_enough : RoundsGive → (rates : Rates) (s : SessionWay) (p : Paced) (h : Held) → IsGuaranteed rates (tick_of h.now) p → IsHeld p h → asks_in rates s p h ≡ true → handed_in rates s p h ≤ granted_to s h
given_enough gives rates s p h is held hit = some rates s (offered_in p h) (handed_in rates s p h) h.leaves each hit
  where
    each : All (Gives rates s (offered_in p h) (handed_in rates s p h)) h.leaves
    each k d lt way user = alike rates (offered_in p h) (get_or h.leaves k d) s.way s.user way user (gives rates p h is held k d lt)
