-- A session that asks in the last of some rounds has been granted its guarantee.
use Rattle.std.proofs.Common.{◌≡◌, ℕ, ◌+◌, ◌-◌, ◌*◌, ◌/◌, ◌≤◌, true, List, [], ◌∷◌, ◌++◌, sym, refl, ap, ◌∙◌, subst, arith}
use Rattle.std.specs.Prelude.{nat_le}
use Rattle.std.proofs.lemmas.Bool.{cond-true, le-leb}
use Rattle.std.proofs.lemmas.List.Sums.{sum_by-cons}
use Rattle.line_rates.specs.Rates.{Rates}
use Rattle.round_pace.specs.Earned.{tick_of, share}
use Rattle.round_pace.specs.FloorsFit.{owed_after, floor_in}
use Rattle.round_pace.specs.Given.{RoundsGive}
use Rattle.round_pace.specs.Guaranteed.{NextIsGuaranteed}
use Rattle.round_pace.specs.Histories.{Held, after, after_all, IsHeld, rates_of, RatesStay, TicksBegin}
use Rattle.round_pace.specs.OverTime.{owed_at, owed_uncut, AreOwed, ArePromptFor}
use Rattle.round_pace.specs.Paced.{Paced}
use Rattle.round_pace.specs.Stretches.{ChangedRates}
use Rattle.guarantee_laws.specs.Account.{ticks_from, cut_at, cut_in, granted_in, beyond_in, AsksForAll, GuaranteesOverTime, GuaranteesToTheOctet, RoundsAreOwed, UncutIsPrompt}
use Rattle.guarantee_laws.specs.Reached.{IsReached}
use Rattle.guarantee_laws.specs.SessionRounds.{SessionWay, guarantee, owed, parts, offered_in, handed_in, asks_in, granted_to, most_granted, granted_beyond, IsGrantedMost, AreGrantedMost, owed_rounds}
use Rattle.guarantee_laws.proofs.Accounts.{accounted, tick_in}
use Rattle.guarantee_laws.proofs.Debts.{debt_offered, debt_after}
use Rattle.guarantee_laws.proofs.Given.{given_enough}
use Rattle.guarantee_laws.proofs.OwnSums.{session_most, most_is}
use Rattle.guarantee_laws.proofs.Reaching.{all_append, held_first, held_rest, reached_all, reached_next, rates_reached, guaranteed_next}

module _ (begin : TicksBegin) (stay : RatesStay) (changed : ChangedRates) (next : NextIsGuaranteed) (gives : RoundsGive) where
  -- a round in which a session asks gives what is handed in
  pub enough : (rates : Rates) (s : SessionWay) (p : Paced) (h : Held) → IsReached rates p → IsHeld p h → asks_in rates s p h ≡ true → handed_in rates s p h ≤ granted_to s h
  enough rates s p h at held hit = given_enough gives rates s p h (guaranteed_next next rates p at (tick_of h.now)) held hit

  -- less than an octet is owed after it, if all whole octets were handed in
  rest : (rates : Rates) (s : SessionWay) (p : Paced) (h : Held) → IsReached rates p → IsHeld p h → AsksForAll rates s p h → owed s (after p h) ≤ 499
  rest rates s p h at held asks =
      let are : rates_of p ≡ rates = rates_reached changed stay rates p at in
      plain (owed s (after p h)) (owed s (offered_in p h)) (owed_at (guarantee rates s) (owed s p) p.begun (tick_of h.now)) (most_granted s h) (granted_to s h) (handed_in rates s p h)
      (debt_after rates s.way s.user p h are) (debt_offered rates s.way s.user p (tick_of h.now) are) (session_most s.way s.user s.session h.leaves) (enough rates s p h at held asks.asks) asks.left
    where
      plain : (a o d m g i : ℕ) → a ≡ d - m * 500 → o ≡ d → g ≤ m → i ≤ g → o / 500 ≤ i → a ≤ 499
      plain a o d m g i e f h k l = omega (arith, e, f, h, k, l)

  pub over_time : GuaranteesOverTime
  over_time rates s second p hs h at held among asks =
      let last : after_all p (hs ++ h ∷ []) ≡ after (after_all p hs) h = all_append p hs h in
      let one : IsHeld (after_all p hs) h = (held_rest p hs (h ∷ []) held).0 in
      let there : IsReached rates (after_all p hs) = reached_all rates p hs at (held_first p hs (h ∷ []) held) in
      let b : (after_all p (hs ++ h ∷ [])).begun ≡ tick_of h.now + 1 = ap (λ (x : Paced). x.begun) last ∙ begin (after_all p hs) h one.later in
      let o : owed s (after_all p (hs ++ h ∷ [])) ≤ 499 = subst (λ (x : Paced). owed s x ≤ 499) (sym last) (rest rates s (after_all p hs) h there one asks) in
      let all = accounted begin stay changed rates s second p (hs ++ h ∷ []) at held among in
      plain (guarantee rates s * ticks_from second p.begun (after_all p (hs ++ h ∷ [])).begun) (ticks_from second p.begun (tick_of h.now + 1) * guarantee rates s) (granted_in s (hs ++ h ∷ [])) (beyond_in s (hs ++ h ∷ [])) (owed s (after_all p (hs ++ h ∷ []))) (cut_in rates s p (hs ++ h ∷ []))
      (ap (λ (k : ℕ). guarantee rates s * ticks_from second p.begun k) b ∙ turned (guarantee rates s) (ticks_from second p.begun (tick_of h.now + 1))) all o
    where
      turned : (x y : ℕ) → x * y ≡ y * x
      turned x y = omega arith

      plain : (a z g b o c : ℕ) → a ≡ z → a ≤ 500 * (g + b) + o + c → o ≤ 499 → z / 500 ≤ g + b + (c + 499) / 500
      plain a z g b o c e h k = omega (arith, e, h, k)

  none_beyond : (s : SessionWay) (hs : List Held) → AreGrantedMost s hs → beyond_in s hs ≡ 0
  none_beyond s [] most = refl
  none_beyond s (h ∷ hs) most = plain (beyond_in s (h ∷ hs)) (most_granted s h) (granted_to s h) (beyond_in s hs) (sum_by-cons (granted_beyond s) h hs) (most_is s.way s.user s.session h.leaves most.0) (none_beyond s hs most.1)
    where
      plain : (a m g b : ℕ) → a ≡ (m - g) + b → m ≡ g → b ≡ 0 → a ≡ 0
      plain a m g b e f h = omega (arith, e, f, h)

  pub to_the_octet : GuaranteesToTheOctet
  to_the_octet rates s second p hs h at held among asks most uncut =
      plain (share (guarantee rates s) (ticks_from second p.begun (tick_of h.now + 1))) (granted_in s (hs ++ h ∷ [])) (beyond_in s (hs ++ h ∷ [])) (cut_in rates s p (hs ++ h ∷ [])) (none_beyond s (hs ++ h ∷ []) most) uncut (over_time rates s second p hs h at held among asks)
    where
      plain : (a g b c : ℕ) → b ≡ 0 → c ≡ 0 → a ≤ g + b + (c + 499) / 500 → a ≤ g
      plain a g b c e f h = omega (arith, e, f, h)

  -- the debt after a round, if no other session was granted more
  debt_own : (rates : Rates) (s : SessionWay) (p : Paced) (h : Held) → rates_of p ≡ rates → IsGrantedMost s h → owed s (after p h) ≡ owed_after (granted_to s h) (owed_at (guarantee rates s) (owed s p) p.begun (tick_of h.now))
  debt_own rates s p h are most = debt_after rates s.way s.user p h are ∙ ap (λ (k : ℕ). owed_after k (owed_at (guarantee rates s) (owed s p) p.begun (tick_of h.now))) (most_is s.way s.user s.session h.leaves most)

  pub are_owed : RoundsAreOwed
  are_owed rates s p [] at held most = tt
  are_owed rates s p (h ∷ hs) at held most =
      let are : rates_of p ≡ rates = rates_reached changed stay rates p at in (
        held.0.later,
        λ hit. subst (λ (d : ℕ). floor_in (guarantee rates s) d (parts s (offered_in p h)) ≤ granted_to s h) (debt_offered rates s.way s.user p (tick_of h.now) are) (enough rates s p h at held.0 hit),
        subst (λ (z : ℕ × ℕ). AreOwed (guarantee rates s) z.0 z.1 (owed_rounds rates s (after p h) hs)) (λ i. (debt_own rates s p h are most.0 i, begin p h held.0.later i)) (are_owed rates s (after p h) hs (reached_next rates p h at held.0) held.1 most.1),
      )

  pub is_prompt : UncutIsPrompt
  is_prompt rates s second p [] at held most among uncut = tt
  is_prompt rates s second p (h ∷ hs) at held most among uncut =
      let are : rates_of p ≡ rates = rates_reached changed stay rates p at in
      let none = both (cut_at rates s p h) (cut_in rates s (after p h) hs) uncut in (
        tick_in h.now second among.0,
        λ new. within (owed_uncut (guarantee rates s) (owed s p) p.begun (tick_of h.now)) (guarantee rates s * 50)
            (sym (cond-true (nat_le p.begun (tick_of h.now)) (owed_uncut (guarantee rates s) (owed s p) p.begun (tick_of h.now) - guarantee rates s * 50) 0 (le-leb p.begun (tick_of h.now) new)) ∙ none.0),
        subst (λ (z : ℕ × ℕ). ArePromptFor second (guarantee rates s) z.0 z.1 (owed_rounds rates s (after p h) hs)) (λ i. (debt_own rates s p h are most.0 i, begin p h held.0.later i)) (is_prompt rates s second (after p h) hs (reached_next rates p h at held.0) held.1 most.1 among.1 none.1),
      )
    where
      both : (a b : ℕ) → a + b ≡ 0 → (a ≡ 0) × (b ≡ 0)
      both a b e = (omega (arith, e), omega (arith, e))

      within : (a b : ℕ) → a - b ≡ 0 → a ≤ b
      within a b e = omega (arith, e)
