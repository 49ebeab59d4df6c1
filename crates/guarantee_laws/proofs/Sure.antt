-- What a session is sure to be granted by its asks and the clock.
use Rattle.std.proofs.Common.{◌≡◌, ℕ, suc, ◌+◌, ◌-◌, ◌*◌, ◌/◌, ◌%◌, ◌<◌, ◌≤◌, ◌⊎◌, Bool, true, false, cond, List, [], ◌∷◌, ◌++◌, length, inl, inr, sum_by, sym, refl, ap, ◌∙◌, subst, arith}
use Rattle.std.specs.Prelude.{min}
use Rattle.std.specs.List.{All}
use Rattle.std.proofs.lemmas.List.Sums.{sum_by-cons}
use Rattle.line_rates.specs.Rates.{Rates}
use Rattle.round_pace.specs.Earned.{tick_of}
use Rattle.round_pace.specs.Given.{RoundsGive}
use Rattle.round_pace.specs.Guaranteed.{NextIsGuaranteed}
use Rattle.round_pace.specs.Histories.{Held, after, after_all, IsHeld, AreHeld, rates_of, RatesStay, TicksBegin}
use Rattle.round_pace.specs.Offered.{offer_round}
use Rattle.round_pace.specs.OverTime.{owed_at}
use Rattle.round_pace.specs.OwnParts.{session_octets}
use Rattle.round_pace.specs.Paced.{Paced}
use Rattle.round_pace.specs.PromisesOffered.{PartsAreLeft}
use Rattle.round_pace.specs.Stretches.{ChangedRates}
use Rattle.guarantee_laws.specs.Account.{ticks_from, granted_in}
use Rattle.guarantee_laws.specs.Reached.{IsReached, AreIn}
use Rattle.guarantee_laws.specs.SessionRounds.{SessionWay, guarantee, owed, asks_in, granted_to, most_granted}
use Rattle.guarantee_laws.specs.Sure.{AreRates, takes_in, asked_ticks, sure_octets, AsksAreSure, MissesNone, AsksKeepGuarantees}
use Rattle.guarantee_laws.proofs.Accounts.{tick_in}
use Rattle.guarantee_laws.proofs.Debts.{debt_after}
use Rattle.guarantee_laws.proofs.Earning.{Owes, owes_none}
use Rattle.guarantee_laws.proofs.Kept.{enough}
use Rattle.guarantee_laws.proofs.OwnSums.{most_is}
use Rattle.guarantee_laws.proofs.PartsLeft.{sure_handed, owes_offered}
use Rattle.guarantee_laws.proofs.Rated.{rated_reached, rated_offered}
use Rattle.guarantee_laws.proofs.Reaching.{reached_next, rates_reached}
use Rattle.guarantee_laws.proofs.RowsKept.{Keeps, keeps_none, keeps_offered, keeps_more, octets_none}

module _ (begin : TicksBegin) (stay : RatesStay) (changed : ChangedRates) (next : NextIsGuaranteed) (gives : RoundsGive) (law : PartsAreLeft) (rates : Rates) (fits : AreRates rates) (s : SessionWay) (second : ℕ) where
  -- what the session is sure of in the next rounds, since some number of ticks had begun
  abbrev Sure : ℕ → Paced → Type 0
  Sure last p = Keeps second last p.begun rates s.way s.user p × Owes second last p.begun (guarantee rates s) (owed s p)

  -- nothing, as a round was held
  sure_none : (p : Paced) (h : Held) → IsHeld p h → Sure (tick_of h.now + 1) (after p h)
  sure_none p h held =
      let b : (after p h).begun ≤ tick_of h.now + 1 = at_most (after p h).begun (tick_of h.now + 1) (begin p h held.later) in
      (keeps_none second (tick_of h.now + 1) (after p h).begun rates s.way s.user (after p h) b, owes_none second (tick_of h.now + 1) (after p h).begun (guarantee rates s) (owed s (after p h)) b)
    where
      at_most : (a b : ℕ) → a ≡ b → a ≤ b
      at_most a b e = omega (arith, e)

  -- as much, after a round that takes nothing
  sure_more : (last : ℕ) (p : Paced) (h : Held) → IsReached rates p → IsHeld p h → tick_of h.now / 500 ≡ second → takes_in rates s h ≡ false → Sure last p → Sure last (after p h)
  sure_more last p h at held among none sure =
      let are : rates_of p ≡ rates = rates_reached changed stay rates p at in
      let b : (after p h).begun ≡ tick_of h.now + 1 = begin p h held.later in
      let most : most_granted s h ≡ 0 =
      most_is s.way s.user s.session h.leaves (λ j. zeros (session_octets s.way s.user j h.leaves) (granted_to s h) (octets_none second last 0 rates s j h.leaves none))
      ∙ octets_none second last 0 rates s s.session h.leaves none in
      let debt : owed s (after p h) ≡ owed_at (guarantee rates s) (owed s p) p.begun (tick_of h.now) =
      debt_after rates s.way s.user p h are ∙ untaken (owed_at (guarantee rates s) (owed s p) p.begun (tick_of h.now)) (most_granted s h) most in (
        subst (λ (x : ℕ). Keeps second last x rates s.way s.user (after p h)) (sym b)
            (keeps_more second last (tick_of h.now + 1) rates s [] h.leaves (offer_round (tick_of h.now) p) none (rated_offered rates s.way s.user (tick_of h.now) p (rated_reached rates s.way s.user p at))
            (keeps_offered second last rates s.way s.user p (tick_of h.now) among held.later sure.0)),
        subst (λ (z : ℕ × ℕ). Owes second last z.0 (guarantee rates s) z.1) (λ i. (sym b i, sym debt i)) (owes_offered second last p.begun (tick_of h.now) (guarantee rates s) (owed s p) among held.later sure.1),
      )
    where
      zeros : (a b : ℕ) → a ≡ 0 → a ≤ b
      zeros a b e = omega (arith, e)

      untaken : (d k : ℕ) → k ≡ 0 → d - k * 500 ≡ d
      untaken d k e = omega (arith, e)

  -- a round in which it asks
  sure_asked : (last : ℕ) (p : Paced) (h : Held) → IsReached rates p → IsHeld p h → tick_of h.now / 500 ≡ second → asks_in rates s p h ≡ true → Sure last p → sure_octets (guarantee rates s) (ticks_from second last (tick_of h.now + 1)) ≤ granted_to s h
  sure_asked last p h at held among hit sure =
      through _ _ _ (sure_handed law rates fits s second last p h (rates_reached changed stay rates p at) (rated_reached rates s.way s.user p at) among held.later sure.0 sure.1) (enough begin stay changed next gives rates s p h at held hit)
    where
      through : (a b c : ℕ) → a ≤ b → b ≤ c → a ≤ c
      through a b c h k = omega (arith, h, k)

  abbrev sum_sure : List ℕ → ℕ
  sum_sure ks = sum_by (sure_octets (guarantee rates s)) ks

  sure : (last : ℕ) (p : Paced) (hs : List Held) → IsReached rates p → AreHeld p hs → AreIn second hs → Sure last p → sum_sure (asked_ticks rates s second last p hs) ≤ granted_in s hs
  sure last p [] at held among keeps = omega arith
  sure last p (h ∷ hs) at held among keeps =
      go (asks_in rates s p h) refl (takes_in rates s h) refl
      (sure (tick_of h.now + 1) (after p h) hs (reached_next rates p h at held.0) held.1 among.1 (sure_none p h held.0))
      (λ none. sure last (after p h) hs (reached_next rates p h at held.0) held.1 among.1 (sure_more last p h at held.0 (tick_in h.now second among.0) none keeps))
    where
      rest : (a g gs gg : ℕ) → gg ≡ g + gs → a ≤ gs → a ≤ gg
      rest a g gs gg e h = omega (arith, e, h)

      both : (k a x g gs gg : ℕ) → x ≡ k + a → gg ≡ g + gs → k ≤ g → a ≤ gs → x ≤ gg
      both k a x g gs gg e f h i = omega (arith, e, f, h, i)

      go : (b : Bool) → asks_in rates s p h ≡ b → (t : Bool) → takes_in rates s h ≡ t → sum_sure (asked_ticks rates s second (tick_of h.now + 1) (after p h) hs) ≤ granted_in s hs
          → (takes_in rates s h ≡ false → sum_sure (asked_ticks rates s second last (after p h) hs) ≤ granted_in s hs)
          → sum_sure (cond b (ticks_from second last (tick_of h.now + 1) ∷ asked_ticks rates s second (tick_of h.now + 1) (after p h) hs)
          (cond t (asked_ticks rates s second (tick_of h.now + 1) (after p h) hs) (asked_ticks rates s second last (after p h) hs))) ≤ granted_in s (h ∷ hs)
      go true asks t taken more same =
          both (sure_octets (guarantee rates s) (ticks_from second last (tick_of h.now + 1))) (sum_sure (asked_ticks rates s second (tick_of h.now + 1) (after p h) hs))
          (sum_sure (ticks_from second last (tick_of h.now + 1) ∷ asked_ticks rates s second (tick_of h.now + 1) (after p h) hs)) (granted_to s h) (granted_in s hs) (granted_in s (h ∷ hs))
          (sum_by-cons (sure_octets (guarantee rates s)) (ticks_from second last (tick_of h.now + 1)) (asked_ticks rates s second (tick_of h.now + 1) (after p h) hs)) (sum_by-cons (granted_to s) h hs)
          (sure_asked last p h at held.0 (tick_in h.now second among.0) asks keeps) more
      go false asks true taken more same = rest (sum_sure (asked_ticks rates s second (tick_of h.now + 1) (after p h) hs)) (granted_to s h) (granted_in s hs) (granted_in s (h ∷ hs)) (sum_by-cons (granted_to s) h hs) more
      go false asks false taken more same = rest (sum_sure (asked_ticks rates s second last (after p h) hs)) (granted_to s h) (granted_in s hs) (granted_in s (h ∷ hs)) (sum_by-cons (granted_to s) h hs) (same taken)

pub asks_are_sure : TicksBegin → RatesStay → ChangedRates → NextIsGuaranteed → RoundsGive → PartsAreLeft → AsksAreSure
asks_are_sure begin stay changed next gives law rates s second p hs fits at held among =
    sure begin stay changed next gives law rates fits s second p.begun p hs at held among
    (keeps_none second p.begun p.begun rates s.way s.user p (same p.begun), owes_none second p.begun p.begun (guarantee rates s) (owed s p) (same p.begun))
  where
    same : (x : ℕ) → x ≤ x
    same x = omega arith

-- numbers of ticks
abbrev total : List ℕ → ℕ
total [] = 0
total (k ∷ ks) = k + total ks

module _ (floor : ℕ) where
  abbrev octets : List ℕ → ℕ
  octets ks = sum_by (sure_octets floor) ks

  times : (a b : ℕ) → (a + b) * floor ≡ a * floor + b * floor
  times a b = omega arith

  few_is : (k : ℕ) → k ≤ 50 → min k 50 ≡ k
  few_is k h = omega (arith, h)

  -- less than an octet is lost for each
  nearly : (ks : List ℕ) → All (λ k. k ≤ 50) ks → total ks * floor + length ks ≤ 500 * (octets ks + length ks)
  nearly [] few = zero floor
    where
      zero : (f : ℕ) → 0 * f + 0 ≤ 500 * (0 + 0)
      zero f = omega arith
  nearly (k ∷ ks) few =
      plain ((k + total ks) * floor) (k * floor) (total ks * floor) (sure_octets floor k) (octets ks) (octets (k ∷ ks)) (length ks) (length (k ∷ ks)) (omega arith)
      (times k (total ks)) (ap (λ (x : ℕ). x * floor / 500) (few_is k (few 0 k (omega arith)))) (sum_by-cons (sure_octets floor) k ks) (nearly ks (λ j d lt. few (suc j) d (omega arith)))
    where
      plain : (x y z o os oo n m : ℕ) → m ≡ n + 1 → x ≡ y + z → o ≡ y / 500 → oo ≡ o + os → z + n ≤ 500 * (os + n) → x + m ≤ 500 * (oo + m)
      plain x y z o os oo n m e f g h i = omega (arith, e, f, g, h, i)

  -- and nothing of whole octets
  whole : floor % 500 ≡ 0 → (ks : List ℕ) → All (λ k. k ≤ 50) ks → total ks * floor ≤ 500 * octets ks
  whole even [] few = zero floor
    where
      zero : (f : ℕ) → 0 * f ≤ 500 * 0
      zero f = omega arith
  whole even (k ∷ ks) few =
      plain ((k + total ks) * floor) (k * floor) (total ks * floor) (k * (floor / 500)) (sure_octets floor k) (octets ks) (octets (k ∷ ks))
      (times k (total ks)) (ap (λ (x : ℕ). k * x) (split floor even) ∙ turned k (floor / 500)) (ap (λ (x : ℕ). x * floor / 500) (few_is k (few 0 k (omega arith)))) (sum_by-cons (sure_octets floor) k ks) (whole even ks (λ j d lt. few (suc j) d (omega arith)))
    where
      split : (f : ℕ) → f % 500 ≡ 0 → f ≡ 500 * (f / 500)
      split f e = omega (arith, e)

      turned : (k q : ℕ) → k * (500 * q) ≡ 500 * (k * q)
      turned k q = omega arith

      plain : (x y z q o os oo : ℕ) → x ≡ y + z → y ≡ 500 * q → o ≡ y / 500 → oo ≡ o + os → z ≤ 500 * os → x ≤ 500 * oo
      plain x y z q o os oo e f g h i = omega (arith, e, f, g, h, i)

module _ (begin : TicksBegin) (rates : Rates) (s : SessionWay) (second : ℕ) where
  -- the last round is in no earlier tick
  last_later : (p : Paced) (hs : List Held) (h : Held) → AreHeld p (hs ++ h ∷ []) → p.begun ≤ tick_of h.now + 1
  last_later p [] h held = held.0.later
  last_later p (x ∷ hs) h held = through p.begun (tick_of x.now + 1) (after p x).begun (tick_of h.now + 1) held.0.later (begin p x held.0.later) (last_later (after p x) hs h held.1)
    where
      through : (a b c d : ℕ) → a ≤ b → c ≡ b → c ≤ d → a ≤ d
      through a b c d h e k = omega (arith, h, e, k)

  -- the ticks of the rounds in which the session asks are all
  all_asked : (last : ℕ) (p : Paced) (hs : List Held) (h : Held) → last ≤ p.begun → AreHeld p (hs ++ h ∷ []) → AreIn second (hs ++ h ∷ []) → MissesNone rates s p (hs ++ h ∷ []) → asks_in rates s (after_all p hs) h ≡ true
      → (total (asked_ticks rates s second last p (hs ++ h ∷ [])) ≡ ticks_from second last (tick_of h.now + 1)) × (1 ≤ length (asked_ticks rates s second last p (hs ++ h ∷ [])))
  all_asked last p [] h near held among misses asks = go (asks_in rates s p h) asks
    where
      alone : (k : ℕ) → k + 0 ≡ k
      alone k = omega arith

      go : (b : Bool) → b ≡ true → (total (cond b (ticks_from second last (tick_of h.now + 1) ∷ []) (cond (takes_in rates s h) [] [])) ≡ ticks_from second last (tick_of h.now + 1))
          × (1 ≤ length (cond b (ticks_from second last (tick_of h.now + 1) ∷ []) (cond (takes_in rates s h) [] [])))
      go true e = (alone (ticks_from second last (tick_of h.now + 1)), omega arith)
      go false e = absurd (cc)
  all_asked last p (x ∷ hs) h near held among misses asks =
      let b : (after p x).begun ≡ tick_of x.now + 1 = begin p x held.0.later in
      let later = last_later (after p x) hs h held.1 in
      go (asks_in rates s p x) (takes_in rates s x) misses.0
      (all_asked (tick_of x.now + 1) (after p x) hs h (at_most (after p x).begun (tick_of x.now + 1) b) held.1 among.1 misses.1 asks)
      (all_asked last (after p x) hs h (before last p.begun (tick_of x.now + 1) (after p x).begun near held.0.later b) held.1 among.1 misses.1 asks)
      (parts last p.begun (tick_of x.now) (tick_of h.now) (after p x).begun near held.0.later b later (tick_in x.now second among.0))
    where
      at_most : (a b : ℕ) → a ≡ b → b ≤ a
      at_most a b e = omega (arith, e)

      before : (l a b c : ℕ) → l ≤ a → a ≤ b → c ≡ b → l ≤ c
      before l a b c h k e = omega (arith, h, k, e)

      parts : (l b x t c : ℕ) → l ≤ b → b ≤ x + 1 → c ≡ x + 1 → c ≤ t + 1 → x / 500 ≡ second → ticks_from second l (x + 1) + ticks_from second (x + 1) (t + 1) ≡ ticks_from second l (t + 1)
      parts l b x t c h k e g among = omega (arith, h, k, e, g, among)

      sum : (k y z w : ℕ) → y ≡ z → k + z ≡ w → k + y ≡ w
      sum k y z w e f = omega (arith, e, f)

      go : (a t : Bool) → (a ≡ true) ⊎ (t ≡ false)
          → (total (asked_ticks rates s second (tick_of x.now + 1) (after p x) (hs ++ h ∷ [])) ≡ ticks_from second (tick_of x.now + 1) (tick_of h.now + 1)) × (1 ≤ length (asked_ticks rates s second (tick_of x.now + 1) (after p x) (hs ++ h ∷ [])))
          → (total (asked_ticks rates s second last (after p x) (hs ++ h ∷ [])) ≡ ticks_from second last (tick_of h.now + 1)) × (1 ≤ length (asked_ticks rates s second last (after p x) (hs ++ h ∷ [])))
          → ticks_from second last (tick_of x.now + 1) + ticks_from second (tick_of x.now + 1) (tick_of h.now + 1) ≡ ticks_from second last (tick_of h.now + 1)
          → (total (cond a (ticks_from second last (tick_of x.now + 1) ∷ asked_ticks rates s second (tick_of x.now + 1) (after p x) (hs ++ h ∷ []))
          (cond t (asked_ticks rates s second (tick_of x.now + 1) (after p x) (hs ++ h ∷ [])) (asked_ticks rates s second last (after p x) (hs ++ h ∷ [])))) ≡ ticks_from second last (tick_of h.now + 1))
          × (1 ≤ length (cond a (ticks_from second last (tick_of x.now + 1) ∷ asked_ticks rates s second (tick_of x.now + 1) (after p x) (hs ++ h ∷ []))
          (cond t (asked_ticks rates s second (tick_of x.now + 1) (after p x) (hs ++ h ∷ [])) (asked_ticks rates s second last (after p x) (hs ++ h ∷ [])))))
      go true t either new same e = (sum (ticks_from second last (tick_of x.now + 1)) (total (asked_ticks rates s second (tick_of x.now + 1) (after p x) (hs ++ h ∷ []))) (ticks_from second (tick_of x.now + 1) (tick_of h.now + 1)) (ticks_from second last (tick_of h.now + 1)) new.0 e, omega arith)
      go false false either new same e = same
      go false true (inl miss) new same e = absurd (cc)
      go false true (inr miss) new same e = absurd (cc)

pub asks_keep_guarantees : TicksBegin → RatesStay → ChangedRates → NextIsGuaranteed → RoundsGive → PartsAreLeft → AsksKeepGuarantees
asks_keep_guarantees begin stay changed next gives law rates s second p hs h fits at held among misses prompt asks =
    let all = all_asked begin rates s second p.begun p hs h (same p.begun) held among misses asks in
    let granted = asks_are_sure begin stay changed next gives law rates s second p (hs ++ h ∷ []) fits at held among in
    record {
      nearly = near (ticks_from second p.begun (tick_of h.now + 1) * guarantee rates s) _ (length (asked_ticks rates s second p.begun p (hs ++ h ∷ []))) _ (granted_in s (hs ++ h ∷ []))
          (ap (λ (k : ℕ). k * guarantee rates s) (sym all.0)) (nearly (guarantee rates s) (asked_ticks rates s second p.begun p (hs ++ h ∷ [])) prompt) all.1 granted;
      whole = λ even. full (ticks_from second p.begun (tick_of h.now + 1) * guarantee rates s) _ _ (granted_in s (hs ++ h ∷ [])) (ap (λ (k : ℕ). k * guarantee rates s) (sym all.0)) (whole (guarantee rates s) even (asked_ticks rates s second p.begun p (hs ++ h ∷ [])) prompt) granted;
    }
  where
    same : (x : ℕ) → x ≤ x
    same x = omega arith

    near : (x y n o g : ℕ) → x ≡ y → y + n ≤ 500 * (o + n) → 1 ≤ n → o ≤ g → x / 500 < g + n
    near x y n o g e h k i = omega (arith, e, h, k, i)

    full : (x y o g : ℕ) → x ≡ y → y ≤ 500 * o → o ≤ g → x / 500 ≤ g
    full x y o g e h i = omega (arith, e, h, i)
