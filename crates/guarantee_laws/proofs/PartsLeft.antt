-- The rates of a session have the parts of ticks left that began since something was taken from them.
use Rattle.std.proofs.Common.{◌≡◌, ℕ, inl, inr, ◌+◌, ◌-◌, ◌*◌, ◌/◌, ◌≤◌, Bool, true, false, cond, sym, refl, ap, ◌∙◌, subst, arith, Option, Some, None}
use Rattle.std.specs.Prelude.{nat_le, min, max}
use Rattle.std.proofs.lemmas.Bool.{cases_lt, cond-true, cond-false, lt-leb, le-leb}
use Rattle.line_rates.specs.declared.ask.Name.TheVariants.{Server, Direction, Group, User, Session}
use Rattle.line_rates.specs.declared.ask.Way.{Way}
use Rattle.line_rates.specs.declared.row.UserRate.{UserRate}
use Rattle.line_rates.specs.Rates.{Rates, group_of as group_stated, floor_rate as stated_floor}
use Rattle.line_rates.proofs.RowLemmas.{first_row, get-by_number}
use Rattle.round_pace.specs.declared.credit.Credit.{Credit}
use Rattle.round_pace.specs.declared.paced.GroupPace.{GroupPace}
use Rattle.round_pace.specs.declared.paced.UserPace.{UserPace}
use Rattle.round_pace.specs.Earned.{tick_of, share}
use Rattle.round_pace.specs.FloorsFit.{parts_left, owed_in}
use Rattle.round_pace.specs.Guaranteed.{parts_in_row, parts_for}
use Rattle.round_pace.specs.Histories.{Held, rates_of, stated_user}
use Rattle.round_pace.specs.Offered.{refill_user, offer_round, line_parts, user_parts}
use Rattle.round_pace.specs.OverTime.{owed_at}
use Rattle.round_pace.specs.Paced.{Paced, group_key, pace_number, no_credit}
use Rattle.round_pace.specs.PromisesOffered.{PartsAreLeft}
use Rattle.round_pace.specs.Rows.{group_credit, group_row_credit, user_row_credit, session_row_credit}
use Rattle.round_pace.specs.Spent.{credit_of}
use Rattle.round_pace.specs.Taken.{group_in}
use Rattle.guarantee_laws.specs.Account.{ticks_from}
use Rattle.guarantee_laws.specs.SessionRounds.{SessionWay, guarantee, owed, parts, offered_in, handed_in}
use Rattle.guarantee_laws.specs.Sure.{AreRates, sure_octets}
use Rattle.guarantee_laws.proofs.Debts.{over, first_over, user_row, stated_row, all_refilled, debt_offered}
use Rattle.guarantee_laws.proofs.Earning.{has_no_rate, has_parts, Owes, owes_refilled, hands_in}
use Rattle.guarantee_laws.proofs.Rated.{Rated, group_row, rated_offered}
use Rattle.guarantee_laws.proofs.RowsKept.{HasLeft, Keeps, keeps_offered}

module _ (are : PartsAreLeft) (second last begun ticks : ℕ) (since : ticks ≤ begun - 500 * second - (last - 500 * second)) (few : ticks ≤ 50) where
  one : (rate : ℕ) (c : Credit) → c.rate ≡ rate → rate ≤ 1099511627776 → HasLeft second last begun c → 1000 * ticks ≤ parts_left c
  one rate c is fits has = has_parts second are last begun ticks c (within c.rate rate is fits) since few has
    where
      within : (a b : ℕ) → a ≡ b → b ≤ 1099511627776 → a ≤ 1099511627776
      within a b e h = omega (arith, e, h)

  module _ (rates : Rates) (fits : AreRates rates) (w : Way) (u : ℕ) (q : Paced) (rated : Rated rates w u q) (keeps : Keeps second last begun rates w u q) where
    group_parts : (n : Option ℕ) → group_stated rates u ≡ n → 1000 * ticks ≤ parts_left (group_credit w q.groups n)
    group_parts None mine = one 0 (no_credit 0) refl (omega arith) (has_no_rate second last begun 0)
    group_parts (Some g) mine =
        subst (λ (o : Option GroupPace). 1000 * ticks ≤ parts_left (group_row_credit w o)) (sym (get-by_number group_key g q.groups))
        (one _ (group_row_credit w (group_row q g)) (rated.group g) (fits (Group w g)) (keeps.group g mine))

    row_parts : (x : UserPace) → user_row q u ≡ Some x → 1000 * ticks ≤ user_parts w (line_parts w q) q.groups x
    row_parts x at =
        five (1000 * ticks) (parts_left q.server) (parts_left (credit_of w q.down q.up)) (parts_left (group_credit w q.groups x.row.group)) (parts_left (credit_of w x.down x.up)) (parts_left (credit_of w x.session_down x.session_up))
        (one rates.server q.server rated.server (fits Server) keeps.server)
        (one _ (credit_of w q.down q.up) rated.way (fits (Direction w)) keeps.way)
        (group_parts x.row.group (sym (sym (ap group_in at) ∙ rated.in_group u)))
        (one _ (credit_of w x.down x.up) (ap (λ (o : Option UserPace). (user_row_credit w o).rate) (sym at) ∙ rated.user) (fits (User w u)) (subst (λ (o : Option UserPace). HasLeft second last begun (user_row_credit w o)) at keeps.user))
        (one _ (credit_of w x.session_down x.session_up) (ap (λ (o : Option UserPace). (session_row_credit w o).rate) (sym at) ∙ rated.session) (fits (Session w u 0)) (subst (λ (o : Option UserPace). HasLeft second last begun (session_row_credit w o)) at keeps.session))
      where
        five : (t a b c d e : ℕ) → t ≤ a → t ≤ b → t ≤ c → t ≤ d → t ≤ e → t ≤ min (min (min a b) c) (min d e)
        five t a b c d e h i j k l = omega (arith, h, i, j, k, l)

    pub parts_are : (x : UserPace) → user_row q u ≡ Some x → 1000 * ticks ≤ parts_for w u q
    parts_are x at = subst (λ (o : Option UserPace). 1000 * ticks ≤ parts_in_row w q o) (sym at ∙ sym (get-by_number pace_number u q.users)) (row_parts x at)

-- the row of a user as a round is offered it
some_offered : (p : Paced) (u tick : ℕ) (y : UserPace) → user_row p u ≡ Some y → (x : UserPace) × (user_row (offer_round tick p) u ≡ Some x)
some_offered p u tick y at = go (nat_le p.begun tick)
  where
    go : (b : Bool) → (x : UserPace) × (first_row pace_number u (cond b (all_refilled tick p) p).users ≡ Some x)
    go true = (refill_user p.begun tick y, first_over pace_number pace_number (refill_user p.begun tick) (λ x. refl) u p.users ∙ ap (over (refill_user p.begun tick)) at)
    go false = (y, at)

-- the debt as a round is offered it
pub owes_offered : (second last begun tick floor debt : ℕ) → tick / 500 ≡ second → begun ≤ tick + 1 → Owes second last begun floor debt → Owes second last (tick + 1) floor (owed_at floor debt begun tick)
owes_offered second last begun tick floor debt among near owes = elim (cases_lt tick begun) [
  | inl later ↦
      let e : begun ≡ tick + 1 = omega (arith, later, near) in
      subst (λ (z : ℕ × ℕ). Owes second last z.0 floor z.1) (λ i. (e i, sym (cond-false (nat_le begun tick) (owed_in floor debt begun tick) debt (lt-leb begun tick later)) i)) owes
  | inr new ↦
      subst (λ (d : ℕ). Owes second last (tick + 1) floor d) (sym (cond-true (nat_le begun tick) (owed_in floor debt begun tick) debt (le-leb begun tick new)))
      (owes_refilled second last begun tick floor debt among new owes)
]

-- so the octets of these ticks are handed in
pub sure_handed : PartsAreLeft → (rates : Rates) → AreRates rates → (s : SessionWay) (second last : ℕ) (p : Paced) (h : Held) → rates_of p ≡ rates → Rated rates s.way s.user p → tick_of h.now / 500 ≡ second → p.begun ≤ tick_of h.now + 1
    → Keeps second last p.begun rates s.way s.user p → Owes second last p.begun (guarantee rates s) (owed s p) → sure_octets (guarantee rates s) (ticks_from second last (tick_of h.now + 1)) ≤ handed_in rates s p h
sure_handed law rates fits s second last p h are rated among near keeps owes = go (user_row p s.user) refl
  where
    debt : Owes second last (tick_of h.now + 1) (guarantee rates s) (owed s (offered_in p h))
    debt = subst (λ (d : ℕ). Owes second last (tick_of h.now + 1) (guarantee rates s) d) (sym (debt_offered rates s.way s.user p (tick_of h.now) are)) (owes_offered second last p.begun (tick_of h.now) (guarantee rates s) (owed s p) among near owes)

    since : (t l k : ℕ) → min (t - max l k) 50 ≤ t - k - (l - k)
    since t l k = omega arith

    few : (t : ℕ) → min t 50 ≤ 50
    few t = omega arith

    none : (k x : ℕ) → share 0 k ≤ x
    none k x = omega arith

    go : (o : Option UserPace) → user_row p s.user ≡ o → sure_octets (guarantee rates s) (ticks_from second last (tick_of h.now + 1)) ≤ handed_in rates s p h
    go None at =
        let zero : guarantee rates s ≡ 0 = ap (λ (o : Option UserRate). stated_floor o s.way) (stated_row rates p are s.user ∙ ap (over stated_user) at) in
        subst (λ (f : ℕ). sure_octets f (ticks_from second last (tick_of h.now + 1)) ≤ handed_in rates s p h) (sym zero) (none (min (ticks_from second last (tick_of h.now + 1)) 50) (handed_in rates s p h))
    go (Some y) at =
        let some = some_offered p s.user (tick_of h.now) y at in
        let h1 = since (tick_of h.now + 1) last (500 * second) in
        let h2 = few (ticks_from second last (tick_of h.now + 1)) in
        hands_in second last (tick_of h.now + 1) (min (ticks_from second last (tick_of h.now + 1)) 50) (guarantee rates s) (owed s (offered_in p h)) (parts s (offered_in p h)) h1 h2 debt
        (parts_are law second last (tick_of h.now + 1) (min (ticks_from second last (tick_of h.now + 1)) 50) h1 h2 rates fits s.way s.user (offered_in p h) (rated_offered rates s.way s.user (tick_of h.now) p rated)
        (keeps_offered second last rates s.way s.user p (tick_of h.now) among near keeps) some.0 some.1)
