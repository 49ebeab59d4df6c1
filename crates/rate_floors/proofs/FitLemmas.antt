-- What is promised stays within all rates: with none counted, with one more admitted, and with one released.
use Rattle.std.proofs.Common.{◌≡◌, ℕ, ◌+◌, ◌-◌, ◌*◌, ◌≤◌, Bool, true, false, ◌&&◌, ◌||◌, cond, List, map, get_or, set, sym, refl, ap, ◌∙◌, subst, arith, Option, Some, None}
use Rattle.std.specs.FinMap as finite
use Rattle.std.specs.List.{All}
use Rattle.std.specs.Prelude.{nat_eq, nat_le, ⊤}
use Rattle.std.proofs.Math.Nat.{mul-le-mul_right}
use Rattle.std.proofs.lemmas.Bool.{and_parts, eqb-true, eq-eqb, leb-true, le-leb, or_right}
use Rattle.std.proofs.lemmas.List.Elements.{All-set}
use Rattle.line_rates.specs.declared.ask.Way.{Way}
use Rattle.line_rates.specs.declared.ask.Way.TheVariants.{Down, Up}
use Rattle.line_rates.specs.declared.row.UserRate.{UserRate}
use Rattle.line_rates.specs.declared.share_by.ShareBy.{ShareBy}
use Rattle.line_rates.specs.Names.{is_number}
use Rattle.line_rates.specs.Rates.{group_rate}
use Rattle.line_rates.specs.Stated.{by_number, user_number, IsRising}
use Rattle.line_rates.proofs.RowLemmas.{get-by_number, first_contains}
use Rattle.rate_floors.specs.declared.find.GroupPromise.{GroupPromise}
use Rattle.rate_floors.specs.declared.find.UserSessions.{UserSessions}
use Rattle.line_rates.specs.Put.{IsAt}
use Rattle.rate_floors.specs.Promises.{Promises, PromisesFit, entry_fits, seen, counted, released, admits, fits, user_of, user_key, user_row, floor_in, promised_user, promised, promised_group, with_sessions, one_more, one_less, keeps, session_fits, user_fits, group_fits, line_fits, no_session}
use Rattle.rate_floors.proofs.AskSums.{sum_of_mapped}
use Rattle.rate_floors.proofs.FloorLemmas.{unchanged, none_promised, group_within}
use Rattle.rate_floors.proofs.PlaceLemmas.{all_mapped, rising_mapped, kept_mapped}
use Rattle.rate_floors.proofs.SumLemmas.{entry_with, users-set, user_at, group-more}

keeps_less : (m n rate : ℕ) → m ≤ n → keeps n rate ≡ true → keeps m rate ≡ true
keeps_less m n rate le e = go (nat_eq rate 0) refl e
  where
    go : (b : Bool) → nat_eq rate 0 ≡ b → (b || nat_le n rate) ≡ true → (b || nat_le m rate) ≡ true
    go true t e = refl
    go false t e = let most = leb-true n rate e in le-leb m rate (omega arith)

pub both : (x y : Bool) → x ≡ true → y ≡ true → (x && y) ≡ true
both x y e f = ap (λ b. b && y) e ∙ f

module _ (change : ℕ → ℕ) (user : ℕ) where
  same_number : (entry : UserSessions) → user_key (with_sessions change user entry) ≡ user_key entry
  same_number entry = elim (nat_eq (user_key entry) user) as (λ b. user_key (cond b (entry_with change entry) entry) ≡ user_key entry) [ true ↦ refl | false ↦ refl ]

  same_row : (entry : UserSessions) → user_row (with_sessions change user entry) ≡ user_row entry
  same_row entry = elim (nat_eq (user_key entry) user) as (λ b. user_row (cond b (entry_with change entry) entry) ≡ user_row entry) [ true ↦ refl | false ↦ refl ]

  pub same_rows : (p : Promises) → PromisesFit p → p.rates.users ≡ by_number user_number (map user_row (map (with_sessions change user) p.users))
  same_rows p fit = fit.rows ∙ ap (by_number user_number) (sym (kept_mapped user_row (with_sessions change user) p.users same_row))

  pub still_rising : (p : Promises) → PromisesFit p → IsRising user_key (map (with_sessions change user) p.users)
  still_rising p fit = rising_mapped user_key user_key (with_sessions change user) p.users same_number fit.rising

-- one session less
less_times : (s n : ℕ) → (s - 1) * n ≤ s * n
less_times s n = mul-le-mul_right n (let le : s - 1 ≤ s = omega arith in le)

less_user : (row : UserRate) (s : ℕ) → user_fits row s ≡ true → user_fits row (s - 1) ≡ true
less_user row s e =
    let parts = and_parts _ _ e in
    both (keeps ((s - 1) * row.session_down_floor) row.down) (keeps ((s - 1) * row.session_up_floor) row.up)
    (keeps_less ((s - 1) * row.session_down_floor) (s * row.session_down_floor) row.down (less_times s row.session_down_floor) parts.0)
    (keeps_less ((s - 1) * row.session_up_floor) (s * row.session_up_floor) row.up (less_times s row.session_up_floor) parts.1)

less_fits : (entry : UserSessions) → entry_fits entry ≡ true → entry_fits (entry_with one_less entry) ≡ true
less_fits entry e = go (nat_eq entry.sessions 0) refl e
  where
    go : (b : Bool) → nat_eq entry.sessions 0 ≡ b → (b || (session_fits entry.row && user_fits entry.row entry.sessions)) ≡ true → entry_fits (entry_with one_less entry) ≡ true
    go true t e =
        let zero_now : entry.sessions ≡ 0 = eqb-true entry.sessions 0 t in
        let none : nat_eq (entry.sessions - 1) 0 ≡ true = eq-eqb (entry.sessions - 1) 0 (omega arith) in
        ap (λ b. b || (session_fits entry.row && user_fits entry.row (entry.sessions - 1))) none
    go false t e =
        let parts = and_parts _ _ e in
        or_right (nat_eq (entry.sessions - 1) 0) (session_fits entry.row && user_fits entry.row (entry.sessions - 1))
        (both (session_fits entry.row) (user_fits entry.row (entry.sessions - 1)) parts.0 (less_user entry.row entry.sessions parts.1))

module _ (p : Promises) (user : ℕ) (fit : PromisesFit p) where
  less_entry : (entry : UserSessions) → entry_fits entry ≡ true → entry_fits (with_sessions one_less user entry) ≡ true
  less_entry entry e = elim (nat_eq (user_key entry) user) as (λ b. entry_fits (cond b (entry_with one_less entry) entry) ≡ true) [ true ↦ less_fits entry e | false ↦ e ]

  less_promised : (w : Way) (entry : UserSessions) → promised_user w (with_sessions one_less user entry) ≤ promised_user w entry
  less_promised w entry = elim (nat_eq (user_key entry) user) as (λ b. promised_user w (cond b (entry_with one_less entry) entry) ≤ promised_user w entry) [ true ↦ less_times entry.sessions (floor_in entry.row w) | false ↦ omega arith ]

  abbrev group_part : Way → ℕ → UserSessions → ℕ
  group_part w g entry = cond (is_number entry.row.group g) (promised_user w entry) 0

  less_group : (w : Way) (g : ℕ) (entry : UserSessions) → group_part w g (with_sessions one_less user entry) ≤ group_part w g entry
  less_group w g entry = elim (nat_eq (user_key entry) user) as (λ b. group_part w g (cond b (entry_with one_less entry) entry) ≤ group_part w g entry) [ true ↦ go (is_number entry.row.group g) | false ↦ omega arith ]
    where
      go : (b : Bool) → cond b ((entry.sessions - 1) * floor_in entry.row w) 0 ≤ cond b (entry.sessions * floor_in entry.row w) 0
      go true = less_times entry.sessions (floor_in entry.row w)
      go false = omega arith

  line_less : (w : Way) → promised (released p user).users w ≤ promised p.users w
  line_less w = sum_of_mapped (promised_user w) (with_sessions one_less user) p.users (less_promised w)

  group_less : (w : Way) (g : ℕ) → promised_group (released p user).users w g ≤ promised_group p.users w g
  group_less w g = sum_of_mapped (group_part w g) (with_sessions one_less user) p.users (less_group w g)

  pub fit_less : PromisesFit (released p user)
  fit_less = record {
    rows = same_rows one_less user p fit;
    rising = still_rising one_less user p fit;
    users = all_mapped (λ entry. entry_fits entry ≡ true) (λ entry. entry_fits entry ≡ true) (with_sessions one_less user) p.users less_entry fit.users;
    groups = λ g.
        let parts = and_parts _ _ (fit.groups g) in
        both _ _
        (keeps_less (promised_group (released p user).users Down g) (promised_group p.users Down g) (group_rate (finite.get p.rates.groups g) Down) (group_less Down g) parts.0)
        (keeps_less (promised_group (released p user).users Up g) (promised_group p.users Up g) (group_rate (finite.get p.rates.groups g) Up) (group_less Up g) parts.1);
    line =
        let parts = and_parts _ _ fit.line in
        let ways = and_parts _ _ parts.0 in
        let down = line_less Down in
        let up = line_less Up in
        both _ _
        (both _ _
        (keeps_less (promised (released p user).users Down) (promised p.users Down) p.rates.down down ways.0)
        (keeps_less (promised (released p user).users Up) (promised p.users Up) p.rates.up up ways.1))
        (keeps_less (promised (released p user).users Down + promised (released p user).users Up) (promised p.users Down + promised p.users Up) p.rates.server (omega arith) parts.1);
  }

  -- one session more
  module _ (entry : UserSessions) (at : user_of p user ≡ Some entry) (admitted : fits (counted p user) (Some entry) ≡ true) where
    key : user_key entry ≡ user
    key = (first_contains user_key user p.users entry (sym (get-by_number user_key user p.users) ∙ at)).1

    place : (i : ℕ) × IsAt user_key p.users (user_key entry) i × ((d : UserSessions) → get_or p.users i d ≡ entry)
    place = user_at p.users entry fit.rising (ap (finite.get (by_number user_key p.users)) key ∙ at)

    own : (session_fits entry.row && user_fits entry.row (entry.sessions + 1) && group_fits (counted p user) entry.row.group && line_fits (counted p user)) ≡ true
    own = (and_parts _ _ admitted).1

    under_group : (session_fits entry.row && user_fits entry.row (entry.sessions + 1) && group_fits (counted p user) entry.row.group) ≡ true
    under_group = (and_parts _ _ own).0

    under_user : (session_fits entry.row && user_fits entry.row (entry.sessions + 1)) ≡ true
    under_user = (and_parts _ _ under_group).0

    stands : IsAt user_key p.users user place.0
    stands = subst (λ (u : ℕ). IsAt user_key p.users u place.0) key place.1

    users_are : map (with_sessions one_more user) p.users ≡ set p.users place.0 (entry_with one_more entry)
    users_are = users-set p.users user place.0 entry fit.rising stands one_more ∙ ap (λ (x : UserSessions). set p.users place.0 (entry_with one_more x)) (place.2 entry)

    more_fits : entry_fits (entry_with one_more entry) ≡ true
    more_fits = or_right (nat_eq (entry.sessions + 1) 0) (session_fits entry.row && user_fits entry.row (entry.sessions + 1)) (both (session_fits entry.row) (user_fits entry.row (entry.sessions + 1)) (and_parts _ _ under_user).0 (and_parts _ _ under_user).1)

    same_group : (g : ℕ) → is_number entry.row.group g ≡ false → (w : Way) → promised_group (counted p user).users w g ≡ promised_group p.users w g
    same_group g other w =
        let more = group-more p.users user place.0 entry fit.rising stands w g false (ap (λ (x : UserSessions). is_number x.row.group g) (place.2 entry) ∙ other) in
        more ∙ omega arith

    group_after : (g : ℕ) (b : Bool) → is_number entry.row.group g ≡ b → group_fits (counted p user) (Some g) ≡ true
    group_after g true e = go entry.row.group e (and_parts _ _ under_group).1
      where
        go : (o : Option ℕ) → is_number o g ≡ true → group_fits (counted p user) o ≡ true → group_fits (counted p user) (Some g) ≡ true
        go None t f = absurd (cc)
        go (Some h) t f = subst (λ (n : ℕ). group_fits (counted p user) (Some n) ≡ true) (eqb-true h g t) f
    group_after g false e =
        ap (λ (n : ℕ). keeps n (group_rate (finite.get p.rates.groups g) Down) && keeps (promised_group (counted p user).users Up g) (group_rate (finite.get p.rates.groups g) Up)) (same_group g e Down)
        ∙ ap (λ (n : ℕ). keeps (promised_group p.users Down g) (group_rate (finite.get p.rates.groups g) Down) && keeps n (group_rate (finite.get p.rates.groups g) Up)) (same_group g e Up)
        ∙ fit.groups g

    more_counted : PromisesFit (counted p user)
    more_counted = record {
      rows = same_rows one_more user p fit;
      rising = still_rising one_more user p fit;
      users = subst (All (λ (x : UserSessions). entry_fits x ≡ true)) (sym users_are) (All-set (λ (x : UserSessions). entry_fits x ≡ true) p.users place.0 (entry_with one_more entry) more_fits fit.users);
      groups = λ g. group_after g (is_number entry.row.group g) refl;
      line = (and_parts _ _ own).1;
    }

  pub fit_more : admits p user ≡ true → PromisesFit (counted p user)
  fit_more admitted = go (user_of p user) refl admitted
    where
      go : (o : Option UserSessions) → user_of p user ≡ o → fits (counted p user) o ≡ true → PromisesFit (counted p user)
      go None at e = subst PromisesFit (sym (unchanged one_more p p.users user refl at)) fit
      go (Some entry) at e = more_counted entry at e

-- no session is counted
pub keeps_nothing : (n rate : ℕ) → n ≡ 0 → keeps n rate ≡ true
keeps_nothing n rate e = or_right (nat_eq rate 0) (nat_le n rate) (le-leb n rate (omega arith))

pub fit_none : (share_by : ShareBy) (server down up : ℕ) (groups : List GroupPromise) (users : List UserRate) → IsRising user_number users → PromisesFit (seen share_by server down up groups (map no_session users))
fit_none share_by server down up groups users rising = record {
  rows = refl;
  rising = rising_mapped user_number user_key no_session users (λ row. refl) rising;
  users = all_mapped (λ row. ⊤) (λ (x : UserSessions). entry_fits x ≡ true) no_session users (λ row h. refl) (λ k d lt. tt);
  groups = λ g. both _ _ (keeps_nothing (promised_group (map no_session users) Down g) (group_rate (finite.get (seen share_by server down up groups (map no_session users)).rates.groups g) Down) (none_of Down g)) (keeps_nothing (promised_group (map no_session users) Up g) (group_rate (finite.get (seen share_by server down up groups (map no_session users)).rates.groups g) Up) (none_of Up g));
  line = both _ _
      (both _ _ (keeps_nothing (promised (map no_session users) Down) down (none_promised Down users)) (keeps_nothing (promised (map no_session users) Up) up (none_promised Up users)))
      (keeps_nothing (promised (map no_session users) Down + promised (map no_session users) Up) server (let a = none_promised Down users in let b = none_promised Up users in omega arith));
}
  where
    none_of : (w : Way) (g : ℕ) → promised_group (map no_session users) w g ≡ 0
    none_of w g = let le = group_within (map no_session users) w g in let none = none_promised w users in omega arith
