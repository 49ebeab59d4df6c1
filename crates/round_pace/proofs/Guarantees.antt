-- A round is offered what counted sessions are guaranteed.
use Rattle.std.proofs.Common.{◌≡◌, ◌≢◌, ℕ, suc, ◌+◌, ◌*◌, ◌/◌, ◌<◌, ◌≤◌, Bool, true, false, cond, List, [], ◌∷◌, length, map, get_or, sym, refl, ap, ◌∙◌, subst, arith, Option, Some, None}
use Rattle.std.specs.Prelude.{max, min, nat_eq}
use Rattle.std.specs.FinMap as finite
use Rattle.std.specs.FinMap.{same_map, nat_cmp-IsAntisymmetric}
use Rattle.std.specs.Cmp.{nat_cmp_total}
use Rattle.std.specs.List.{All}
use Rattle.std.proofs.lemmas.Bool.{eqb-true, eqb-false}
use Rattle.std.proofs.Math.Nat.{mul-le-mul_left}
use Rattle.line_rates.specs.declared.ask.Ask.{Ask}
use Rattle.line_rates.specs.declared.ask.Name.{Name}
use Rattle.line_rates.specs.declared.ask.Name.TheVariants.{Server, Direction, Group, User, Session}
use Rattle.line_rates.specs.declared.ask.Way.{Way}
use Rattle.line_rates.specs.declared.ask.Way.TheVariants.{Down, Up}
use Rattle.line_rates.specs.declared.row.UserRate.{UserRate}
use Rattle.line_rates.specs.Rates.{Rates, Users, way_of, group_rate, user_rate, session_rate, rate_of, floor_rate as stated_floor}
use Rattle.line_rates.specs.Names.{is_number}
use Rattle.line_rates.specs.Stated.{by_number, user_number}
use Rattle.line_rates.proofs.RowLemmas.{first_row, get-by_number, first_contains}
use Rattle.rate_floors.specs.declared.find.UserSessions.{UserSessions}
use Rattle.rate_floors.specs.Carried.{carried_entry, carried_to, sessions_in, sessions_of}
use Rattle.rate_floors.specs.Kept.{IsOfCounted, AreOfCounted, PromisesAreKept}
use Rattle.rate_floors.specs.Promises.{Promises, PromisesFit, user_key, user_row}
use Rattle.rate_floors.proofs.PlaceLemmas.{all_mapped, rising_mapped}
use Rattle.round_pace.specs.declared.credit.Credit.{Credit}
use Rattle.round_pace.specs.declared.paced.UserPace.{UserPace}
use Rattle.round_pace.specs.Earned.{as_rate}
use Rattle.round_pace.specs.FloorsFit.{parts_left, part_share, floor_in}
use Rattle.round_pace.specs.Guaranteed.{AreCounted, IsGuaranteed, owed_in_row, owed_to, parts_in_row, parts_for}
use Rattle.round_pace.specs.Histories.{rates_of, stated_user}
use Rattle.round_pace.specs.Offered.{credit_rate, floor_rate, offer_round, owed_of, line_parts, user_parts, refill_all}
use Rattle.round_pace.specs.Paced.{Paced, group_key, pace_number}
use Rattle.round_pace.specs.Rows.{floor_of, group_credit as group_now, group_row_credit}
use Rattle.round_pace.specs.Spent.{credit_of}
use Rattle.round_pace.specs.PromisesOffered.{Lefts, Owed, HasParts, IsOwed, IsOffered, offered_row, offered_entry}
use Rattle.round_pace.proofs.Credited.{over, first_over, the_group, the_user, user_credit, session_credit, credit_under, row_handed, user_handed}
use Rattle.round_pace.proofs.Holding.{handed, good_offered, rate_offered, same_groups}
use Rattle.round_pace.proofs.Promised.{owed_fits, left_parts_fit}
use Rattle.round_pace.proofs.RowValues.{values_of_rows, found_at}
use Rattle.round_pace.proofs.Starting.{Good, group_same}
use Rattle.round_pace.proofs.StatedRates.{rates_offered}

-- at least the earnings of some parts of ticks: what is left, if it is as much
as_topped : (rate left parts : ℕ) → (rate ≢ 0 → part_share rate parts ≤ left) → as_rate rate left ≡ as_rate rate (max left (part_share rate parts))
as_topped rate left parts earns = go (nat_eq rate 0) refl
  where
    same : (x y : ℕ) → y ≤ x → x ≡ max x y
    same x y h = omega arith

    go : (b : Bool) → nat_eq rate 0 ≡ b → cond b 0 (10 * left + 1) ≡ cond b 0 (10 * max left (part_share rate parts) + 1)
    go true e = refl
    go false e = ap (λ (x : ℕ). 10 * x + 1) (same left (part_share rate parts) (earns (eqb-false rate 0 e)))

stays_limit : (rate left : ℕ) → rate ≢ 0 → as_rate rate left ≢ 0
stays_limit rate left some = go (nat_eq rate 0) refl
  where
    go : (b : Bool) → nat_eq rate 0 ≡ b → cond b 0 (10 * left + 1) ≢ 0
    go true e = absurd (some (eqb-true rate 0 e))
    go false e = λ none. omega (arith, none)

-- the octets that are handed in for the guarantee of each session of a user
abbrev handed_octets : Way → Paced → Option UserPace → ℕ
handed_octets w p None = 0
handed_octets w p (Some x) = floor_in (floor_of w x.row) (owed_of w x) (user_parts w (line_parts w p) p.groups x)

min-first : (a b : ℕ) → min a b ≤ a
min-first a b = omega arith

min-second : (a b : ℕ) → min a b ≤ b
min-second a b = omega arith

through : (a b c : ℕ) → a ≤ b → b ≤ c → a ≤ c
through a b c h k = omega (arith, h, k)

-- a guarantee is handed in for no more parts of ticks than some number that is not below
within_share : (floor owed k l : ℕ) → k ≤ l → floor_in floor owed k ≤ part_share floor l
within_share floor owed k l less =
    let m : floor * k ≤ floor * l = mul-le-mul_left floor less in
    let e : floor * l ≡ l * floor = turned floor l in
    plain owed (floor * k) (floor * l) (l * floor) m e
  where
    turned : (x y : ℕ) → x * y ≡ y * x
    turned x y = omega arith

    plain : (o a b c : ℕ) → a ≤ b → b ≡ c → min o (a / 1000) / 500 ≤ c / 500000
    plain o a b c h e = omega (arith, h, e)

some_same : (x y : UserRate) → Some x ≡ Some y → x ≡ y
some_same x y e = ap the e
  where
    the : Option UserRate → UserRate
    the None = x
    the (Some r) = r

in_group_is : (o : Option ℕ) (g : ℕ) → is_number o g ≡ true → o ≡ Some g
in_group_is None g is = absurd (cc)
in_group_is (Some h) g is = ap Some (eqb-true h g is)

row_of : ℕ → Option ℕ → ℕ → ℕ → ℕ → ℕ → ℕ → ℕ → UserRate
row_of user group down up session_down session_up session_down_floor session_up_floor = record {
  user = user;
  group = group;
  down = down;
  up = up;
  session_down = session_down;
  session_up = session_up;
  session_down_floor = session_down_floor;
  session_up_floor = session_up_floor;
}

module _ (rates : Rates) (q : Paced) (t : ℕ) (good : Good rates q) (are : rates_of q ≡ rates) where
  abbrev left_under : Name → ℕ
  left_under n = (credit_under (offer_round t q) n).left

  -- the parts of ticks that each rate has left, for which what is offered of it is enough
  abbrev parts_under : Name → ℕ
  parts_under n = parts_left (credit_under (offer_round t q) n)

  earns : (n : Name) → rate_of rates n ≢ 0 → part_share (rate_of rates n) (parts_under n) ≤ left_under n
  earns n some =
      let rated : (credit_under (offer_round t q) n).rate ≡ rate_of rates n = (good_offered rates q t good).rated n in
      subst (λ (x : ℕ). part_share x (parts_under n) ≤ left_under n) rated (left_parts_fit (credit_under (offer_round t q) n) (λ none. some (sym rated ∙ none)))

  abbrev topped : ℕ → Name → ℕ
  topped rate n = max (left_under n) (part_share rate (parts_under n))

  abbrev lefts : Lefts
  lefts = record {
    server = topped rates.server Server;
    way = λ w. topped (way_of rates.down rates.up w) (Direction w);
    group = λ w g. topped (group_rate (finite.get rates.groups g) w) (Group w g);
    user = λ row w. topped (way_of row.down row.up w) (User w row.user);
    session = λ row w. topped (way_of row.session_down row.session_up w) (Session w row.user 0);
  }

  abbrev tops : Lefts
  tops = record {
    server = parts_under Server;
    way = λ w. parts_under (Direction w);
    group = λ w g. parts_under (Group w g);
    user = λ row w. parts_under (User w row.user);
    session = λ row w. parts_under (Session w row.user 0);
  }

  abbrev owed : Owed
  owed row w = handed_octets w (offer_round t q) (the_user (offer_round t q) row.user)

  offers : (n : Name) → rate_of (offer_round t q).offered n ≡ as_rate (rate_of rates n) (topped (rate_of rates n) n)
  offers n = rate_offered rates q t good n ∙ as_topped (rate_of rates n) (left_under n) (parts_under n) (earns n)

  -- users' rows, as stated and as handed in
  stated_at : (u : ℕ) → finite.get rates.users u ≡ over stated_user (the_user (offer_round t q) u)
  stated_at u =
      ap (λ (r : Rates). finite.get r.users u) (sym (rates_offered q t ∙ are))
      ∙ get-by_number user_number u (map stated_user (offer_round t q).users) ∙ first_over pace_number user_number stated_user (λ x. refl) u (offer_round t q).users

  handed_at : (u : ℕ) → finite.get (offer_round t q).offered.users u ≡ over (row_handed (offer_round t q)) (the_user (offer_round t q) u)
  handed_at u = ap (λ (r : Rates). finite.get r.users u) (handed rates q t good) ∙ user_handed u (refill_all t q)

  floors_are : (w : Way) (u : ℕ) → stated_floor (finite.get (offer_round t q).offered.users u) w ≡ floor_rate (stated_floor (finite.get rates.users u) w) (owed_to w u (offer_round t q)) (parts_for w u (offer_round t q))
  floors_are w u =
      ap (λ (o : Option UserRate). stated_floor o w) (handed_at u) ∙ go w (the_user (offer_round t q) u)
      ∙ (λ i. floor_rate (stated_floor (sym (stated_at u) i) w) (owed_in_row w (sym (get-by_number pace_number u (offer_round t q).users) i)) (parts_in_row w (offer_round t q) (sym (get-by_number pace_number u (offer_round t q).users) i)))
    where
      none : (x y z : ℕ) → x ≡ 0 → y ≡ z * x → 0 ≡ 10 * (min 0 (y / 1000) / 500)
      none x y z e f = omega arith

      go : (w : Way) (o : Option UserPace) → stated_floor (over (row_handed (offer_round t q)) o) w ≡ floor_rate (stated_floor (over stated_user o) w) (owed_in_row w o) (parts_in_row w (offer_round t q) o)
      go w None = none 0 (0 * 0) 0 refl refl
      go Down (Some x) = refl
      go Up (Some x) = refl

  -- the row of a user that has one
  module _ (u : ℕ) (x : UserPace) (at : the_user (offer_round t q) u ≡ Some x) where
    number : u ≡ x.row.user
    number = sym (first_contains pace_number u (offer_round t q).users x at).1

    row_at : finite.get rates.users u ≡ Some x.row
    row_at = stated_at u ∙ ap (over stated_user) at

    cell : (n m : Name) (rate : ℕ) (c : Credit) → credit_under (offer_round t q) n ≡ c → rate_of rates n ≡ rate → n ≡ m → credit_rate c ≡ as_rate rate (topped rate m)
    cell n m rate c is rated same =
        ap credit_rate (sym is) ∙ ap (λ (r : ℕ). as_rate r (left_under n)) ((good_offered rates q t good).rated n)
        ∙ as_topped (rate_of rates n) (left_under n) (parts_under n) (earns n) ∙ (λ i. as_rate (rated i) (topped (rated i) (same i)))

    user_cell : (w : Way) (rate : ℕ) (c : Credit) → credit_under (offer_round t q) (User w u) ≡ c → user_rate (Some x.row) w ≡ rate → credit_rate c ≡ as_rate rate (topped rate (User w x.row.user))
    user_cell w rate c is rated = cell (User w u) (User w x.row.user) rate c is (ap (λ (o : Option UserRate). user_rate o w) row_at ∙ rated) (ap (User w) number)

    session_cell : (w : Way) (rate : ℕ) (c : Credit) → credit_under (offer_round t q) (Session w u 0) ≡ c → session_rate (Some x.row) w ≡ rate → credit_rate c ≡ as_rate rate (topped rate (Session w x.row.user 0))
    session_cell w rate c is rated =
        cell (Session w u 0) (Session w x.row.user 0) rate c is (ap (λ (o : Option UserRate). session_rate o w) row_at ∙ rated) (ap (λ (k : ℕ). Session w k 0) number)

    user_under : (w : Way) → credit_under (offer_round t q) (User w u) ≡ user_credit w (Some x)
    user_under w = ap (user_credit w) at

    session_under : (w : Way) → credit_under (offer_round t q) (Session w u 0) ≡ session_credit w (Some x)
    session_under w = ap (session_credit w) at

    floor_cell : (w : Way) → 10 * handed_octets w (offer_round t q) (Some x) ≡ 10 * owed x.row w
    floor_cell w = ap (λ (o : Option UserPace). 10 * handed_octets w (offer_round t q) o) (sym at ∙ ap (the_user (offer_round t q)) number)

    row_offered : row_handed (offer_round t q) x ≡ offered_row owed lefts x.row
    unfolding row_of
    row_offered = λ i. row_of x.row.user x.row.group
        (user_cell Down x.row.down x.down (user_under Down) refl i) (user_cell Up x.row.up x.up (user_under Up) refl i)
        (session_cell Down x.row.session_down x.session_down (session_under Down) refl i) (session_cell Up x.row.session_up x.session_up (session_under Up) refl i)
        (floor_cell Down i) (floor_cell Up i)

    -- what is handed in is within the ticks of each of the user's rates
    parts_are : (w : Way) → user_parts w (line_parts w (offer_round t q)) (offer_round t q).groups x ≡ user_parts w (min (parts_under Server) (parts_under (Direction w))) (offer_round t q).groups x
    parts_are w = refl

    handed_within : (w : Way) (k : ℕ) → user_parts w (line_parts w (offer_round t q)) (offer_round t q).groups x ≤ k → owed x.row w ≤ part_share (floor_of w x.row) k
    handed_within w k less =
        subst (λ (y : ℕ). y ≤ part_share (floor_of w x.row) k) (ap (handed_octets w (offer_round t q)) (sym at ∙ ap (the_user (offer_round t q)) number))
        (within_share (floor_of w x.row) (owed_of w x) (user_parts w (line_parts w (offer_round t q)) (offer_round t q).groups x) k less)

    group_under : (w : Way) (g : ℕ) → x.row.group ≡ Some g → parts_left (group_now w (offer_round t q).groups x.row.group) ≡ parts_under (Group w g)
    group_under w g is =
        ap (λ (o : Option ℕ). parts_left (group_now w (offer_round t q).groups o)) is
        ∙ ap (λ o. parts_left (group_row_credit w o)) (get-by_number group_key g (offer_round t q).groups)
        ∙ ap parts_left (group_same w (the_group (offer_round t q) g))

    user_is : (w : Way) → parts_left (credit_of w x.down x.up) ≡ tops.user x.row w
    user_is w = ap (λ o. parts_left (user_credit w o)) (sym at ∙ ap (the_user (offer_round t q)) number)

    session_is : (w : Way) → parts_left (credit_of w x.session_down x.session_up) ≡ tops.session x.row w
    session_is w = ap (λ o. parts_left (session_credit w o)) (sym at ∙ ap (the_user (offer_round t q)) number)

    parts : (s w g u k : ℕ) → (min (min (min s w) g) (min u k) ≤ s) × (min (min (min s w) g) (min u k) ≤ w) × (min (min (min s w) g) (min u k) ≤ g) × (min (min (min s w) g) (min u k) ≤ u) × (min (min (min s w) g) (min u k) ≤ k)
    parts s w g u k = (omega arith, omega arith, omega arith, omega arith, omega arith)

    abbrev own_parts : Way → ℕ
    own_parts w = user_parts w (line_parts w (offer_round t q)) (offer_round t q).groups x

    parts_of : (w : Way) → (own_parts w ≤ parts_under Server) × (own_parts w ≤ parts_under (Direction w)) × (own_parts w ≤ parts_left (group_now w (offer_round t q).groups x.row.group))
        × (own_parts w ≤ parts_left (credit_of w x.down x.up)) × (own_parts w ≤ parts_left (credit_of w x.session_down x.session_up))
    parts_of w = parts (parts_under Server) (parts_under (Direction w)) (parts_left (group_now w (offer_round t q).groups x.row.group)) (parts_left (credit_of w x.down x.up)) (parts_left (credit_of w x.session_down x.session_up))

    is_owed : (sessions : ℕ) → IsOwed tops owed (record { row = x.row; sessions = sessions })
    is_owed n = record {
      server = λ w. handed_within w (tops.server) (parts_of w).0;
      way = λ w. handed_within w (tops.way w) (parts_of w).1;
      group = λ w g is. handed_within w (tops.group w g) (subst (λ (k : ℕ). own_parts w ≤ k) (group_under w g (in_group_is x.row.group g is)) (parts_of w).2);
      user = λ w. handed_within w (tops.user x.row w) (subst (λ (k : ℕ). own_parts w ≤ k) (user_is w) (parts_of w).3);
      session = λ w. handed_within w (tops.session x.row w) (subst (λ (k : ℕ). own_parts w ≤ k) (session_is w) (parts_of w).4);
    }

  -- all users' rows, for rows that are those stated
  users_offered : (rows : List UserRate) → rates.users ≡ by_number user_number rows → (offer_round t q).offered.users ≡ by_number user_number (map (offered_row owed lefts) rows)
  users_offered rows stated = same_map nat_cmp_total nat_cmp-IsAntisymmetric (offer_round t q).offered.users (by_number user_number (map row rows)) (λ u. handed_at u ∙ go u (the_user (offer_round t q) u) refl ∙ sym (at u))
    where
      row : UserRate → UserRate
      row = offered_row owed lefts

      at : (u : ℕ) → finite.get (by_number user_number (map row rows)) u ≡ over row (over stated_user (the_user (offer_round t q) u))
      at u =
          get-by_number user_number u (map row rows) ∙ first_over user_number user_number row (λ x. refl) u rows
          ∙ ap (over row) (sym (get-by_number user_number u rows) ∙ ap (λ (m : Users). finite.get m u) (sym stated) ∙ stated_at u)

      go : (u : ℕ) (o : Option UserPace) → the_user (offer_round t q) u ≡ o → over (row_handed (offer_round t q)) o ≡ over row (over stated_user o)
      go u None e = refl
      go u (Some x) e = ap (λ (y : UserRate). Some y) (row_offered u x e)

-- counted sessions
module _ (p : Promises) (q : Paced) (t : ℕ) (good : Good p.rates q) (are : rates_of q ≡ p.rates) (fit : PromisesFit p) where
  abbrev entry : UserSessions → UserSessions
  entry = offered_entry (owed p.rates q t good are) (lefts p.rates q t good are)

  abbrev rows : List UserRate
  rows = map (offered_row (owed p.rates q t good are) (lefts p.rates q t good are)) (map user_row p.users)

  rows_are : (offer_round t q).offered.users ≡ by_number user_number rows
  rows_are = users_offered p.rates q t good are (map user_row p.users) fit.rows

  counted_at : All (λ (e : UserSessions). sessions_of p (user_key e) ≡ e.sessions) p.users
  counted_at k d lt = ap sessions_in (get-by_number user_key (user_key (get_or p.users k d)) p.users ∙ found_at user_key p.users fit.rising k d lt)

  entries_are : (es : List UserSessions) → All (λ (e : UserSessions). sessions_of p (user_key e) ≡ e.sessions) es
      → map (carried_entry p) (map (offered_row (owed p.rates q t good are) (lefts p.rates q t good are)) (map user_row es)) ≡ map entry es
  entries_are [] all = refl
  entries_are (e ∷ es) all = λ i. record { row = (entry e).row; sessions = all 0 e (omega arith) i } ∷ entries_are es (λ k d lt. all (suc k) d (omega arith)) i

  users_are : map (carried_entry p) (finite.values (offer_round t q).offered.users) ≡ map entry p.users
  users_are =
      ap (λ (m : Users). map (carried_entry p) (finite.values m)) rows_are
      ∙ ap (map (carried_entry p)) (values_of_rows user_number rows
      (rising_mapped user_number user_number (offered_row (owed p.rates q t good are) (lefts p.rates q t good are)) (map user_row p.users) (λ x. refl)
      (rising_mapped user_key user_number user_row p.users (λ x. refl) fit.rising)))
      ∙ entries_are p.users counted_at

  sessions_are : (user : ℕ) → sessions_of (carried_to p (offer_round t q).offered) user ≡ sessions_of p user
  sessions_are user =
      ap (λ (us : List UserSessions). sessions_in (finite.get (by_number user_key us) user)) users_are
      ∙ ap sessions_in (get-by_number user_key user (map entry p.users) ∙ first_over user_key user_key entry (λ x. refl) user p.users)
      ∙ go (first_row user_key user p.users) ∙ ap sessions_in (sym (get-by_number user_key user p.users))
    where
      go : (o : Option UserSessions) → sessions_in (over entry o) ≡ sessions_in o
      go None = refl
      go (Some x) = refl

  at_least : (x y : ℕ) → y ≤ max x y
  at_least x y = omega arith

  has_parts : HasParts p (tops p.rates q t good are) (lefts p.rates q t good are)
  has_parts = record {
    server = at_least (left_under p.rates q t good are Server) (part_share p.rates.server (parts_under p.rates q t good are Server));
    way = λ w. at_least (left_under p.rates q t good are (Direction w)) (part_share (way_of p.rates.down p.rates.up w) (parts_under p.rates q t good are (Direction w)));
    group = λ w g. at_least (left_under p.rates q t good are (Group w g)) (part_share (group_rate (finite.get p.rates.groups g) w) (parts_under p.rates q t good are (Group w g)));
    user = λ row w. at_least (left_under p.rates q t good are (User w row.user)) (part_share (way_of row.down row.up w) (parts_under p.rates q t good are (User w row.user)));
    session = λ row w. at_least (left_under p.rates q t good are (Session w row.user 0)) (part_share (way_of row.session_down row.session_up w) (parts_under p.rates q t good are (Session w row.user 0)));
  }

  -- each counted session's row is that of a user of the pace, if there is one
  entry_at : (e : UserSessions) → finite.get p.rates.users e.row.user ≡ Some e.row → (o : Option UserPace) → the_user (offer_round t q) e.row.user ≡ o → IsOwed (tops p.rates q t good are) (owed p.rates q t good are) e
  entry_at e here None at =
      record {
        server = λ w. nothing w (part_share (floor_of w e.row) (parts_under p.rates q t good are Server));
        way = λ w. nothing w (part_share (floor_of w e.row) (parts_under p.rates q t good are (Direction w)));
        group = λ w g is. nothing w (part_share (floor_of w e.row) (parts_under p.rates q t good are (Group w g)));
        user = λ w. nothing w (part_share (floor_of w e.row) (parts_under p.rates q t good are (User w e.row.user)));
        session = λ w. nothing w (part_share (floor_of w e.row) (parts_under p.rates q t good are (Session w e.row.user 0)));
      }
    where
      zero-le : (x : ℕ) → 0 ≤ x
      zero-le x = omega arith

      nothing : (w : Way) (k : ℕ) → owed p.rates q t good are e.row w ≤ k
      nothing w k = subst (λ (o : Option UserPace). handed_octets w (offer_round t q) o ≤ k) (sym at) (zero-le k)
  entry_at e here (Some x) at =
      let same : x.row ≡ e.row = some_same x.row e.row (sym (stated_at p.rates q t good are e.row.user ∙ ap (over stated_user) at) ∙ here) in
      subst (λ (r : UserRate). IsOwed (tops p.rates q t good are) (owed p.rates q t good are) (record { row = r; sessions = e.sessions })) same (is_owed p.rates q t good are e.row.user x at e.sessions)

  all_owed : All (IsOwed (tops p.rates q t good are) (owed p.rates q t good are)) p.users
  all_owed k d lt =
      let e : UserSessions = get_or p.users k d in
      entry_at e (rows_found k d lt) (the_user (offer_round t q) e.row.user) refl
    where
      rows_found : (k : ℕ) (d : UserSessions) → k < length p.users → finite.get p.rates.users (get_or p.users k d).row.user ≡ Some (get_or p.users k d).row
      rows_found k d lt =
          ap (λ (m : Users). finite.get m (get_or p.users k d).row.user) fit.rows
          ∙ get-by_number user_number (get_or p.users k d).row.user (map user_row p.users)
          ∙ first_over user_key user_number user_row (λ x. refl) (get_or p.users k d).row.user p.users
          ∙ ap (over user_row) (found_at user_key p.users fit.rising k d lt)

  is_offered : IsOffered (owed p.rates q t good are) p (lefts p.rates q t good are) (carried_to p (offer_round t q).offered)
  is_offered = record {
    server = offers p.rates q t good are Server;
    down = offers p.rates q t good are (Direction Down);
    up = offers p.rates q t good are (Direction Up);
    groups = λ w g. offers p.rates q t good are (Group w g);
    users = users_are;
    rows = rows_are ∙ ap (by_number user_number) (sym (ap (map user_row) users_are ∙ back p.users));
  }
    where
      back : (es : List UserSessions) → map user_row (map entry es) ≡ map (offered_row (owed p.rates q t good are) (lefts p.rates q t good are)) (map user_row es)
      back [] = refl
      back (e ∷ es) = ap (λ (xs : List UserRate). (entry e).row ∷ xs) (back es)

  fits : PromisesFit (carried_to p (offer_round t q).offered)
  fits = owed_fits (owed p.rates q t good are) p (carried_to p (offer_round t q).offered) (lefts p.rates q t good are) (tops p.rates q t good are) fit has_parts all_owed is_offered

  of_counted : (xs : List Ask) → AreOfCounted p xs → AreOfCounted (carried_to p (offer_round t q).offered) xs
  of_counted xs of = record {
    once = of.once;
    few = subst (All (IsOfCounted xs)) (sym users_are) (all_mapped (IsOfCounted xs) (IsOfCounted xs) entry p.users (λ e h. record { sessions = h.sessions; few = h.few; each = h.each }) of.few);
  }

pub guaranteed : PromisesAreKept → (rates : Rates) (t : ℕ) (q : Paced) → Good rates q → rates_of q ≡ rates → IsGuaranteed rates t q
guaranteed law rates t q good are = record {
  limits = λ n some. subst (λ (x : ℕ). x ≢ 0) (sym (rate_offered rates q t good n)) (stays_limit (rate_of rates n) (credit_under (offer_round t q) n).left some);
  groups = same_groups rates q t good;
  floors = floors_are rates q t good are;
  sessions = λ p counted. sessions_are p q t (good_of p counted) (are_of p counted) counted.fit;
  fit = λ p counted. fits p q t (good_of p counted) (are_of p counted) counted.fit;
  asks = λ p xs counted of at.
      law (carried_to p (offer_round t q).offered) xs (fits p q t (good_of p counted) (are_of p counted) counted.fit)
      (of_counted p q t (good_of p counted) (are_of p counted) counted.fit xs of) at;
}
  where
    good_of : (p : Promises) → AreCounted rates p → Good p.rates q
    good_of p counted = subst (λ (r : Rates). Good r q) (sym counted.rates_are) good

    are_of : (p : Promises) → AreCounted rates p → rates_of q ≡ p.rates
    are_of p counted = are ∙ sym counted.rates_are
