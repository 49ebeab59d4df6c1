-- What counted sessions ask for is guaranteed within the limits of each tick.
use Rattle.std.proofs.Common.{◌≡◌, ◌≢◌, ℕ, suc, ◌+◌, ◌-◌, ◌*◌, ◌/◌, ◌%◌, ◌≤◌, Bool, true, false, ◌&&◌, ◌||◌, cond, List, [], ◌∷◌, map, get_or, sum_by, sym, refl, ap, ◌∙◌, subst, arith, Option, Some, None}
use Rattle.std.specs.FinMap as finite
use Rattle.std.specs.List.{All, Contains}
use Rattle.std.specs.Option.{option_map}
use Rattle.std.specs.Prelude.{nat_eq, nat_le, count_by}
use Rattle.std.proofs.Math.Nat.{mul-le-mul_left, min-le_right}
use Rattle.std.proofs.lemmas.Bool.{and_parts, eqb-true, eq-eqb, leb-true}
use Rattle.std.proofs.lemmas.List.Sums.{sum_by-cons, sum_by-le-sum_by, get_or-le-sum_by}
use Rattle.line_rates.specs.declared.ask.Way.{Way}
use Rattle.line_rates.specs.declared.ask.Way.TheVariants.{Down, Up}
use Rattle.line_rates.specs.declared.ask.Ask.{Ask}
use Rattle.line_rates.specs.declared.ask.Name.{Name}
use Rattle.line_rates.specs.declared.ask.Name.TheVariants.{Server, Direction, Group, User, Session}
use Rattle.line_rates.specs.FloorSums.{FloorsFit, floor_under, floors_under}
use Rattle.line_rates.specs.Names.{same_way, is_number, bears, floor_of}
use Rattle.line_rates.specs.Rates.{Rates, group_in, group_of, user_rate, session_rate, floor_rate, rate_of}
use Rattle.line_rates.specs.Stated.{user_number}
use Rattle.line_rates.specs.Ticks.{share_of, rate_limit}
use Rattle.line_rates.proofs.RowLemmas.{first_row, get-by_number, first_contains}
use Rattle.rate_floors.specs.declared.find.UserSessions.{UserSessions}
use Rattle.rate_floors.specs.Kept.{IsOfCounted, AreOfCounted}
use Rattle.rate_floors.specs.Promises.{Promises, PromisesFit, entry_fits, user_key, user_row, floor_in, promised_user, promised, promised_group, keeps, session_fits, user_fits}
use Rattle.rate_floors.proofs.AskSums.{one_if, sum_of_both, sum_of_times, sum_of_none, sum_of_same, count_less, way_is, few_of_user, few_of_session}

pub keeps_is : (sum rate : ℕ) → keeps sum rate ≡ true → rate ≢ 0 → sum ≤ rate
keeps_is sum rate e some = go (nat_eq rate 0) refl e
  where
    go : (b : Bool) → nat_eq rate 0 ≡ b → (b || nat_le sum rate) ≡ true → sum ≤ rate
    go true t e = absurd (some (eqb-true rate 0 t))
    go false t e = leb-true sum rate e

-- a rate that is a limit, and what it lets through
limited : (rate tick most : ℕ) → rate_limit rate tick ≡ Some most → (rate ≢ 0) × (most ≡ share_of rate tick)
limited rate tick most e = go (nat_eq rate 0) refl e
  where
    go : (b : Bool) → nat_eq rate 0 ≡ b → cond b None (Some (share_of rate tick)) ≡ Some most → (rate ≢ 0) × (most ≡ share_of rate tick)
    go true t e = absurd (cc)
    go false t e = (λ is. let yes = eq-eqb rate 0 is in absurd (cc), cc)

-- each tick lets a tenth of a rate through
tenth_passes : (rate tick sum : ℕ) → 10 * sum ≤ rate → sum ≤ share_of rate tick
tenth_passes rate tick sum le = go (tick % 10)
  where
    go : (k : ℕ) → sum ≤ (k + 1) * rate / 10 - k * rate / 10
    go k = let more : (k + 1) * rate ≡ k * rate + rate = omega arith in omega (arith, more)

row_of : (u : ℕ) (users : List UserSessions) → first_row user_number u (map user_row users) ≡ option_map user_row (first_row user_key u users)
row_of u [] = refl
row_of u (x ∷ xs) = elim (nat_eq (user_key x) u) as (λ b. cond b (Some x.row) (first_row user_number u (map user_row xs)) ≡ option_map user_row (cond b (Some x) (first_row user_key u xs))) [ true ↦ refl | false ↦ row_of u xs ]

both_ways : (v : Way) (n : ℕ) → n ≤ cond (same_way v Down && true) n 0 + cond (same_way v Up && true) n 0
both_ways Down n = omega arith
both_ways Up n = omega arith

and_true : (b : Bool) (n : ℕ) → cond b n 0 ≤ cond (b && true) n 0
and_true true n = omega arith
and_true false n = omega arith

-- a user of the asks, in one way
abbrev of_way : Rates → Way → UserSessions → Ask → Bool
of_way r w entry a = bears r (User w (user_key entry)) a

module _ (p : Promises) (asks : List Ask) (fit : PromisesFit p) (of : AreOfCounted p asks) where
  -- what the session of an ask is guaranteed a second
  abbrev promised_ask : Ask → ℕ
  promised_ask a = floor_rate (finite.get p.rates.users a.user) a.way

  abbrev promised_under : Name → Ask → ℕ
  promised_under n a = cond (bears p.rates n a) (promised_ask a) 0

  row_is : (u : ℕ) → finite.get p.rates.users u ≡ option_map user_row (first_row user_key u p.users)
  row_is u = ap (λ m. finite.get m u) fit.rows ∙ get-by_number user_number u (map user_row p.users) ∙ row_of u p.users

  few : (entry : UserSessions) → IsOfCounted asks entry → (w : Way) → count_by (of_way p.rates w entry) asks ≤ entry.sessions
  few entry h w = let most = h.few in let less = few_of_user p.rates asks of.once w (user_key entry) h.sessions h.each in omega arith

  -- Of the asks of one way and of some users, and of these users' counted sessions.
  module _ (w : Way) (is_of : Ask → Bool) (is_in : UserSessions → Bool) (same : (a : Ask) (entry : UserSessions) → first_row user_key a.user p.users ≡ Some entry → is_of a ≡ is_in entry) where
    abbrev ask_part : Ask → ℕ
    ask_part a = cond (same_way a.way w && is_of a) (promised_ask a) 0

    -- what an ask has of an entry
    abbrev share : UserSessions → Ask → ℕ
    share entry a = cond (of_way p.rates w entry a && is_in entry) (floor_in entry.row w) 0

    abbrev shares : List UserSessions → Ask → ℕ
    shares users a = sum_by (λ entry. share entry a) users

    abbrev entry_part : UserSessions → ℕ
    entry_part entry = cond (is_in entry) (promised_user w entry) 0

    at_entry : (a : Ask) (entry : UserSessions) → a.way ≡ w → is_of a ≡ true → first_row user_key a.user p.users ≡ Some entry → promised_ask a ≤ shares p.users a
    at_entry a entry is_way is_user at =
        let found = first_contains user_key a.user p.users entry at in
        let value : promised_ask a ≡ floor_in entry.row w = ap (λ o. floor_rate o a.way) (row_is a.user) ∙ ap (λ o. floor_rate (option_map user_row o) a.way) at ∙ ap (floor_in entry.row) is_way in
        let way : same_way a.way w ≡ true = ap (λ v. same_way v w) is_way ∙ itself w in
        let user : nat_eq a.user (user_key entry) ≡ true = eq-eqb a.user (user_key entry) (sym found.1) in
        let all : (of_way p.rates w entry a && is_in entry) ≡ true = ap (λ b. b && nat_eq a.user (user_key entry) && is_in entry) way ∙ ap (λ b. b && is_in entry) user ∙ sym (same a entry at) ∙ is_user in
        let here : share entry a ≡ floor_in entry.row w = ap (λ b. cond b (floor_in entry.row w) 0) all in
        let least : share (get_or p.users found.0.0 entry) a ≤ shares p.users a = get_or-le-sum_by (λ x. share x a) p.users found.0.0 entry found.0.1 in
        let most : share entry a ≤ shares p.users a = subst (λ (x : UserSessions). share x a ≤ shares p.users a) found.0.2 least in
        omega arith
      where
        itself : (v : Way) → same_way v v ≡ true
        itself Down = refl
        itself Up = refl

    at_row : (a : Ask) (o : Option UserSessions) → first_row user_key a.user p.users ≡ o → (b : Bool) → (same_way a.way w && is_of a) ≡ b → cond b (promised_ask a) 0 ≤ shares p.users a
    at_row a o at false e = omega arith
    at_row a None at true e =
        let value : promised_ask a ≡ 0 = ap (λ x. floor_rate x a.way) (row_is a.user) ∙ ap (λ x. floor_rate (option_map user_row x) a.way) at in omega arith
    at_row a (Some entry) at true e = let parts = and_parts _ _ e in at_entry a entry (way_is a.way w parts.0) parts.1 at

    counted_of : (entry : UserSessions) → IsOfCounted asks entry → (b : Bool) → is_in entry ≡ b → count_by (λ a. of_way p.rates w entry a && b) asks ≤ cond b entry.sessions 0
    counted_of entry h true e = let le = count_less (λ a. of_way p.rates w entry a && true) (of_way p.rates w entry) asks (λ a. less (of_way p.rates w entry a)) in let most = few entry h w in omega arith
      where
        less : (x : Bool) → one_if (x && true) ≤ one_if x
        less true = omega arith
        less false = omega arith
    counted_of entry h false e = omega (arith, sum_of_none (λ a. one_if (of_way p.rates w entry a && false)) asks (λ a. none (of_way p.rates w entry a)))
      where
        none : (x : Bool) → one_if (x && false) ≡ 0
        none true = refl
        none false = refl

    entry_share : (entry : UserSessions) → IsOfCounted asks entry → (b : Bool) → is_in entry ≡ b → sum_by (λ a. cond (of_way p.rates w entry a && b) (floor_in entry.row w) 0) asks ≤ cond b (promised_user w entry) 0
    entry_share entry h b e = go b (counted_of entry h b e) (sum_of_same (λ a. floor_in entry.row w) (λ a. of_way p.rates w entry a && b) (floor_in entry.row w) (λ a t. refl) asks)
      where
        go : (b : Bool) → count_by (λ a. of_way p.rates w entry a && b) asks ≤ cond b entry.sessions 0 → sum_by (λ a. cond (of_way p.rates w entry a && b) (floor_in entry.row w) 0) asks ≡ floor_in entry.row w * count_by (λ a. of_way p.rates w entry a && b) asks
            → sum_by (λ a. cond (of_way p.rates w entry a && b) (floor_in entry.row w) 0) asks ≤ cond b (promised_user w entry) 0
        go true le is = let more = mul-le-mul_left (floor_in entry.row w) le in omega arith
        go false le is = let more = mul-le-mul_left (floor_in entry.row w) le in omega arith

    all_shares : (users : List UserSessions) → All (IsOfCounted asks) users → sum_by (shares users) asks ≤ sum_by entry_part users
    all_shares [] h = let none : sum_by (shares []) asks ≡ 0 = sum_of_none (shares []) asks (λ a. refl) in omega arith
    all_shares (entry ∷ users) h =
        let split : sum_by (shares (entry ∷ users)) asks ≤ sum_by (λ a. share entry a + shares users a) asks =
        sum_by-le-sum_by (shares (entry ∷ users)) (λ a. share entry a + shares users a) asks (λ a. let e = sum_by-cons (λ x. share x a) entry users in omega arith) in
        let first : sum_by (share entry) asks ≤ entry_part entry = entry_share entry (h 0 entry (omega arith)) (is_in entry) refl in
        let rest : sum_by (shares users) asks ≤ sum_by entry_part users = all_shares users (λ k d lt. h (suc k) d (omega arith)) in
        omega (arith, sum_of_both (share entry) (shares users) asks, sum_by-cons entry_part entry users)

    pub asks_within : sum_by ask_part asks ≤ sum_by entry_part p.users
    asks_within =
        let each : sum_by ask_part asks ≤ sum_by (shares p.users) asks = sum_by-le-sum_by ask_part (shares p.users) asks (λ a. at_row a (first_row user_key a.user p.users) refl (same_way a.way w && is_of a) refl) in
        let all = all_shares p.users of.few in
        omega arith

  abbrev under : Name → ℕ
  under n = sum_by (promised_under n) asks

  all_of_way : (w : Way) → sum_by (λ a. cond (same_way a.way w && true) (promised_ask a) 0) asks ≤ promised p.users w
  all_of_way w = asks_within w (λ a. true) (λ entry. true) (λ a entry at. refl)

  server_within : under Server ≤ promised p.users Down + promised p.users Up
  server_within =
      let each = sum_by-le-sum_by (promised_under Server) (λ a. cond (same_way a.way Down && true) (promised_ask a) 0 + cond (same_way a.way Up && true) (promised_ask a) 0) asks (λ a. both_ways a.way (promised_ask a)) in
      let split = sum_of_both (λ a. cond (same_way a.way Down && true) (promised_ask a) 0) (λ a. cond (same_way a.way Up && true) (promised_ask a) 0) asks in
      let down = all_of_way Down in let up = all_of_way Up in
      omega arith

  way_within : (w : Way) → under (Direction w) ≤ promised p.users w
  way_within w =
      let each = sum_by-le-sum_by (promised_under (Direction w)) (λ a. cond (same_way a.way w && true) (promised_ask a) 0) asks (λ a. and_true (same_way a.way w) (promised_ask a)) in
      let all = all_of_way w in
      omega arith

  group_within : (w : Way) (g : ℕ) → under (Group w g) ≤ promised_group p.users w g
  group_within w g = asks_within w (λ a. is_number (group_of p.rates a.user) g) (λ entry. is_number entry.row.group g) (λ a entry at. ap (λ o. is_number (group_in o) g) (row_is a.user ∙ ap (option_map user_row) at))

  -- an ask of a user, and of a session
  of_row : (w : Way) (u : ℕ) (entry : UserSessions) → first_row user_key u p.users ≡ Some entry → (a : Ask) → bears p.rates (User w u) a ≡ true → promised_ask a ≡ floor_in entry.row w
  of_row w u entry at a e =
      let parts = and_parts _ _ e in
      ap (λ v. floor_rate (finite.get p.rates.users v) a.way) (eqb-true a.user u parts.1)
      ∙ ap (λ o. floor_rate o a.way) (row_is u ∙ ap (option_map user_row) at)
      ∙ ap (floor_in entry.row) (way_is a.way w parts.0)

  module _ (w : Way) (u : ℕ) (entry : UserSessions) (at : first_row user_key u p.users ≡ Some entry) where
    entry_at : Contains p.users entry × (user_key entry ≡ u)
    entry_at = first_contains user_key u p.users entry at

    few_asks : count_by (bears p.rates (User w u)) asks ≤ entry.sessions
    few_asks =
        let h : IsOfCounted asks entry = subst (IsOfCounted asks) entry_at.0.2 (of.few entry_at.0.0 entry entry_at.0.1) in
        subst (λ (v : ℕ). count_by (bears p.rates (User w v)) asks ≤ entry.sessions) entry_at.1 (few entry h w)

    entry_kept : entry_fits entry ≡ true
    entry_kept = subst (λ (x : UserSessions). entry_fits x ≡ true) entry_at.0.2 (fit.users entry_at.0.0 entry entry_at.0.1)

    user_sum : under (User w u) ≡ floor_in entry.row w * count_by (bears p.rates (User w u)) asks
    user_sum = sum_of_same promised_ask (bears p.rates (User w u)) (floor_in entry.row w) (of_row w u entry at) asks

    session_sum : (s : ℕ) → under (Session w u s) ≡ floor_in entry.row w * count_by (bears p.rates (Session w u s)) asks
    session_sum s = sum_of_same promised_ask (bears p.rates (Session w u s)) (floor_in entry.row w) (λ a e. of_row w u entry at a (shorter (same_way a.way w) (nat_eq a.user u) (nat_eq a.session s) e)) asks
      where
        shorter : (x y z : Bool) → (x && (y && z)) ≡ true → (x && y) ≡ true
        shorter false y z e = absurd (cc)
        shorter true false z e = absurd (cc)
        shorter true true z e = refl

    -- with no session counted there is no ask
    user_fit : entry.sessions ≢ 0 → (session_fits entry.row ≡ true) × (user_fits entry.row entry.sessions ≡ true)
    user_fit some = go (nat_eq entry.sessions 0) refl entry_kept
      where
        go : (b : Bool) → nat_eq entry.sessions 0 ≡ b → (b || (session_fits entry.row && user_fits entry.row entry.sessions)) ≡ true → (session_fits entry.row ≡ true) × (user_fits entry.row entry.sessions ≡ true)
        go true t e = absurd (some (eqb-true entry.sessions 0 t))
        go false t e = and_parts _ _ e

    user_rate_is : rate_of p.rates (User w u) ≡ user_rate (Some entry.row) w
    user_rate_is = ap (λ o. user_rate o w) (row_is u ∙ ap (option_map user_row) at)

    session_rate_is : (s : ℕ) → rate_of p.rates (Session w u s) ≡ session_rate (Some entry.row) w
    session_rate_is s = ap (λ o. session_rate o w) (row_is u ∙ ap (option_map user_row) at)

    user_keeps : (v : Way) → user_fits entry.row entry.sessions ≡ true → keeps (entry.sessions * floor_in entry.row v) (user_rate (Some entry.row) v) ≡ true
    user_keeps Down e = (and_parts _ _ e).0
    user_keeps Up e = (and_parts _ _ e).1

    session_keeps : (v : Way) → session_fits entry.row ≡ true → keeps (floor_in entry.row v) (session_rate (Some entry.row) v) ≡ true
    session_keeps Down e = (and_parts _ _ e).0
    session_keeps Up e = (and_parts _ _ e).1

    none_asked : entry.sessions ≡ 0 → (n : ℕ) → n ≤ count_by (bears p.rates (User w u)) asks → floor_in entry.row w * n ≡ 0
    none_asked e n le = let most = few_asks in let none : n ≡ 0 = omega arith in ap (λ (k : ℕ). floor_in entry.row w * k) none ∙ omega arith

    user_within : rate_of p.rates (User w u) ≢ 0 → under (User w u) ≤ rate_of p.rates (User w u)
    user_within some = go (nat_eq entry.sessions 0) refl
      where
        go : (b : Bool) → nat_eq entry.sessions 0 ≡ b → under (User w u) ≤ rate_of p.rates (User w u)
        go true t = let sum = user_sum in let none = none_asked (eqb-true entry.sessions 0 t) (count_by (bears p.rates (User w u)) asks) (omega arith) in omega arith
        go false t =
            let fits = user_fit (λ e. let yes = eq-eqb entry.sessions 0 e in absurd (cc)) in
            let rate = user_rate_is in
            let le = keeps_is (entry.sessions * floor_in entry.row w) (user_rate (Some entry.row) w) (user_keeps w fits.1) (λ e. some (rate ∙ e)) in
            let most = mul-le-mul_left (floor_in entry.row w) few_asks in
            let sum = user_sum in
            omega arith

    session_within : (s : ℕ) → rate_of p.rates (Session w u s) ≢ 0 → under (Session w u s) ≤ rate_of p.rates (Session w u s)
    session_within s some = go (nat_eq entry.sessions 0) refl
      where
        go : (b : Bool) → nat_eq entry.sessions 0 ≡ b → under (Session w u s) ≤ rate_of p.rates (Session w u s)
        go true t = let sum = session_sum s in let none = none_asked (eqb-true entry.sessions 0 t) (count_by (bears p.rates (Session w u s)) asks) (few_of_session p.rates asks of.once w u s) in omega arith
        go false t =
            let fits = user_fit (λ e. let yes = eq-eqb entry.sessions 0 e in absurd (cc)) in
            let rate = session_rate_is s in
            let le = keeps_is (floor_in entry.row w) (session_rate (Some entry.row) w) (session_keeps w fits.0) (λ e. some (rate ∙ e)) in
            let most = mul-le-mul_left (floor_in entry.row w) (of.once w u s) in
            let sum = session_sum s in
            omega arith

  -- what is promised under a name that has a limit is within its rate
  within : (n : Name) → rate_of p.rates n ≢ 0 → under n ≤ rate_of p.rates n
  within Server some =
      let sums : keeps (promised p.users Down + promised p.users Up) p.rates.server ≡ true = (and_parts _ _ fit.line).1 in
      let le = keeps_is (promised p.users Down + promised p.users Up) p.rates.server sums some in
      let all = server_within in
      omega arith
  within (Direction w) some = let all = way_within w in let le = keeps_is (promised p.users w) (rate_of p.rates (Direction w)) (line w) some in omega arith
    where
      line : (v : Way) → keeps (promised p.users v) (rate_of p.rates (Direction v)) ≡ true
      line Down = (and_parts _ _ (and_parts _ _ fit.line).0).0
      line Up = (and_parts _ _ (and_parts _ _ fit.line).0).1
  within (Group w g) some = let all = group_within w g in let le = keeps_is (promised_group p.users w g) (rate_of p.rates (Group w g)) (group w) some in omega arith
    where
      group : (v : Way) → keeps (promised_group p.users v g) (rate_of p.rates (Group v g)) ≡ true
      group Down = (and_parts _ _ (fit.groups g)).0
      group Up = (and_parts _ _ (fit.groups g)).1
  within (User w u) some = go (first_row user_key u p.users) refl
    where
      go : (o : Option UserSessions) → first_row user_key u p.users ≡ o → under (User w u) ≤ rate_of p.rates (User w u)
      go None at = absurd (some (ap (λ o. user_rate o w) (row_is u ∙ ap (option_map user_row) at)))
      go (Some entry) at = user_within w u entry at some
  within (Session w u s) some = go (first_row user_key u p.users) refl
    where
      go : (o : Option UserSessions) → first_row user_key u p.users ≡ o → under (Session w u s) ≤ rate_of p.rates (Session w u s)
      go None at = absurd (some (ap (λ o. session_rate o w) (row_is u ∙ ap (option_map user_row) at)))
      go (Some entry) at = session_within w u entry at s some

  tenth : (a : Ask) (n : Name) → 10 * floor_under p.rates n a ≤ promised_under n a
  tenth a n = go (bears p.rates n a)
    where
      go : (b : Bool) → 10 * cond b (floor_of p.rates a) 0 ≤ cond b (promised_ask a) 0
      go true = let le = min-le_right a.want (promised_ask a / 10) in omega arith
      go false = omega arith

  pub kept : (tick : ℕ) → FloorsFit p.rates tick asks
  kept tick n most e =
      let rate = limited (rate_of p.rates n) tick most e in
      let all = within n rate.0 in
      let tenths = sum_by-le-sum_by (λ a. 10 * floor_under p.rates n a) (promised_under n) asks (λ a. tenth a n) in
      let times = sum_of_times 10 (floor_under p.rates n) asks in
      let le = tenth_passes (rate_of p.rates n) tick (floors_under p.rates n asks) (omega arith) in
      let is = rate.1 in
      omega arith
