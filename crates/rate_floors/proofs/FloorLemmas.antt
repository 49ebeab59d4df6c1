-- The sums that are kept, beside what the definitions say of one more session.
use Rattle.std.proofs.Common.{◌≡◌, ℕ, ◌+◌, ◌-◌, ◌*◌, ◌<◌, ◌≤◌, ◌^◌, Bool, true, false, ◌&&◌, cond, List, [], ◌∷◌, length, map, get_or, set, sym, refl, ap, ◌∙◌, subst, arith, Option, Some, None}
use Rattle.std.specs.FinMap as finite
use Rattle.std.specs.List.{All}
use Rattle.std.specs.Option.{option_map}
use Rattle.std.specs.Prelude.{nat_eq, ⊤}
use Rattle.std.proofs.lemmas.Bool.{and_parts, leb-true, ltb-true}
use Rattle.std.proofs.lemmas.List.Sums.{sum_by-cons, sum_by-le-sum_by}
use Rattle.line_rates.specs.declared.ask.Way.{Way}
use Rattle.line_rates.specs.declared.ask.Way.TheVariants.{Down, Up}
use Rattle.line_rates.specs.declared.row.GroupRate.{GroupRate}
use Rattle.line_rates.specs.declared.row.UserRate.{UserRate}
use Rattle.line_rates.specs.declared.share_by.ShareBy.{ShareBy}
use Rattle.line_rates.specs.Names.{is_number}
use Rattle.line_rates.specs.Rates.{Rates, shared_by, group_rate}
use Rattle.line_rates.specs.Stated.{by_number, stated, group_number, user_number, IsRising, FitsUser}
use Rattle.line_rates.proofs.RowLemmas.{first_row, get-by_number}
use Rattle.rate_floors.specs.declared.find.GroupPromise.{GroupPromise}
use Rattle.rate_floors.specs.declared.find.UserSessions.{UserSessions}
use Rattle.rate_floors.specs.declared.fits.TheConstants.{MAX_PROMISED}
use Rattle.line_rates.specs.Put.{IsAt}
use Rattle.rate_floors.specs.Promises.{Promises, changed, admits, fits, HasRoom, HasFloors, added, taken, user_key, group_key, user_row, group_row, floor_in, promised_user, promised, promised_group, with_sessions, with_floors, one_more, one_less, counted, user_of, keeps, group_fits, no_session, no_promise, IsInGroup, HasNone, IsPromised, IsReported, seen}
use Rattle.rate_floors.proofs.PlaceLemmas.{all_mapped, rising_mapped, map_none, nowhere}
use Rattle.rate_floors.proofs.SumLemmas.{line_after, group_after, user_within, of_user, entry_with, users-set, promised-less, group-less, reported-more, reported-less, same_rates}

pub group_within : (users : List UserSessions) (w : Way) (g : ℕ) → promised_group users w g ≤ promised users w
group_within users w g = sum_by-le-sum_by (λ entry. cond (is_number entry.row.group g) (promised_user w entry) 0) (promised_user w) users (λ entry. part (is_number entry.row.group g) (promised_user w entry))
  where
    part : (b : Bool) (n : ℕ) → cond b n 0 ≤ n
    part true n = omega arith
    part false n = omega arith

pub record IsAfter (p : Promises) (down up : ℕ) (entry : UserSessions) : Type 0 where
  pub down_after : down + entry.row.session_down_floor ≡ promised (counted p (user_key entry)).users Down
  pub up_after : up + entry.row.session_up_floor ≡ promised (counted p (user_key entry)).users Up
  pub room : down + entry.row.session_down_floor + (up + entry.row.session_up_floor) < 2 ^ 64
  pub down_user : entry.sessions * entry.row.session_down_floor ≤ down
  pub up_user : entry.sessions * entry.row.session_up_floor ≤ up

module _ (p : Promises) (down up : ℕ) (groups : List GroupPromise) (users : List UserSessions) (entry : UserSessions) (same : users ≡ p.users) (reported : IsReported down up groups users) (stands : user_of p (user_key entry) ≡ Some entry) where
  there : finite.get (by_number user_key users) (user_key entry) ≡ Some entry
  there = ap (λ us. finite.get (by_number user_key us) (user_key entry)) same ∙ stands

  fit : FitsUser entry.row
  fit = of_user (λ (x : UserSessions). FitsUser x.row) users entry reported.users_rise there reported.users_fit

  after : (w : Way) → promised users w + floor_in entry.row w ≡ promised (counted p (user_key entry)).users w
  after w = sym (line_after users entry reported.users_rise there w) ∙ ap (λ us. promised (map (with_sessions one_more (user_key entry)) us) w) same

  pub is_after : IsAfter p down up entry
  is_after = record {
    down_after = ap (λ (n : ℕ). n + entry.row.session_down_floor) reported.down_reported ∙ after Down;
    up_after = ap (λ (n : ℕ). n + entry.row.session_up_floor) reported.up_reported ∙ after Up;
    room = let s = reported.small in let a = fit.session_down_floor in let b = fit.session_up_floor in omega arith;
    down_user = let le : promised_user Down entry ≤ promised users Down = user_within users entry reported.users_rise there Down in let e = reported.down_reported in omega arith;
    up_user = let le : promised_user Up entry ≤ promised users Up = user_within users entry reported.users_rise there Up in let e = reported.up_reported in omega arith;
  }

  times_more : (r l : ℕ) → (r + 1) * l ≡ r * l + l
  times_more r l = omega arith

  -- the group at a place
  pub group_room : (i : ℕ) (d : GroupPromise) → i < length groups → ((get_or groups i d).down + entry.row.session_down_floor < 2 ^ 64) × ((get_or groups i d).up + entry.row.session_up_floor < 2 ^ 64)
  group_room i d lt =
      let g = reported.groups_reported i d lt in
      let e = g.down in let f = g.up in let m = reported.down_reported in let n = reported.up_reported in let s = reported.small in let a = fit.session_down_floor in let b = fit.session_up_floor in
      let x = group_within users Down (group_key (get_or groups i d)) in let y = group_within users Up (group_key (get_or groups i d)) in
      (omega arith, omega arith)

  row_of : (g : ℕ) (gs : List GroupPromise) → first_row group_number g (map group_row gs) ≡ option_map group_row (first_row group_key g gs)
  row_of g [] = refl
  row_of g (x ∷ gs) = elim (nat_eq (group_key x) g) as (λ b. cond b (Some x.row) (first_row group_number g (map group_row gs)) ≡ option_map group_row (cond b (Some x) (first_row group_key g gs))) [ true ↦ refl | false ↦ row_of g gs ]

  pub get_row : (g : ℕ) → finite.get (by_number group_number (map group_row groups)) g ≡ option_map group_row (finite.get (by_number group_key groups) g)
  get_row g = get-by_number group_number g (map group_row groups) ∙ row_of g groups ∙ ap (option_map group_row) (sym (get-by_number group_key g groups))

  module _ (rates : p.rates.groups ≡ by_number group_number (map group_row groups)) where
    any_keeps : (n : ℕ) (o : Option GroupRate) (w : Way) → o ≡ None → keeps n (group_rate o w) ≡ true
    any_keeps n o w e = ap (λ x. keeps n (group_rate x w)) e

    pub group_none : HasNone groups entry.row.group → group_fits (counted p (user_key entry)) entry.row.group ≡ true
    group_none none = go entry.row.group none
      where
        go : (o : Option ℕ) → HasNone groups o → group_fits (counted p (user_key entry)) o ≡ true
        go None h = refl
        go (Some g) h =
            let no : finite.get p.rates.groups g ≡ None = ap (λ m. finite.get m g) rates ∙ get_row g ∙ ap (option_map group_row) h in
            ap (λ b. b && keeps (promised_group (counted p (user_key entry)).users Up g) (group_rate (finite.get p.rates.groups g) Up)) (any_keeps (promised_group (counted p (user_key entry)).users Down g) (finite.get p.rates.groups g) Down no)
            ∙ any_keeps (promised_group (counted p (user_key entry)).users Up g) (finite.get p.rates.groups g) Up no

    -- the row and the sums of the user's group, which stands at a place
    pub record InGroup (g : ℕ) (x : GroupPromise) : Type 0 where
      pub key_is : x.row.group ≡ g
      pub row_is : finite.get p.rates.groups g ≡ Some x.row
      pub down_is : promised_group (counted p (user_key entry)).users Down g ≡ x.down + entry.row.session_down_floor
      pub up_is : promised_group (counted p (user_key entry)).users Up g ≡ x.up + entry.row.session_up_floor

    pub in_group : (g i : ℕ) (d : GroupPromise) → entry.row.group ≡ Some g → IsInGroup groups (Some g) i → InGroup g (get_or groups i d)
    in_group g i d e h =
        let x = get_or groups i d in
        let reported_at = reported.groups_reported i d h.0 in
        let sums : (w : Way) → promised_group (counted p (user_key entry)).users w g ≡ promised_group users w g + floor_in entry.row w =
        λ w. ap (λ us. promised_group (map (with_sessions one_more (user_key entry)) us) w g) (sym same) ∙ group_after users entry reported.users_rise there w g e in
        record {
          key_is = h.2 d;
          row_is = ap (λ m. finite.get m g) rates ∙ get_row g ∙ ap (option_map group_row) (h.1 d);
          down_is = sums Down ∙ ap (λ (n : ℕ). n + entry.row.session_down_floor) (ap (promised_group users Down) (sym (h.2 d)) ∙ sym reported_at.down);
          up_is = sums Up ∙ ap (λ (n : ℕ). n + entry.row.session_up_floor) (ap (promised_group users Up) (sym (h.2 d)) ∙ sym reported_at.up);
        }

    pub group_some : (i : ℕ) (d : GroupPromise) → IsInGroup groups entry.row.group i
        → group_fits (counted p (user_key entry)) entry.row.group ≡ (keeps ((get_or groups i d).down + entry.row.session_down_floor) (get_or groups i d).row.down && keeps ((get_or groups i d).up + entry.row.session_up_floor) (get_or groups i d).row.up)
    group_some i d at = go entry.row.group refl at
      where
        go : (o : Option ℕ) → entry.row.group ≡ o → IsInGroup groups o i
            → group_fits (counted p (user_key entry)) o ≡ (keeps ((get_or groups i d).down + entry.row.session_down_floor) (get_or groups i d).row.down && keeps ((get_or groups i d).up + entry.row.session_up_floor) (get_or groups i d).row.up)
        go None e h = absurd h
        go (Some g) e h =
            let x = get_or groups i d in
            let is = in_group g i d e h in
            ap (λ (n : ℕ). keeps n (group_rate (finite.get p.rates.groups g) Down) && keeps (promised_group (counted p (user_key entry)).users Up g) (group_rate (finite.get p.rates.groups g) Up)) is.down_is
            ∙ ap (λ (n : ℕ). keeps (x.down + entry.row.session_down_floor) (group_rate (finite.get p.rates.groups g) Down) && keeps n (group_rate (finite.get p.rates.groups g) Up)) is.up_is
            ∙ ap (λ o. keeps (x.down + entry.row.session_down_floor) (group_rate o Down) && keeps (x.up + entry.row.session_up_floor) (group_rate o Up)) is.row_is

-- nothing is promised yet
pub none_promised : (w : Way) (rows : List UserRate) → promised (map no_session rows) w ≡ 0
none_promised w [] = refl
none_promised w (row ∷ rows) = omega (arith, sum_by-cons (promised_user w) (no_session row) (map no_session rows), none_promised w rows)

pub reported_none : (groups : List GroupRate) (users : List UserRate) → IsRising group_number groups → IsRising user_number users → All FitsUser users → IsReported 0 0 (map no_promise groups) (map no_session users)
reported_none groups users groups_up users_up fit = record {
  down_reported = sym (none_promised Down users);
  up_reported = sym (none_promised Up users);
  small = omega arith;
  few = all_mapped (λ row. ⊤) (λ (entry : UserSessions). entry.sessions ≤ MAX_PROMISED) no_session users (λ row h. omega arith) (λ k d lt. tt);
  users_rise = rising_mapped user_number user_key no_session users (λ row. refl) users_up;
  users_fit = all_mapped FitsUser (λ (entry : UserSessions). FitsUser entry.row) no_session users (λ row h. h) fit;
  groups_rise = rising_mapped group_number group_key no_promise groups (λ row. refl) groups_up;
  groups_reported = all_mapped (λ row. ⊤) (IsPromised (map no_session users)) no_promise groups (λ row h. record { down = zero_group Down row.group; up = zero_group Up row.group }) (λ k d lt. tt);
}
  where
    zero_group : (w : Way) (g : ℕ) → 0 ≡ promised_group (map no_session users) w g
    zero_group w g = let le = group_within (map no_session users) w g in omega (arith, none_promised w users)

rows_of_groups : (rows : List GroupRate) → map group_row (map no_promise rows) ≡ rows
rows_of_groups [] = refl
rows_of_groups (row ∷ rows) = ap (λ rs. row ∷ rs) (rows_of_groups rows)

rows_of_users : (rows : List UserRate) → map user_row (map no_session rows) ≡ rows
rows_of_users [] = refl
rows_of_users (row ∷ rows) = ap (λ rs. row ∷ rs) (rows_of_users rows)

pub same_limits : (r : Rates) (groups : List GroupRate) (users : List UserRate) → by_number group_number groups ≡ r.groups → by_number user_number users ≡ r.users → shared_by r.share_by (stated r.server r.down r.up (map group_row (map no_promise groups)) (map user_row (map no_session users))) ≡ r
same_limits r groups users gs us =
    ap (λ rows. shared_by r.share_by (stated r.server r.down r.up rows (map user_row (map no_session users)))) (rows_of_groups groups)
    ∙ ap (λ rows. shared_by r.share_by (stated r.server r.down r.up groups rows)) (rows_of_users users)
    ∙ ap (λ m. record { server = r.server; down = r.down; up = r.up; groups = m; users = by_number user_number users; share_by = r.share_by }) gs
    ∙ ap (λ m. record { server = r.server; down = r.down; up = r.up; groups = r.groups; users = m; share_by = r.share_by }) us

pub none_counted : (users : List UserRate) → All (λ (entry : UserSessions). entry.sessions ≡ 0) (map no_session users)
none_counted users = all_mapped (λ row. ⊤) (λ (entry : UserSessions). entry.sessions ≡ 0) no_session users (λ row h. refl) (λ k d lt. tt)

pub unchanged : (change : ℕ → ℕ) (p : Promises) (users : List UserSessions) (user : ℕ) → users ≡ p.users → finite.get (by_number user_key users) user ≡ None → changed change p user ≡ p
unchanged change p users user same none =
    ap (λ us. record { rates = p.rates; users = us })
    (map_none (λ e. nat_eq (user_key e) user) (entry_with change) p.users (nowhere user_key p.users user (ap (λ us. finite.get (by_number user_key us) user) (sym same) ∙ none)))

pub cond_same : (b : Bool) (x y : Promises) → y ≡ x → x ≡ cond b y x
cond_same true x y e = sym e
cond_same false x y e = refl

pub cond_true : (b : Bool) (x y z : Promises) → b ≡ true → z ≡ y → z ≡ cond b y x
cond_true true x y z t e = e
cond_true false x y z t e = absurd (cc)

module _ (users : List UserSessions) (user i : ℕ) (entry : UserSessions) (at : IsAt user_key users user i) (is : entry ≡ get_or users i entry) where
  pub entry_key : user_key entry ≡ user
  entry_key = ap user_key is ∙ at.2 entry

  pub entry_stands : (p : Promises) → users ≡ p.users → user_of p (user_key entry) ≡ Some entry
  entry_stands p same = ap (user_of p) entry_key ∙ ap (λ us. finite.get (by_number user_key us) user) (sym same) ∙ at.1 entry ∙ ap (λ x. Some x) (sym is)

  -- the struct's value once the entry is changed
  pub changed_value : (share_by : ShareBy) (server down up : ℕ) (groups gs : List GroupPromise) (change : ℕ → ℕ) (by : ℕ → ℕ → ℕ) (p : Promises) → IsRising user_key users → seen share_by server down up groups users ≡ p → gs ≡ map (with_floors by entry.row) groups
      → seen share_by server down up gs (set users i (record { row = entry.row; sessions = change entry.sessions })) ≡ changed change p user
  changed_value share_by server down up groups gs change by p rise is_p is_gs =
      ap (λ (x : UserSessions). seen share_by server down up gs (set users i (record { row = x.row; sessions = change x.sessions }))) is
      ∙ ap (λ rs. record { rates = rs; users = set users i (entry_with change (get_or users i entry)) }) (ap (λ g. shared_by share_by (stated server down up (map group_row g) (map user_row (set users i (entry_with change (get_or users i entry)))))) is_gs ∙ ap (shared_by share_by) (same_rates users user i entry rise at server down up groups change by entry.row))
      ∙ ap (λ us. record { rates = shared_by share_by (stated server down up (map group_row groups) (map user_row users)); users = us }) (sym (users-set users user i entry rise at change))
      ∙ ap (λ q. changed change q user) is_p

  module _ (down up : ℕ) (groups gs : List GroupPromise) (reported : IsReported down up groups users) where
    pub reported_after : (p : Promises) → users ≡ p.users → admits p (user_key entry) ≡ true → gs ≡ map (with_floors added entry.row) groups
        → IsReported (down + entry.row.session_down_floor) (up + entry.row.session_up_floor) gs (set users i (record { row = entry.row; sessions = entry.sessions + 1 }))
    reported_after p same admitted is_gs =
        let stands = entry_stands p same in
        let all = sym (ap (fits (counted p (user_key entry))) stands) ∙ admitted in
        let small = and_parts _ _ (and_parts _ _ all).0 in
        let le = leb-true (promised (counted p (user_key entry)).users Down + promised (counted p (user_key entry)).users Up) MAX_PROMISED small.0 in
        let few : entry.sessions < MAX_PROMISED = ltb-true entry.sessions MAX_PROMISED small.1 in
        let sums = is_after p down up groups users entry same reported stands in
        let a = sums.down_after in let b = sums.up_after in
        let most : down + entry.row.session_down_floor + (up + entry.row.session_up_floor) ≤ MAX_PROMISED = omega arith in
        subst (λ (g : List GroupPromise). IsReported (down + entry.row.session_down_floor) (up + entry.row.session_up_floor) g (set users i (record { row = entry.row; sessions = entry.sessions + 1 }))) (sym is_gs)
        (subst (λ (x : UserSessions). IsReported (down + x.row.session_down_floor) (up + x.row.session_up_floor) (map (with_floors added x.row) groups) (set users i (entry_with one_more x))) (sym is)
        (subst (λ (us : List UserSessions). IsReported (down + (get_or users i entry).row.session_down_floor) (up + (get_or users i entry).row.session_up_floor) (map (with_floors added (get_or users i entry).row) groups) us) (users-set users user i entry reported.users_rise at one_more)
        (reported-more users user i entry reported.users_rise at down up groups reported
        (subst (λ (x : UserSessions). x.sessions + 1 ≤ MAX_PROMISED) is (omega arith))
        (subst (λ (x : UserSessions). down + x.row.session_down_floor + (up + x.row.session_up_floor) ≤ MAX_PROMISED) is most))))

    pub reported_before : 0 < entry.sessions → gs ≡ map (with_floors taken entry.row) groups
        → IsReported (down - entry.row.session_down_floor) (up - entry.row.session_up_floor) gs (set users i (record { row = entry.row; sessions = entry.sessions - 1 }))
    reported_before some is_gs =
        subst (λ (g : List GroupPromise). IsReported (down - entry.row.session_down_floor) (up - entry.row.session_up_floor) g (set users i (record { row = entry.row; sessions = entry.sessions - 1 }))) (sym is_gs)
        (subst (λ (x : UserSessions). IsReported (down - x.row.session_down_floor) (up - x.row.session_up_floor) (map (with_floors taken x.row) groups) (set users i (entry_with one_less x))) (sym is)
        (subst (λ (us : List UserSessions). IsReported (down - (get_or users i entry).row.session_down_floor) (up - (get_or users i entry).row.session_up_floor) (map (with_floors taken (get_or users i entry).row) groups) us) (users-set users user i entry reported.users_rise at one_less)
        (reported-less users user i entry reported.users_rise at down up groups reported (subst (λ (x : UserSessions). 0 < x.sessions) is some))))

    pub has_room : (p : Promises) → users ≡ p.users → HasRoom groups entry.row
    has_room p same j d lt in_group = group_room p down up groups users entry same reported (entry_stands p same) j d lt

    pub line_floors : 0 < entry.sessions → (entry.row.session_down_floor ≤ down) × (entry.row.session_up_floor ≤ up)
    line_floors some =
        let more : 0 < (get_or users i entry).sessions = subst (λ (x : UserSessions). 0 < x.sessions) is some in
        let a = promised-less users user i entry reported.users_rise at Down more in let b = promised-less users user i entry reported.users_rise at Up more in
        let m = reported.down_reported in let n = reported.up_reported in
        subst (λ (x : UserSessions). (x.row.session_down_floor ≤ down) × (x.row.session_up_floor ≤ up)) (sym is) (omega arith, omega arith)

    pub has_floors : 0 < entry.sessions → HasFloors groups entry.row
    has_floors some j d lt in_group =
        let more : 0 < (get_or users i entry).sessions = subst (λ (x : UserSessions). 0 < x.sessions) is some in
        let here : is_number (get_or users i entry).row.group (group_key (get_or groups j d)) ≡ true = subst (λ (x : UserSessions). is_number x.row.group (group_key (get_or groups j d)) ≡ true) is in_group in
        let a = group-less users user i entry reported.users_rise at Down (group_key (get_or groups j d)) true here more in
        let b = group-less users user i entry reported.users_rise at Up (group_key (get_or groups j d)) true here more in
        let m = (reported.groups_reported j d lt).down in let n = (reported.groups_reported j d lt).up in
        subst (λ (x : UserSessions). (x.row.session_down_floor ≤ (get_or groups j d).down) × (x.row.session_up_floor ≤ (get_or groups j d).up)) (sym is) (omega arith, omega arith)
