-- Counted sessions under other rates: rows in their order, sums of groups, and which limit is broken.
use Rattle.std.proofs.Common.{◌≡◌, ◌↔◌, ℕ, zero, suc, ◌+◌, ◌<◌, ◌≤◌, Bool, true, false, ◌&&◌, ◌||◌, T, cond, List, [], ◌∷◌, length, map, get_or, take, sym, refl, ap, ◌∙◌, subst, arith, Option, Some, None}
use Rattle.std.specs.FinMap as finite
use Rattle.std.specs.FinMap.{is_sorted, get-from_entries, get-from_sorted, entries-from_sorted, from_entries, from_sorted, same_map, nat_cmp-IsAntisymmetric}
use Rattle.std.specs.FinMap.Entries.{below_all}
use Rattle.std.specs.Cmp.{nat_cmp_total}
use Rattle.std.specs.List.{All}
use Rattle.std.specs.Option.{option_or}
use Rattle.std.specs.Ordering.{nat_cmp, is_lt}
use Rattle.std.specs.declared.cmp.Ordering.TheVariants.{Less, Equal, Greater}
use Rattle.std.specs.Prelude.{nat_eq, nat_lt}
use Rattle.std.proofs.lemmas.Bool.{and_parts, eq-eqb, lt-ltb, ltb-false, le-ltb}
use Rattle.std.proofs.lemmas.List.{length-map}
use Rattle.std.proofs.lemmas.List.Sums.{sum_by_more, sum_by_more_le}
use Rattle.line_rates.specs.declared.ask.Name.{Name}
use Rattle.line_rates.specs.declared.ask.Name.TheVariants.{Server, Direction, Group, User, Session}
use Rattle.line_rates.specs.declared.ask.Way.{Way}
use Rattle.line_rates.specs.declared.ask.Way.TheVariants.{Down, Up}
use Rattle.line_rates.specs.declared.row.GroupRate.{GroupRate}
use Rattle.line_rates.specs.declared.row.UserRate.{UserRate}
use Rattle.line_rates.specs.declared.share_by.ShareBy.{ShareBy}
use Rattle.line_rates.specs.Names.{is_number}
use Rattle.line_rates.specs.Rates.{Rates, group_rate, user_rate, session_rate, rate_of}
use Rattle.line_rates.specs.Stated.{by_number, group_number, user_number, IsRising, FitsUser}
use Rattle.line_rates.proofs.RowLemmas.{rising_below, first_row, get-by_number, other_number}
use Rattle.rate_floors.specs.declared.carry.CarryFault.{CarryFault}
use Rattle.rate_floors.specs.declared.carry.CarryFault.TheVariants.{TooLarge, Broken}
use Rattle.rate_floors.specs.declared.find.GroupPromise.{GroupPromise}
use Rattle.rate_floors.specs.declared.find.UserSessions.{UserSessions}
use Rattle.rate_floors.specs.declared.fits.TheConstants.{MAX_PROMISED}
use Rattle.rate_floors.specs.Carried.{carried_entry, carried_to, broken, broken_row, broken_user, broken_sums, broken_group, broken_line, first_broken, broken_limit, carry_fault, HasRows, floor_if, user_sum, promised_under, IsBroken, CarriesWhatFits, NamesABrokenLimit}
use Rattle.rate_floors.specs.Promises.{Promises, PromisesFit, user_of, user_key, group_key, user_row, group_row, floor_in, promised_user, promised, promised_group, with_floors, added, keeps, session_fits, user_fits, entry_fits, no_promise, HasRoom, IsPromised, IsKept, seen}
use Rattle.rate_floors.proofs.FloorLemmas.{group_within}
use Rattle.rate_floors.proofs.PlaceLemmas.{all_mapped, get_mapped, rising_mapped, kept_mapped, stands_at}

-- ---- rows in the order of their numbers are the values of their map

yes_and : (a b : Bool) → T a → T b → T (a && b)
yes_and true b p q = q
yes_and false b p q = p

below_rows : {X : Type 0} (number : X → ℕ) (n : ℕ) (xs : List X) → ((j : ℕ) (e : X) → j < length xs → n < number (get_or xs j e)) → T (below_all nat_cmp n (map (λ x. (number x, x)) xs))
below_rows number n [] h = tt
below_rows number n (x ∷ xs) h =
    subst (λ b. T (is_lt (cond b Less (cond (nat_eq n (number x)) Equal Greater)) && below_all nat_cmp n (map (λ x. (number x, x)) xs)))
    (sym (lt-ltb n (number x) (h 0 x (omega arith))))
    (below_rows number n xs (λ j e lt. h (suc j) e (omega arith)))

rising_rest : {X : Type 0} (number : X → ℕ) (x : X) (xs : List X) → IsRising number (x ∷ xs) → IsRising number xs
rising_rest number x xs up k d lt = rising_below number (x ∷ xs) up (suc k) (suc (k + 1)) d (omega arith) (omega arith)

sorted_rows : {X : Type 0} (number : X → ℕ) (xs : List X) → IsRising number xs → T (is_sorted nat_cmp (map (λ x. (number x, x)) xs))
sorted_rows number [] up = tt
sorted_rows number (x ∷ xs) up =
    yes_and _ _
    (below_rows number (number x) xs (λ j e lt. rising_below number (x ∷ xs) up 0 (suc j) e (omega arith) (omega arith)))
    (sorted_rows number xs (rising_rest number x xs up))

entries_sorted_is : {X : Type 0} (es : List (ℕ × X)) → T (is_sorted nat_cmp es) → finite.entries (from_entries {R = nat_cmp} es) ≡ es
entries_sorted_is es h =
    ap finite.entries (same_map nat_cmp_total nat_cmp-IsAntisymmetric (from_entries {R = nat_cmp} es) (from_sorted {R = nat_cmp} es) (λ q. get-from_entries nat_cmp_total es q ∙ sym (get-from_sorted nat_cmp es q h)))
    ∙ entries-from_sorted nat_cmp es h

values_are : {X : Type 0} (number : X → ℕ) (xs : List X) → map (λ (e : ℕ × X). e.1) (map (λ x. (number x, x)) xs) ≡ xs
values_are number [] = refl
values_are number (x ∷ xs) = ap (λ ys. x ∷ ys) (values_are number xs)

pub values-by_number : {X : Type 0} (number : X → ℕ) (xs : List X) → IsRising number xs → finite.values (by_number number xs) ≡ xs
values-by_number {X} number xs up =
    ap (map (λ (e : ℕ × X). e.1)) (entries_sorted_is (map (λ x. (number x, x)) xs) (sorted_rows number xs up)) ∙ values_are number xs

pub rows_of_carried : (p : Promises) (rows : List UserRate) → map user_row (map (carried_entry p) rows) ≡ rows
rows_of_carried p [] = refl
rows_of_carried p (row ∷ rows) = ap (λ rs. row ∷ rs) (rows_of_carried p rows)

pub carried_rising : (p : Promises) (rows : List UserRate) → IsRising user_number rows → IsRising user_key (map (carried_entry p) rows)
carried_rising p rows up = rising_mapped user_number user_key (carried_entry p) rows (λ row. refl) up

pub carried_fit : (p : Promises) (rows : List UserRate) → All FitsUser rows → All (λ (entry : UserSessions). FitsUser entry.row) (map (carried_entry p) rows)
carried_fit p rows fit = all_mapped FitsUser (λ (entry : UserSessions). FitsUser entry.row) (carried_entry p) rows (λ row h. h) fit

pub found_at : {X : Type 0} (number : X → ℕ) (xs : List X) → IsRising number xs → (k : ℕ) (d : X) → k < length xs → first_row number (number (get_or xs k d)) xs ≡ Some (get_or xs k d)
found_at number [] up k d lt = absurd (omega arith)
found_at number (x ∷ xs) up zero d lt = ap (λ b. cond b (Some x) (first_row number (number x) xs)) (eq-eqb (number x) (number x) refl)
found_at number (x ∷ xs) up (suc k) d lt =
    ap (λ b. cond b (Some x) (first_row number (number (get_or xs k d)) xs))
    (other_number (number x) (number (get_or xs k d)) (λ same. let below = rising_below number (x ∷ xs) up 0 (suc k) d (omega arith) lt in omega arith))
    ∙ found_at number xs (rising_rest number x xs up) k d (omega arith)

-- ---- sums of groups

pub rising_rows : (groups : List GroupPromise) (rows : List GroupRate) → map group_row groups ≡ rows → IsRising group_number rows → IsRising group_key groups
rising_rows groups rows same up k d lt =
    let many : length rows ≡ length groups = sym (ap length same) ∙ length-map groups group_row in
    let step = up k (group_row d) (omega arith) in
    let first : group_number (get_or rows k (group_row d)) ≡ group_key (get_or groups k d) = ap (λ rs. group_number (get_or rs k (group_row d))) (sym same) ∙ ap group_number (get_mapped group_row groups k (group_row d) d (omega arith)) in
    let next : group_number (get_or rows (k + 1) (group_row d)) ≡ group_key (get_or groups (k + 1) d) = ap (λ rs. group_number (get_or rs (k + 1) (group_row d))) (sym same) ∙ ap group_number (get_mapped group_row groups (k + 1) (group_row d) d (omega arith)) in
    omega arith

-- what a list without an entry has in its place
abbrev pub no_entry : UserSessions
no_entry = record {
  row = record { user = 0; group = None; down = 0; up = 0; session_down = 0; session_up = 0; session_down_floor = 0; session_up_floor = 0 };
  sessions = 0;
}

-- the row of a user with the guarantees of all counted sessions
abbrev pub bundle : UserSessions → UserRate
bundle entry = record entry.row { session_down_floor = promised_user Down entry; session_up_floor = promised_user Up entry }

pub kept_rows : (row : UserRate) (groups : List GroupPromise) → map group_row (map (with_floors added row) groups) ≡ map group_row groups
kept_rows row groups = kept_mapped group_row (with_floors added row) groups
    (λ entry. elim (is_number row.group (group_key entry)) as (λ b. group_row (cond b (record { row = entry.row; down = added entry.down row.session_down_floor; up = added entry.up row.session_up_floor }) entry) ≡ group_row entry) [ true ↦ refl | false ↦ refl ])

module _ (users : List UserSessions) (i : ℕ) (entry : UserSessions) (lt : i < length users) (is : entry ≡ get_or users i entry) where
  group_more : (w : Way) (g : ℕ) → promised_group (take (i + 1) users) w g ≡ promised_group (take i users) w g + cond (is_number entry.row.group g) (promised_user w entry) 0
  group_more w g =
      sum_by_more (λ (x : UserSessions). cond (is_number x.row.group g) (promised_user w x) 0) users i entry lt
      ∙ ap (λ (x : UserSessions). promised_group (take i users) w g + cond (is_number x.row.group g) (promised_user w x) 0) (sym is)

  entry_reported : (group : GroupPromise) (b : Bool) → is_number entry.row.group (group_key group) ≡ b → IsPromised (take i users) group
      → IsPromised (take (i + 1) users) (cond b (record { row = group.row; down = group.down + promised_user Down entry; up = group.up + promised_user Up entry }) group)
  entry_reported group true e h = record {
    down = ap (λ (n : ℕ). n + promised_user Down entry) h.down ∙ ap (λ b. promised_group (take i users) Down (group_key group) + cond b (promised_user Down entry) 0) (sym e) ∙ sym (group_more Down (group_key group));
    up = ap (λ (n : ℕ). n + promised_user Up entry) h.up ∙ ap (λ b. promised_group (take i users) Up (group_key group) + cond b (promised_user Up entry) 0) (sym e) ∙ sym (group_more Up (group_key group));
  }
  entry_reported group false e h =
      let down = group_more Down (group_key group) ∙ ap (λ b. promised_group (take i users) Down (group_key group) + cond b (promised_user Down entry) 0) e in
      let up = group_more Up (group_key group) ∙ ap (λ b. promised_group (take i users) Up (group_key group) + cond b (promised_user Up entry) 0) e in
      record { down = omega (arith, h.down, down); up = omega (arith, h.up, up) }

  pub reported_more : (groups : List GroupPromise) → All (IsPromised (take i users)) groups → All (IsPromised (take (i + 1) users)) (map (with_floors added (bundle entry)) groups)
  reported_more groups reported =
      all_mapped (IsPromised (take i users)) (IsPromised (take (i + 1) users)) (with_floors added (bundle entry)) groups
      (λ group h. entry_reported group (is_number entry.row.group (group_key group)) refl h) reported

  pub way_more : (w : Way) → promised (take (i + 1) users) w ≡ promised (take i users) w + promised_user w entry
  way_more w =
      sum_by_more (promised_user w) users i entry lt ∙ ap (λ (x : UserSessions). promised (take i users) w + promised_user w x) (sym is)

  pub user_part : (w : Way) → promised (take i users) w + promised_user w entry ≤ promised users w
  user_part w = subst (λ (x : UserSessions). promised (take i users) w + promised_user w x ≤ promised users w) (sym is) (sum_by_more_le (promised_user w) users i entry lt)

  module _ (small : promised users Down + promised users Up ≤ MAX_PROMISED) where
    pub small_down : promised_user Down entry ≤ MAX_PROMISED
    small_down = let part = user_part Down in omega arith

    pub small_up : promised_user Up entry ≤ MAX_PROMISED
    small_up = let part = user_part Up in omega arith

    pub bundle_room : (groups : List GroupPromise) → All (IsPromised (take i users)) groups → HasRoom groups (bundle entry)
    bundle_room groups reported j d less in_group =
        let group = reported j d less in
        let a = group.down in let b = group.up in
        let x = group_within (take i users) Down (group_key (get_or groups j d)) in
        let y = group_within (take i users) Up (group_key (get_or groups j d)) in
        let m = user_part Down in let n = user_part Up in
        (omega arith, omega arith)

pub none_reported : (rows : List GroupRate) → All (IsPromised []) (map no_promise rows)
none_reported rows k d lt =
    all_mapped (λ (row : GroupRate). Unit {0}) (IsPromised []) no_promise rows (λ row h. record { down = refl; up = refl }) (λ k d lt. tt) k d lt

pub rows_of_none : (rows : List GroupRate) → map group_row (map no_promise rows) ≡ rows
rows_of_none [] = refl
rows_of_none (row ∷ rows) = ap (λ rs. row ∷ rs) (rows_of_none rows)

-- ---- broken limits

pub groups_same : (users : List UserSessions) (groups : List GroupPromise) → All (IsPromised users) groups → first_broken broken_sums groups ≡ first_broken (broken_group users) (map group_row groups)
groups_same users [] reported = refl
groups_same users (group ∷ groups) reported =
    let here = reported 0 group (omega arith) in
    ap (λ (n : ℕ). option_or (broken_sums (record { row = group.row; down = n; up = group.up })) (first_broken broken_sums groups)) here.down
    ∙ ap (λ (n : ℕ). option_or (broken_sums (record { row = group.row; down = promised_group users Down group.row.group; up = n })) (first_broken broken_sums groups)) here.up
    ∙ ap (option_or (broken_group users group.row)) (groups_same users groups (λ k d lt. reported (suc k) d (omega arith)))

pub or_none : (a b : Option CarryFault) → option_or a b ≡ None → (a ≡ None) × (b ≡ None)
or_none None b e = (refl, e)
or_none (Some x) b e = absurd (cc)

pub none_or : (a b : Option CarryFault) → a ≡ None → b ≡ None → option_or a b ≡ None
none_or a b e f = ap (λ o. option_or o b) e ∙ f

pub none_keeps : (b : Bool) (fault : CarryFault) → cond b None (Some fault) ≡ None → b ≡ true
none_keeps true fault e = refl
none_keeps false fault e = absurd (cc)

pub keeps_none : (name : Name) (n rate : ℕ) → keeps n rate ≡ true → broken name n rate ≡ None
keeps_none name n rate e = ap (λ b. cond b None (Some (Broken name n rate))) e

first_none : {X : Type 0} (test : X → Option CarryFault) (xs : List X) → first_broken test xs ≡ None → All (λ x. test x ≡ None) xs
first_none test [] e k d lt = absurd (omega arith)
first_none test (x ∷ xs) e zero d lt = (or_none (test x) (first_broken test xs) e).0
first_none test (x ∷ xs) e (suc k) d lt = first_none test xs (or_none (test x) (first_broken test xs) e).1 k d (omega arith)

none_first : {X : Type 0} (test : X → Option CarryFault) (xs : List X) → All (λ x. test x ≡ None) xs → first_broken test xs ≡ None
none_first test [] all = refl
none_first test (x ∷ xs) all = none_or (test x) (first_broken test xs) (all 0 x (omega arith)) (none_first test xs (λ k d lt. all (suc k) d (omega arith)))

pub both : (x y : Bool) → x ≡ true → y ≡ true → (x && y) ≡ true
both x y e f = ap (λ b. b && y) e ∙ f

pub row_fits : (entry : UserSessions) → broken_row entry ≡ None → (session_fits entry.row && user_fits entry.row entry.sessions) ≡ true
row_fits entry e =
    let last = or_none _ _ e in
    let third = or_none _ _ last.0 in
    let second = or_none _ _ third.0 in
    both _ _
    (both _ _ (none_keeps _ _ second.0) (none_keeps _ _ second.1))
    (both _ _ (none_keeps _ _ third.1) (none_keeps _ _ last.1))

pub fits_row : (entry : UserSessions) → (session_fits entry.row && user_fits entry.row entry.sessions) ≡ true → broken_row entry ≡ None
fits_row entry e =
    let parts = and_parts _ _ e in
    let session = and_parts _ _ parts.0 in
    let user = and_parts _ _ parts.1 in
    none_or _ _
    (none_or _ _
    (none_or _ _
    (keeps_none (Session Down (user_key entry) 0) entry.row.session_down_floor entry.row.session_down session.0)
    (keeps_none (Session Up (user_key entry) 0) entry.row.session_up_floor entry.row.session_up session.1))
    (keeps_none (User Down (user_key entry)) (promised_user Down entry) entry.row.down user.0))
    (keeps_none (User Up (user_key entry)) (promised_user Up entry) entry.row.up user.1)

user_fits_now : (entry : UserSessions) → broken_user entry ≡ None → entry_fits entry ≡ true
user_fits_now entry e = elim (nat_eq entry.sessions 0) as (λ b. cond b None (broken_row entry) ≡ None → (b || (session_fits entry.row && user_fits entry.row entry.sessions)) ≡ true) [
  | true ↦ λ _. refl
  | false ↦ λ none. row_fits entry none
] e

fits_user_now : (entry : UserSessions) → entry_fits entry ≡ true → broken_user entry ≡ None
fits_user_now entry e = elim (nat_eq entry.sessions 0) as (λ b. (b || (session_fits entry.row && user_fits entry.row entry.sessions)) ≡ true → cond b None (broken_row entry) ≡ None) [
  | true ↦ λ _. refl
  | false ↦ λ fits. fits_row entry fits
] e

pub line_fits_now : (down up server_rate down_rate up_rate : ℕ) → broken_line down up server_rate down_rate up_rate ≡ None → (keeps down down_rate && keeps up up_rate && keeps (down + up) server_rate) ≡ true
line_fits_now down up server_rate down_rate up_rate e =
    let last = or_none _ _ e in
    let ways = or_none _ _ last.0 in
    both _ _ (both _ _ (none_keeps _ _ ways.0) (none_keeps _ _ ways.1)) (none_keeps _ _ last.1)

pub fits_line_now : (down up server_rate down_rate up_rate : ℕ) → (keeps down down_rate && keeps up up_rate && keeps (down + up) server_rate) ≡ true → broken_line down up server_rate down_rate up_rate ≡ None
fits_line_now down up server_rate down_rate up_rate e =
    let parts = and_parts _ _ e in
    let ways = and_parts _ _ parts.0 in
    none_or _ _
    (none_or _ _ (keeps_none (Direction Down) down down_rate ways.0) (keeps_none (Direction Up) up up_rate ways.1))
    (keeps_none Server (down + up) server_rate parts.1)

-- the rates of a group
module _ (p : Promises) (rows : HasRows p) where
  groups_values : finite.values p.rates.groups ≡ rows.groups
  groups_values = ap finite.values rows.groups_are ∙ values-by_number group_number rows.groups rows.groups_rise

  abbrev group_test : ℕ → Option GroupRate → Type 0
  group_test g o = (keeps (promised_group p.users Down g) (group_rate o Down) && keeps (promised_group p.users Up g) (group_rate o Up)) ≡ true

  group_by : (g : ℕ) (o : Option GroupRate) → finite.get p.rates.groups g ≡ o → All (λ row. broken_group p.users row ≡ None) rows.groups → group_test g o
  group_by g None is all = refl
  group_by g (Some row) is all =
      let at = stands_at group_number rows.groups g row rows.groups_rise (ap (λ m. finite.get m g) (sym rows.groups_are) ∙ is) in
      let none : broken_group p.users row ≡ None = subst (λ r. broken_group p.users r ≡ None) (at.2 row) (all at.0 row at.1) in
      let parts = or_none _ _ none in
      subst (λ (n : ℕ). group_test n (Some row)) at.3 (both _ _ (none_keeps _ _ parts.0) (none_keeps _ _ parts.1))

  pub fit_of_none : broken_limit p ≡ None → PromisesFit p
  fit_of_none e =
      let last = or_none _ _ e in
      let parts = or_none _ _ last.0 in
      record {
        rows = rows.users_are;
        rising = rows.users_rise;
        users = λ k d lt. user_fits_now (get_or p.users k d) (first_none broken_user p.users parts.0 k d lt);
        groups = λ g. group_by g (finite.get p.rates.groups g) refl (first_none (broken_group p.users) rows.groups (ap (first_broken (broken_group p.users)) (sym groups_values) ∙ parts.1));
        line = line_fits_now (promised p.users Down) (promised p.users Up) p.rates.server p.rates.down p.rates.up last.1;
      }

  place_test : (k : ℕ) (d : GroupRate) → k < length rows.groups → finite.get p.rates.groups (get_or rows.groups k d).group ≡ Some (get_or rows.groups k d)
  place_test k d lt =
      ap (λ m. finite.get m (get_or rows.groups k d).group) rows.groups_are
      ∙ get-by_number group_number (get_or rows.groups k d).group rows.groups ∙ found_at group_number rows.groups rows.groups_rise k d lt

  group_fits_at : PromisesFit p → (k : ℕ) (d : GroupRate) → k < length rows.groups → broken_group p.users (get_or rows.groups k d) ≡ None
  group_fits_at fit k d lt =
      let row = get_or rows.groups k d in
      let fits : group_test row.group (Some row) = subst (group_test row.group) (place_test k d lt) (fit.groups row.group) in
      let parts = and_parts _ _ fits in
      none_or _ _
      (keeps_none (Group Down row.group) (promised_group p.users Down row.group) row.down parts.0)
      (keeps_none (Group Up row.group) (promised_group p.users Up row.group) row.up parts.1)

  pub none_of_fit : PromisesFit p → broken_limit p ≡ None
  none_of_fit fit =
      none_or _ _
      (none_or _ _
      (none_first broken_user p.users (λ k d lt. fits_user_now (get_or p.users k d) (fit.users k d lt)))
      (ap (first_broken (broken_group p.users)) groups_values ∙ none_first (broken_group p.users) rows.groups (group_fits_at fit)))
      (fits_line_now (promised p.users Down) (promised p.users Up) p.rates.server p.rates.down p.rates.up fit.line)

  sum_fits : (b : Bool) → nat_lt MAX_PROMISED (promised p.users Down + promised p.users Up) ≡ b → cond b (Some TooLarge) (broken_limit p) ≡ None
      → PromisesFit p × (promised p.users Down + promised p.users Up ≤ MAX_PROMISED)
  sum_fits true large e = absurd (cc)
  sum_fits false small e = (fit_of_none e, ltb-false MAX_PROMISED (promised p.users Down + promised p.users Up) small)

  pub carries : (carry_fault p ≡ None) ↔ (PromisesFit p × (promised p.users Down + promised p.users Up ≤ MAX_PROMISED))
  carries = (
    λ e. sum_fits (nat_lt MAX_PROMISED (promised p.users Down + promised p.users Up)) refl e,
    λ both. ap (λ b. cond b (Some TooLarge) (broken_limit p)) (le-ltb MAX_PROMISED (promised p.users Down + promised p.users Up) both.1) ∙ none_of_fit both.0,
  )

  -- ---- the limit that a fault names

  module _ (name : Name) (n rate : ℕ) where
    abbrev Names : Option CarryFault → Type 0
    Names o = o ≡ Some (Broken name n rate)

    by_or : (C : Type 0) (a b : Option CarryFault) → (Names a → C) → (Names b → C) → Names (option_or a b) → C
    by_or C None b first second e = second e
    by_or C (Some x) b first second e = first e

    by_broken : (b : Bool) (other : Name) (m r : ℕ) → keeps m r ≡ b → promised_under p other ≡ m → rate_of p.rates other ≡ r → Names (cond b None (Some (Broken other m r))) → IsBroken p name n rate
    by_broken true other m r test under limit e = absurd (cc)
    by_broken false other m r test under limit e =
        let same_name : other ≡ name = cc in
        let same_sum : m ≡ n = cc in
        let same_rate : r ≡ rate = cc in
        record {
          promised_is = ap (promised_under p) (sym same_name) ∙ under ∙ same_sum;
          rate_is = ap (rate_of p.rates) (sym same_name) ∙ limit ∙ same_rate;
          above = ap (λ x. keeps x rate) (sym same_sum) ∙ ap (keeps m) (sym same_rate) ∙ test;
        }

    is_broken : (other : Name) (m r : ℕ) → promised_under p other ≡ m → rate_of p.rates other ≡ r → Names (broken other m r) → IsBroken p name n rate
    is_broken other m r under limit e = by_broken (keeps m r) other m r refl under limit e

    -- where the fault is found
    by_first : {X : Type 0} (test : X → Option CarryFault) (xs : List X) → Names (first_broken test xs) → (k : ℕ) × (d : X) × (k < length xs) × Names (test (get_or xs k d))
    by_first test [] e = absurd (cc)
    by_first {X} test (x ∷ xs) e = by_or ((k : ℕ) × (d : X) × (k < length (x ∷ xs)) × Names (test (get_or (x ∷ xs) k d))) (test x) (first_broken test xs)
        (λ here. (0, x, omega arith, here))
        (λ later. let at = by_first test xs later in (suc at.0, at.1, (let lt = at.2 in omega arith), at.3)) e

    -- a user
    module _ (entry : UserSessions) (stands : user_of p (user_key entry) ≡ Some entry) (row : finite.get p.rates.users (user_key entry) ≡ Some entry.row) where
      floor_under : (way : Way) → nat_eq entry.sessions 0 ≡ false → promised_under p (Session way (user_key entry) 0) ≡ floor_in entry.row way
      floor_under way some = ap (λ o. floor_if o way) stands ∙ ap (λ b. cond b 0 (floor_in entry.row way)) some

      sum_under : (way : Way) → promised_under p (User way (user_key entry)) ≡ promised_user way entry
      sum_under way = ap (λ o. user_sum o way) stands

      by_row : nat_eq entry.sessions 0 ≡ false → Names (broken_row entry) → IsBroken p name n rate
      by_row some =
          by_or (IsBroken p name n rate) _ _
          (by_or (IsBroken p name n rate) _ _
          (by_or (IsBroken p name n rate) _ _
          (is_broken (Session Down (user_key entry) 0) entry.row.session_down_floor entry.row.session_down (floor_under Down some) (ap (λ o. session_rate o Down) row))
          (is_broken (Session Up (user_key entry) 0) entry.row.session_up_floor entry.row.session_up (floor_under Up some) (ap (λ o. session_rate o Up) row)))
          (is_broken (User Down (user_key entry)) (promised_user Down entry) entry.row.down (sum_under Down) (ap (λ o. user_rate o Down) row)))
          (is_broken (User Up (user_key entry)) (promised_user Up entry) entry.row.up (sum_under Up) (ap (λ o. user_rate o Up) row))

      by_sessions : (b : Bool) → nat_eq entry.sessions 0 ≡ b → Names (cond b None (broken_row entry)) → IsBroken p name n rate
      by_sessions true none e = absurd (cc)
      by_sessions false some e = by_row some e

      by_user : Names (broken_user entry) → IsBroken p name n rate
      by_user e = by_sessions (nat_eq entry.sessions 0) refl e

    user_stands : (k : ℕ) (d : UserSessions) → k < length p.users → user_of p (user_key (get_or p.users k d)) ≡ Some (get_or p.users k d)
    user_stands k d lt = get-by_number user_key (user_key (get_or p.users k d)) p.users ∙ found_at user_key p.users rows.users_rise k d lt

    row_stands : (k : ℕ) (d : UserSessions) → k < length p.users → finite.get p.rates.users (user_key (get_or p.users k d)) ≡ Some (get_or p.users k d).row
    row_stands k d lt =
        let entry = get_or p.users k d in
        let same : get_or (map user_row p.users) k (user_row d) ≡ entry.row = get_mapped user_row p.users k (user_row d) d lt in
        ap (λ m. finite.get m (user_key entry)) rows.users_are
        ∙ get-by_number user_number (user_key entry) (map user_row p.users)
        ∙ ap (λ (r : UserRate). first_row user_number r.user (map user_row p.users)) (sym same)
        ∙ found_at user_number (map user_row p.users) (rising_mapped user_key user_number user_row p.users (λ x. refl) rows.users_rise) k (user_row d) (let many = length-map p.users user_row in omega arith)
        ∙ ap Some same

    by_users : Names (first_broken broken_user p.users) → IsBroken p name n rate
    by_users e =
        let at = by_first broken_user p.users e in
        by_user (get_or p.users at.0 at.1) (user_stands at.0 at.1 at.2) (row_stands at.0 at.1 at.2) at.3

    by_group : (row : GroupRate) → finite.get p.rates.groups row.group ≡ Some row → Names (broken_group p.users row) → IsBroken p name n rate
    by_group row stands =
        by_or (IsBroken p name n rate) _ _
        (is_broken (Group Down row.group) (promised_group p.users Down row.group) row.down refl (ap (λ o. group_rate o Down) stands))
        (is_broken (Group Up row.group) (promised_group p.users Up row.group) row.up refl (ap (λ o. group_rate o Up) stands))

    by_groups : Names (first_broken (broken_group p.users) rows.groups) → IsBroken p name n rate
    by_groups e =
        let at = by_first (broken_group p.users) rows.groups e in
        by_group (get_or rows.groups at.0 at.1) (place_test at.0 at.1 at.2) at.3

    by_line : Names (broken_line (promised p.users Down) (promised p.users Up) p.rates.server p.rates.down p.rates.up) → IsBroken p name n rate
    by_line =
        by_or (IsBroken p name n rate) _ _
        (by_or (IsBroken p name n rate) _ _
        (is_broken (Direction Down) (promised p.users Down) p.rates.down refl refl)
        (is_broken (Direction Up) (promised p.users Up) p.rates.up refl refl))
        (is_broken Server (promised p.users Down + promised p.users Up) p.rates.server refl refl)

    by_limit : Names (broken_limit p) → IsBroken p name n rate
    by_limit =
        by_or (IsBroken p name n rate) _ _
        (by_or (IsBroken p name n rate) _ _ by_users (λ e. by_groups (ap (first_broken (broken_group p.users)) (sym groups_values) ∙ e)))
        by_line

    by_size : (b : Bool) → Names (cond b (Some TooLarge) (broken_limit p)) → IsBroken p name n rate
    by_size true e = absurd (cc)
    by_size false e = by_limit e

    pub names_broken : Names (carry_fault p) → IsBroken p name n rate
    names_broken e = by_size (nat_lt MAX_PROMISED (promised p.users Down + promised p.users Up)) e

pub carries_what_fits : CarriesWhatFits
carries_what_fits p rows = carries p rows

pub names_a_broken_limit : NamesABrokenLimit
names_a_broken_limit p name n rate rows e = names_broken p rows name n rate e

-- ---- what the code has when all sums are made

pub record IsReady (rates : Rates) (share_by : ShareBy) (server down up promised_down promised_up : ℕ) (rows : List GroupRate) (groups : List GroupPromise) (users : List UserSessions) : Type 0 where
  pub share_is : share_by ≡ rates.share_by
  pub server_is : server ≡ rates.server
  pub down_is : down ≡ rates.down
  pub up_is : up ≡ rates.up
  pub rows_are : by_number group_number rows ≡ rates.groups
  pub rows_rise : IsRising group_number rows
  pub groups_are : map group_row groups ≡ rows
  pub groups_reported : All (IsPromised users) groups
  pub users_are : by_number user_number (map user_row users) ≡ rates.users
  pub users_rise : IsRising user_key users
  pub users_fit : All (λ (entry : UserSessions). FitsUser entry.row) users
  pub few : All (λ (entry : UserSessions). entry.sessions ≤ MAX_PROMISED) users
  pub down_reported : promised_down ≡ promised users Down
  pub up_reported : promised_up ≡ promised users Up
  pub small : promised_down + promised_up ≤ MAX_PROMISED

module _ (rates : Rates) (share_by : ShareBy) (server down up promised_down promised_up : ℕ) (rows : List GroupRate) (groups : List GroupPromise) (users : List UserSessions) (ready : IsReady rates share_by server down up promised_down promised_up rows groups users) where
  abbrev now : Promises
  now = record { rates = rates; users = users }

  pub ready_seen : seen share_by server down up groups users ≡ record { rates = rates; users = users }
  ready_seen =
      ap (λ x. seen x server down up groups users) ready.share_is
      ∙ ap (λ x. seen rates.share_by x down up groups users) ready.server_is
      ∙ ap (λ x. seen rates.share_by rates.server x up groups users) ready.down_is
      ∙ ap (λ x. seen rates.share_by rates.server rates.down x groups users) ready.up_is
      ∙ ap (λ m. record { rates = record { server = rates.server; down = rates.down; up = rates.up; groups = m; users = by_number user_number (map user_row users); share_by = rates.share_by }; users = users }) (ap (by_number group_number) ready.groups_are ∙ ready.rows_are)
      ∙ ap (λ m. record { rates = record { server = rates.server; down = rates.down; up = rates.up; groups = rates.groups; users = m; share_by = rates.share_by }; users = users }) ready.users_are

  pub ready_rows : HasRows now
  ready_rows = record {
    groups = rows;
    groups_rise = ready.rows_rise;
    groups_are = sym ready.rows_are;
    users_rise = ready.users_rise;
    users_are = sym ready.users_are;
  }

  abbrev pub found : Option CarryFault
  found = option_or (option_or (first_broken broken_user users) (first_broken broken_sums groups)) (broken_line promised_down promised_up server down up)

  groups_found : first_broken broken_sums groups ≡ first_broken (broken_group users) (finite.values rates.groups)
  groups_found =
      groups_same users groups ready.groups_reported
      ∙ ap (first_broken (broken_group users)) (ready.groups_are ∙ sym (values-by_number group_number rows ready.rows_rise) ∙ ap finite.values ready.rows_are)

  line_found : broken_line promised_down promised_up server down up ≡ broken_line (promised users Down) (promised users Up) rates.server rates.down rates.up
  line_found =
      ap (λ x. broken_line x promised_up server down up) ready.down_reported
      ∙ ap (λ x. broken_line (promised users Down) x server down up) ready.up_reported
      ∙ ap (λ x. broken_line (promised users Down) (promised users Up) x down up) ready.server_is
      ∙ ap (λ x. broken_line (promised users Down) (promised users Up) rates.server x up) ready.down_is
      ∙ ap (λ x. broken_line (promised users Down) (promised users Up) rates.server rates.down x) ready.up_is

  limit_found : found ≡ broken_limit now
  limit_found =
      ap (λ o. option_or (option_or (first_broken broken_user users) o) (broken_line promised_down promised_up server down up)) groups_found
      ∙ ap (option_or (option_or (first_broken broken_user users) (first_broken (broken_group users) (finite.values rates.groups)))) line_found

  within : promised users Down + promised users Up ≤ MAX_PROMISED
  within = let m = ready.down_reported in let n = ready.up_reported in let s = ready.small in omega arith

  pub fault_found : carry_fault now ≡ found
  fault_found =
      ap (λ b. cond b (Some TooLarge) (broken_limit now)) (le-ltb MAX_PROMISED (promised users Down + promised users Up) within)
      ∙ sym limit_found

  pub ready_kept : found ≡ None → IsKept share_by server down up promised_down promised_up groups users
  ready_kept none = record {
    reported = record {
      down_reported = ready.down_reported;
      up_reported = ready.up_reported;
      small = ready.small;
      few = ready.few;
      users_rise = ready.users_rise;
      users_fit = ready.users_fit;
      groups_rise = rising_rows groups rows ready.groups_are ready.rows_rise;
      groups_reported = ready.groups_reported;
    };
    fit = subst PromisesFit (sym ready_seen) (fit_of_none now ready_rows (sym limit_found ∙ none));
  }

-- sums that are too large
pub fault_large : (p : Promises) → MAX_PROMISED < promised p.users Down + promised p.users Up → carry_fault p ≡ Some TooLarge
fault_large p large = ap (λ b. cond b (Some TooLarge) (broken_limit p)) (lt-ltb MAX_PROMISED (promised p.users Down + promised p.users Up) large)

pub carried_is : (p : Promises) (rates : Rates) (rows : List UserRate) (users : List UserSessions) → by_number user_number rows ≡ rates.users → IsRising user_number rows → users ≡ map (carried_entry p) rows
    → record { rates = rates; users = users } ≡ carried_to p rates
carried_is p rates rows users are up is =
    ap (λ us. record { rates = rates; users = us }) (is ∙ ap (map (carried_entry p)) (sym (values-by_number user_number rows up) ∙ ap finite.values are))
