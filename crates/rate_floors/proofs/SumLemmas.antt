-- What is promised after one session more or less of a user is counted.
use Rattle.std.proofs.Common.{◌≡◌, ℕ, ◌+◌, ◌-◌, ◌*◌, ◌<◌, ◌≤◌, Bool, true, false, cond, List, map, get_or, set, sum_by, sym, refl, ap, ◌∙◌, subst, arith, Option, Some, None}
use Rattle.std.specs.FinMap as finite
use Rattle.std.specs.List.{All}
use Rattle.std.specs.Prelude.{nat_eq}
use Rattle.std.proofs.lemmas.Bool.{eqb-true, eq-eqb}
use Rattle.std.proofs.lemmas.List.Elements.{All-set}
use Rattle.std.proofs.lemmas.List.Sums.{sum_by-set, get_or-le-sum_by}
use Rattle.std.proofs.Math.Seq.{map-set_same}
use Rattle.line_rates.specs.declared.ask.Way.{Way}
use Rattle.line_rates.specs.declared.ask.Way.TheVariants.{Down, Up}
use Rattle.line_rates.specs.declared.row.UserRate.{UserRate}
use Rattle.line_rates.specs.Names.{is_number}
use Rattle.line_rates.specs.Stated.{by_number, stated, IsRising, FitsUser}
use Rattle.rate_floors.specs.declared.find.GroupPromise.{GroupPromise}
use Rattle.rate_floors.specs.declared.find.UserSessions.{UserSessions}
use Rattle.rate_floors.specs.declared.fits.TheConstants.{MAX_PROMISED}
use Rattle.line_rates.specs.Put.{IsAt}
use Rattle.rate_floors.specs.Promises.{user_key, group_key, user_row, group_row, floor_in, promised_user, promised, promised_group, with_sessions, with_floors, one_more, one_less, added, taken, IsInGroup, HasNone, IsPromised, IsReported}
use Rattle.rate_floors.proofs.PlaceLemmas.{map_none, map_one, here, elsewhere, nowhere, stands_at, all_mapped, rising_mapped, kept_mapped}
use Rattle.line_rates.proofs.RowLemmas.{other_number}
use Rattle.line_rates.proofs.TickLemmas.{times_more}

times_less : (r l : ℕ) → 0 < r → (r - 1) * l + l ≡ r * l
times_less r l some = let e : r - 1 + 1 ≡ r = omega arith in sym (times_more (r - 1) l) ∙ ap (λ (k : ℕ). k * l) e

-- the entry of a user with another number of sessions
abbrev pub entry_with : (ℕ → ℕ) → UserSessions → UserSessions
entry_with change entry = record { row = entry.row; sessions = change entry.sessions }

-- The user stands at place i.
module _ (users : List UserSessions) (user i : ℕ) (d : UserSessions) (up : IsRising user_key users) (at : IsAt user_key users user i) where
  pub users-set : (change : ℕ → ℕ) → map (with_sessions change user) users ≡ set users i (entry_with change (get_or users i d))
  users-set change = map_one (λ e. nat_eq (user_key e) user) (entry_with change) users i d at.0 (here user_key users user i d at) (elsewhere user_key users user i up at)

  sum_set : (f : UserSessions → ℕ) (change : ℕ → ℕ) → sum_by f (map (with_sessions change user) users) + f (get_or users i d) ≡ sum_by f users + f (entry_with change (get_or users i d))
  sum_set f change = ap (λ us. sum_by f us + f (get_or users i d)) (users-set change) ∙ sum_by-set f users i (entry_with change (get_or users i d)) d at.0

  pub promised-more : (w : Way) → promised (map (with_sessions one_more user) users) w ≡ promised users w + floor_in (get_or users i d).row w
  promised-more w = omega (arith, sum_set (promised_user w) one_more, times_more (get_or users i d).sessions (floor_in (get_or users i d).row w))

  pub promised-less : (w : Way) → 0 < (get_or users i d).sessions → promised (map (with_sessions one_less user) users) w + floor_in (get_or users i d).row w ≡ promised users w
  promised-less w some = omega (arith, sum_set (promised_user w) one_less, times_less (get_or users i d).sessions (floor_in (get_or users i d).row w) some)

  abbrev group_part : Way → ℕ → UserSessions → ℕ
  group_part w g entry = cond (is_number entry.row.group g) (promised_user w entry) 0

  pub group-more : (w : Way) (g : ℕ) (b : Bool) → is_number (get_or users i d).row.group g ≡ b → promised_group (map (with_sessions one_more user) users) w g ≡ promised_group users w g + cond b (floor_in (get_or users i d).row w) 0
  group-more w g b e =
      let x = get_or users i d in
      let before : group_part w g x ≡ cond b (promised_user w x) 0 = ap (λ (c : Bool). cond c (promised_user w x) 0) e in
      let after : group_part w g (entry_with one_more x) ≡ cond b ((x.sessions + 1) * floor_in x.row w) 0 = ap (λ (c : Bool). cond c ((x.sessions + 1) * floor_in x.row w) 0) e in
      go b before after
    where
      go : (b : Bool) → group_part w g (get_or users i d) ≡ cond b (promised_user w (get_or users i d)) 0 → group_part w g (entry_with one_more (get_or users i d)) ≡ cond b (((get_or users i d).sessions + 1) * floor_in (get_or users i d).row w) 0
          → promised_group (map (with_sessions one_more user) users) w g ≡ promised_group users w g + cond b (floor_in (get_or users i d).row w) 0
      go true p q = omega (arith, sum_set (group_part w g) one_more, p, q, times_more (get_or users i d).sessions (floor_in (get_or users i d).row w))
      go false p q = omega (arith, sum_set (group_part w g) one_more, p, q)

  pub group-less : (w : Way) (g : ℕ) (b : Bool) → is_number (get_or users i d).row.group g ≡ b → 0 < (get_or users i d).sessions
      → promised_group (map (with_sessions one_less user) users) w g + cond b (floor_in (get_or users i d).row w) 0 ≡ promised_group users w g
  group-less w g b e some =
      let x = get_or users i d in
      let before : group_part w g x ≡ cond b (promised_user w x) 0 = ap (λ (c : Bool). cond c (promised_user w x) 0) e in
      let after : group_part w g (entry_with one_less x) ≡ cond b ((x.sessions - 1) * floor_in x.row w) 0 = ap (λ (c : Bool). cond c ((x.sessions - 1) * floor_in x.row w) 0) e in
      go b before after
    where
      go : (b : Bool) → group_part w g (get_or users i d) ≡ cond b (promised_user w (get_or users i d)) 0 → group_part w g (entry_with one_less (get_or users i d)) ≡ cond b (((get_or users i d).sessions - 1) * floor_in (get_or users i d).row w) 0
          → promised_group (map (with_sessions one_less user) users) w g + cond b (floor_in (get_or users i d).row w) 0 ≡ promised_group users w g
      go true p q = omega (arith, sum_set (group_part w g) one_less, p, q, times_less (get_or users i d).sessions (floor_in (get_or users i d).row w) some)
      go false p q = omega (arith, sum_set (group_part w g) one_less, p, q)

  more_reported : (entry : GroupPromise) (b : Bool) → is_number (get_or users i d).row.group (group_key entry) ≡ b → IsPromised users entry
      → IsPromised (map (with_sessions one_more user) users) (cond b (record { row = entry.row; down = entry.down + (get_or users i d).row.session_down_floor; up = entry.up + (get_or users i d).row.session_up_floor }) entry)
  more_reported entry true e h = record { down = ap (λ (n : ℕ). n + (get_or users i d).row.session_down_floor) h.down ∙ sym (group-more Down (group_key entry) true e); up = ap (λ (n : ℕ). n + (get_or users i d).row.session_up_floor) h.up ∙ sym (group-more Up (group_key entry) true e) }
  more_reported entry false e h = record { down = h.down ∙ sym (group-more Down (group_key entry) false e ∙ omega arith); up = h.up ∙ sym (group-more Up (group_key entry) false e ∙ omega arith) }

  less_reported : (entry : GroupPromise) (b : Bool) → is_number (get_or users i d).row.group (group_key entry) ≡ b → 0 < (get_or users i d).sessions → IsPromised users entry
      → IsPromised (map (with_sessions one_less user) users) (cond b (record { row = entry.row; down = entry.down - (get_or users i d).row.session_down_floor; up = entry.up - (get_or users i d).row.session_up_floor }) entry)
  less_reported entry true e some h = record { down = omega (arith, h.down, group-less Down (group_key entry) true e some); up = omega (arith, h.up, group-less Up (group_key entry) true e some) }
  less_reported entry false e some h = record { down = omega (arith, h.down, group-less Down (group_key entry) false e some); up = omega (arith, h.up, group-less Up (group_key entry) false e some) }

  same_number : (change : ℕ → ℕ) (entry : UserSessions) → user_key (with_sessions change user entry) ≡ user_key entry
  same_number change entry = elim (nat_eq (user_key entry) user) as (λ b. user_key (cond b (entry_with change entry) entry) ≡ user_key entry) [ true ↦ refl | false ↦ refl ]

  still_fits : (change : ℕ → ℕ) (entry : UserSessions) → FitsUser entry.row → FitsUser (with_sessions change user entry).row
  still_fits change entry h = elim (nat_eq (user_key entry) user) as (λ b. FitsUser (cond b (entry_with change entry) entry).row) [ true ↦ h | false ↦ h ]

  same_group : (change : ℕ → ℕ → ℕ) (row : UserRate) (entry : GroupPromise) → group_key (with_floors change row entry) ≡ group_key entry
  same_group change row entry = elim (is_number row.group (group_key entry)) as (λ b. group_key (cond b (record { row = entry.row; down = change entry.down row.session_down_floor; up = change entry.up row.session_up_floor }) entry) ≡ group_key entry) [ true ↦ refl | false ↦ refl ]

  same_group_row : (change : ℕ → ℕ → ℕ) (row : UserRate) (entry : GroupPromise) → group_row (with_floors change row entry) ≡ group_row entry
  same_group_row change row entry = elim (is_number row.group (group_key entry)) as (λ b. group_row (cond b (record { row = entry.row; down = change entry.down row.session_down_floor; up = change entry.up row.session_up_floor }) entry) ≡ group_row entry) [ true ↦ refl | false ↦ refl ]

  module _ (down_sum up_sum : ℕ) (groups : List GroupPromise) (reported : IsReported down_sum up_sum groups users) where
    pub reported-more : (get_or users i d).sessions + 1 ≤ MAX_PROMISED → down_sum + (get_or users i d).row.session_down_floor + (up_sum + (get_or users i d).row.session_up_floor) ≤ MAX_PROMISED
        → IsReported (down_sum + (get_or users i d).row.session_down_floor) (up_sum + (get_or users i d).row.session_up_floor) (map (with_floors added (get_or users i d).row) groups) (map (with_sessions one_more user) users)
    reported-more few small = record {
      down_reported = ap (λ (n : ℕ). n + (get_or users i d).row.session_down_floor) reported.down_reported ∙ sym (promised-more Down);
      up_reported = ap (λ (n : ℕ). n + (get_or users i d).row.session_up_floor) reported.up_reported ∙ sym (promised-more Up);
      small = small;
      few = subst (All (λ (entry : UserSessions). entry.sessions ≤ MAX_PROMISED)) (sym (users-set one_more)) (All-set (λ (entry : UserSessions). entry.sessions ≤ MAX_PROMISED) users i (entry_with one_more (get_or users i d)) few reported.few);
      users_rise = rising_mapped user_key user_key (with_sessions one_more user) users (same_number one_more) reported.users_rise;
      users_fit = all_mapped (λ (entry : UserSessions). FitsUser entry.row) (λ (entry : UserSessions). FitsUser entry.row) (with_sessions one_more user) users (still_fits one_more) reported.users_fit;
      groups_rise = rising_mapped group_key group_key (with_floors added (get_or users i d).row) groups (same_group added (get_or users i d).row) reported.groups_rise;
      groups_reported = all_mapped (IsPromised users) (IsPromised (map (with_sessions one_more user) users)) (with_floors added (get_or users i d).row) groups (λ entry h. more_reported entry (is_number (get_or users i d).row.group (group_key entry)) refl h) reported.groups_reported;
    }

    pub reported-less : 0 < (get_or users i d).sessions
        → IsReported (down_sum - (get_or users i d).row.session_down_floor) (up_sum - (get_or users i d).row.session_up_floor) (map (with_floors taken (get_or users i d).row) groups) (map (with_sessions one_less user) users)
    reported-less some = record {
      down_reported = omega (arith, reported.down_reported, promised-less Down some);
      up_reported = omega (arith, reported.up_reported, promised-less Up some);
      small = let s = reported.small in omega arith;
      few = subst (All (λ (entry : UserSessions). entry.sessions ≤ MAX_PROMISED)) (sym (users-set one_less))
          (All-set (λ (entry : UserSessions). entry.sessions ≤ MAX_PROMISED) users i (entry_with one_less (get_or users i d)) (let most = reported.few i d at.0 in omega arith) reported.few);
      users_rise = rising_mapped user_key user_key (with_sessions one_less user) users (same_number one_less) reported.users_rise;
      users_fit = all_mapped (λ (entry : UserSessions). FitsUser entry.row) (λ (entry : UserSessions). FitsUser entry.row) (with_sessions one_less user) users (still_fits one_less) reported.users_fit;
      groups_rise = rising_mapped group_key group_key (with_floors taken (get_or users i d).row) groups (same_group taken (get_or users i d).row) reported.groups_rise;
      groups_reported = all_mapped (IsPromised users) (IsPromised (map (with_sessions one_less user) users)) (with_floors taken (get_or users i d).row) groups (λ entry h. less_reported entry (is_number (get_or users i d).row.group (group_key entry)) refl some h) reported.groups_reported;
    }

  -- the rates stay
  pub same_rates : (server down up' : ℕ) (groups : List GroupPromise) (change : ℕ → ℕ) (by : ℕ → ℕ → ℕ) (row : UserRate) → stated server down up' (map group_row (map (with_floors by row) groups)) (map user_row (set users i (entry_with change (get_or users i d)))) ≡ stated server down up' (map group_row groups) (map user_row users)
  same_rates server down up' groups change by row =
      ap (λ gs. stated server down up' gs (map user_row (set users i (entry_with change (get_or users i d))))) (kept_mapped group_row (with_floors by row) groups (same_group_row by row))
      ∙ ap (stated server down up' (map group_row groups)) (map-set_same user_row users i (entry_with change (get_or users i d)) d refl)

-- the entry of a user's group is changed
turned : (m n : ℕ) (b : Bool) → nat_eq m n ≡ b → nat_eq n m ≡ b
turned m n true e = eq-eqb n m (sym (eqb-true m n e))
turned m n false e = other_number n m (λ same. let eq = eq-eqb m n (sym same) in absurd (cc))

pub floors-set : (by : ℕ → ℕ → ℕ) (row : UserRate) (groups : List GroupPromise) (i : ℕ) (d : GroupPromise) → IsRising group_key groups → IsInGroup groups row.group i
    → map (with_floors by row) groups ≡ set groups i (record { row = (get_or groups i d).row; down = by (get_or groups i d).down row.session_down_floor; up = by (get_or groups i d).up row.session_up_floor })
floors-set by row groups i d up at = go row.group refl at
  where
    go : (o : Option ℕ) → row.group ≡ o → IsInGroup groups o i
        → map (with_floors by row) groups ≡ set groups i (record { row = (get_or groups i d).row; down = by (get_or groups i d).down row.session_down_floor; up = by (get_or groups i d).up row.session_up_floor })
    go None e in_none = absurd in_none
    go (Some g) e in_group = map_one (λ entry. is_number row.group (group_key entry)) (λ entry. record { row = entry.row; down = by entry.down row.session_down_floor; up = by entry.up row.session_up_floor }) groups i d in_group.0
        (ap (λ o. is_number o (group_key (get_or groups i d))) e ∙ turned (group_key (get_or groups i d)) g true (here group_key groups g i d in_group))
        (λ j x lt apart. ap (λ o. is_number o (group_key (get_or groups j x))) e ∙ turned (group_key (get_or groups j x)) g false (elsewhere group_key groups g i up in_group j x lt apart))

pub floors-none : (by : ℕ → ℕ → ℕ) (row : UserRate) (groups : List GroupPromise) → HasNone groups row.group → map (with_floors by row) groups ≡ groups
floors-none by row groups none = go row.group refl none
  where
    go : (o : Option ℕ) → row.group ≡ o → HasNone groups o → map (with_floors by row) groups ≡ groups
    go None e h = map_none (λ entry. is_number row.group (group_key entry)) (λ entry. record { row = entry.row; down = by entry.down row.session_down_floor; up = by entry.up row.session_up_floor }) groups (λ j x lt. ap (λ o. is_number o (group_key (get_or groups j x))) e)
    go (Some g) e h = map_none (λ entry. is_number row.group (group_key entry)) (λ entry. record { row = entry.row; down = by entry.down row.session_down_floor; up = by entry.up row.session_up_floor }) groups
        (λ j x lt. ap (λ o. is_number o (group_key (get_or groups j x))) e ∙ turned (group_key (get_or groups j x)) g false (nowhere group_key groups g h j x lt))

-- where a user that has a row stands
pub user_at : (users : List UserSessions) (entry : UserSessions) → IsRising user_key users → finite.get (by_number user_key users) (user_key entry) ≡ Some entry → (i : ℕ) × IsAt user_key users (user_key entry) i × ((d : UserSessions) → get_or users i d ≡ entry)
user_at users entry up e =
    let s = stands_at user_key users (user_key entry) entry up e in
    (s.0, (s.1, (λ d. e ∙ ap (λ x. Some x) (sym (s.2 d))), (λ d. ap user_key (s.2 d))), s.2)

-- what is promised with one more session of a user
pub line_after : (users : List UserSessions) (entry : UserSessions) → IsRising user_key users → finite.get (by_number user_key users) (user_key entry) ≡ Some entry → (w : Way)
    → promised (map (with_sessions one_more (user_key entry)) users) w ≡ promised users w + floor_in entry.row w
line_after users entry up e w =
    let at = user_at users entry up e in
    promised-more users (user_key entry) at.0 entry up at.1 w ∙ ap (λ (x : UserSessions). promised users w + floor_in x.row w) (at.2 entry)

pub group_after : (users : List UserSessions) (entry : UserSessions) → IsRising user_key users → finite.get (by_number user_key users) (user_key entry) ≡ Some entry → (w : Way) (g : ℕ) → entry.row.group ≡ Some g
    → promised_group (map (with_sessions one_more (user_key entry)) users) w g ≡ promised_group users w g + floor_in entry.row w
group_after users entry up e w g in_group =
    let at = user_at users entry up e in
    group-more users (user_key entry) at.0 entry up at.1 w g true (ap (λ (x : UserSessions). is_number x.row.group g) (at.2 entry) ∙ ap (λ o. is_number o g) in_group ∙ eq-eqb g g refl)
    ∙ ap (λ (x : UserSessions). promised_group users w g + floor_in x.row w) (at.2 entry)

pub user_within : (users : List UserSessions) (entry : UserSessions) → IsRising user_key users → finite.get (by_number user_key users) (user_key entry) ≡ Some entry → (w : Way) → promised_user w entry ≤ promised users w
user_within users entry up e w =
    let at = user_at users entry up e in
    let le = get_or-le-sum_by (promised_user w) users at.0 entry at.1.0 in
    subst (λ (x : UserSessions). promised_user w x ≤ promised users w) (at.2 entry) le

pub of_user : (P : UserSessions → Type 0) (users : List UserSessions) (entry : UserSessions) → IsRising user_key users → finite.get (by_number user_key users) (user_key entry) ≡ Some entry → All P users → P entry
of_user P users entry up e all = let at = user_at users entry up e in subst P (at.2 entry) (all at.0 entry at.1.0)
