-- Full credits: no refill in the same second changes them.
use Rattle.std.proofs.Common.{◌≡◌, ℕ, ◌+◌, ◌-◌, ◌*◌, ◌/◌, ◌%◌, ◌<◌, ◌≤◌, Bool, true, false, ◌&&◌, ◌||◌, List, get_or, refl, sym, ap, ◌∙◌, arith}
use Rattle.std.specs.List.{All}
use Rattle.std.specs.Prelude.{min, nat_eq}
use Rattle.std.proofs.lemmas.Bool.{eqb-true, and_parts}
use Rattle.line_rates.specs.declared.row.UserRate.{UserRate}
use Rattle.line_rates.specs.Rates.{Rates}
use Rattle.round_pace.specs.declared.credit.Credit.{Credit}
use Rattle.round_pace.specs.declared.paced.GroupPace.{GroupPace}
use Rattle.round_pace.specs.declared.paced.UserPace.{UserPace}
use Rattle.round_pace.specs.Credits.{IsCredit, refill_row}
use Rattle.round_pace.specs.Earned.{share, most_kept, begun_in, carried, earned, refilled}
use Rattle.round_pace.specs.FloorsFit.{ticks_since, owed_in}
use Rattle.round_pace.specs.Offered.{refill_group, refill_user, credit_rate, floor_rate, offer_user}
use Rattle.round_pace.specs.Paced.{IsGroupPace, IsUserPace}
use Rattle.round_pace.specs.Quiet.{is_full, is_full_group, is_full_user, AllMarked, AreOfSecond, IsQuietGroup, IsQuietUser}
use Rattle.round_pace.proofs.Offers.{carried_all}

nothing : (k : ℕ) → share 0 k ≡ 0
nothing k = omega arith

full_left : (rate left begun tick : ℕ) → left ≤ most_kept rate → 0 < begun_in begun tick → (b : Bool) → nat_eq rate 0 ≡ b → (b || nat_eq left (most_kept rate)) ≡ true → refilled rate left begun tick ≡ left
full_left rate left begun tick within some true none full =
    let zero : rate ≡ 0 = eqb-true rate 0 none in
    let no : earned rate (begun_in begun tick) tick ≡ 0 = ap (λ (r : ℕ). earned r (begun_in begun tick) tick) zero ∙ plain (share 0 (tick % 500 + 1)) (share 0 (begun_in begun tick)) (nothing (tick % 500 + 1)) in
    least (carried left (begun_in begun tick)) (earned rate (begun_in begun tick) tick) left (most_kept rate) (carried_all left (begun_in begun tick) some) no within
  where
    plain : (x y : ℕ) → x ≡ 0 → x - y ≡ 0
    plain x y a = omega arith

    least : (c e l m : ℕ) → c ≡ l → e ≡ 0 → l ≤ m → min (c + e) m ≡ l
    least c e l m a b d = omega arith
full_left rate left begun tick within some false none full =
    most (carried left (begun_in begun tick)) (earned rate (begun_in begun tick) tick) left (most_kept rate) (carried_all left (begun_in begun tick) some) (eqb-true left (most_kept rate) full)
  where
    most : (c e l m : ℕ) → c ≡ l → l ≡ m → min (c + e) m ≡ l
    most c e l m a b = omega arith

full_row : (begun tick : ℕ) (c : Credit) → IsCredit c → 0 < begun_in begun tick → is_full c ≡ true → refill_row begun tick c ≡ c
full_row begun tick c credit some full =
    ap (λ (l : ℕ). record { rate = c.rate; left = l }) (full_left c.rate c.left begun tick credit.left_fits some (nat_eq c.rate 0) refl full)

full_group : (begun tick : ℕ) (g : GroupPace) → IsGroupPace g → 0 < begun_in begun tick → is_full_group g ≡ true → refill_group begun tick g ≡ g
full_group begun tick g paced some full =
    let both = and_parts (is_full g.down) (is_full g.up) full in
    let down : refill_row begun tick g.down ≡ g.down = full_row begun tick g.down paced.down some both.0 in
    let up : refill_row begun tick g.up ≡ g.up = full_row begun tick g.up paced.up some both.1 in
    λ i. record { group = g.group; down = down i; up = up i }

-- the parts of a user's test
record IsFullUser (u : UserPace) : Type 0 where
  down : is_full u.down ≡ true
  up : is_full u.up ≡ true
  session_down : is_full u.session_down ≡ true
  session_up : is_full u.session_up ≡ true
  down_floor : u.row.session_down_floor ≡ 0
  up_floor : u.row.session_up_floor ≡ 0

user_parts : (u : UserPace) → is_full_user u ≡ true → IsFullUser u
user_parts u full =
    let rows = is_full u.down && is_full u.up in
    let sessions = is_full u.session_down && is_full u.session_up in
    let floors = nat_eq u.row.session_down_floor 0 && nat_eq u.row.session_up_floor 0 in
    let a = and_parts (rows && sessions) floors full in
    let b = and_parts rows sessions a.0 in
    let r = and_parts (is_full u.down) (is_full u.up) b.0 in
    let s = and_parts (is_full u.session_down) (is_full u.session_up) b.1 in
    let f = and_parts (nat_eq u.row.session_down_floor 0) (nat_eq u.row.session_up_floor 0) a.1 in
    record {
      down = r.0;
      up = r.1;
      session_down = s.0;
      session_up = s.1;
      down_floor = eqb-true u.row.session_down_floor 0 f.0;
      up_floor = eqb-true u.row.session_up_floor 0 f.1;
    }

-- without a guarantee nothing is owed
owed_none : (floor owed begun tick : ℕ) → floor ≡ 0 → owed ≤ floor * 50 → owed_in floor owed begun tick ≡ owed
owed_none floor owed begun tick zero most =
    let no : floor * 50 ≡ 0 = ap (λ (f : ℕ). f * 50) zero in
    plain (carried owed (begun_in begun tick) + floor * ticks_since begun tick) (floor * 50) owed no most
  where
    plain : (x m o : ℕ) → m ≡ 0 → o ≤ m → min x m ≡ o
    plain x m o a b = omega (arith, a, b)

full_user : (begun tick : ℕ) (u : UserPace) → IsUserPace u → 0 < begun_in begun tick → is_full_user u ≡ true → refill_user begun tick u ≡ u
full_user begun tick u paced some full =
    let parts = user_parts u full in
    let down : refill_row begun tick u.down ≡ u.down = full_row begun tick u.down paced.down some parts.down in
    let up : refill_row begun tick u.up ≡ u.up = full_row begun tick u.up paced.up some parts.up in
    let session_down : refill_row begun tick u.session_down ≡ u.session_down = full_row begun tick u.session_down paced.session_down some parts.session_down in
    let session_up : refill_row begun tick u.session_up ≡ u.session_up = full_row begun tick u.session_up paced.session_up some parts.session_up in
    let down_owed : owed_in u.row.session_down_floor u.down_owed begun tick ≡ u.down_owed = owed_none u.row.session_down_floor u.down_owed begun tick parts.down_floor paced.down_owed in
    let up_owed : owed_in u.row.session_up_floor u.up_owed begun tick ≡ u.up_owed = owed_none u.row.session_up_floor u.up_owed begun tick parts.up_floor paced.up_owed in
    λ i. record { row = u.row; down = down i; up = up i; session_down = session_down i; session_up = session_up i; down_owed = down_owed i; up_owed = up_owed i }

-- quiet rows stay as they are in a later tick of the same second
pub groups_stay : (offered : Rates) (begun tick : ℕ) (old new : List Bool) (gs : List GroupPace) → All IsGroupPace gs → AreOfSecond begun tick old new → AllMarked (IsQuietGroup offered) old gs → AllMarked (λ g. refill_group begun tick g ≡ g) new gs
groups_stay offered begun tick old new gs paces of quiet k d lt m =
    let s = of k m in
    let q = quiet k d lt s.0 in
    full_group begun tick (get_or gs k d) (paces k d lt) s.1 q.0

pub users_stay : (offered : Rates) (begun tick : ℕ) (old new : List Bool) (us : List UserPace) → All IsUserPace us → AreOfSecond begun tick old new → AllMarked (IsQuietUser offered) old us → AllMarked (λ u. refill_user begun tick u ≡ u) new us
users_stay offered begun tick old new us paces of quiet k d lt m =
    let s = of k m in
    let q = quiet k d lt s.0 in
    full_user begun tick (get_or us k d) (paces k d lt) s.1 q.0

-- the limits have the same row for each number of parts of ticks
floor_none : (floor owed ticks : ℕ) → floor ≡ 0 → floor_rate floor owed ticks ≡ 0
floor_none floor owed ticks zero = ap (λ (f : ℕ). floor_rate f owed ticks) zero ∙ none (0 * ticks) (no ticks)
  where
    no : (k : ℕ) → 0 * k ≡ 0
    no k = omega arith

    none : (x : ℕ) → x ≡ 0 → 10 * (min owed (x / 1000) / 500) ≡ 0
    none x e = omega (arith, e)

with_floors : UserPace → ℕ → ℕ → UserRate
with_floors u a b = record {
  user = u.row.user;
  group = u.row.group;
  down = credit_rate u.down;
  up = credit_rate u.up;
  session_down = credit_rate u.session_down;
  session_up = credit_rate u.session_up;
  session_down_floor = a;
  session_up_floor = b;
}

pub offer_full : (a b s t : ℕ) (u : UserPace) → is_full_user u ≡ true → offer_user a b u ≡ offer_user s t u
unfolding with_floors
offer_full a b s t u full =
    let parts = user_parts u full in
    let down : floor_rate u.row.session_down_floor u.down_owed a ≡ floor_rate u.row.session_down_floor u.down_owed s = floor_none u.row.session_down_floor u.down_owed a parts.down_floor ∙ sym (floor_none u.row.session_down_floor u.down_owed s parts.down_floor) in
    let up : floor_rate u.row.session_up_floor u.up_owed b ≡ floor_rate u.row.session_up_floor u.up_owed t = floor_none u.row.session_up_floor u.up_owed b parts.up_floor ∙ sym (floor_none u.row.session_up_floor u.up_owed t parts.up_floor) in
    ap (λ x. with_floors u x (floor_rate u.row.session_up_floor u.up_owed b)) down ∙ ap (λ x. with_floors u (floor_rate u.row.session_down_floor u.down_owed s) x) up
