-- Rows that tables state have no fault: their rates are in range, no number stands twice, and each group has a row.
use Rattle.std.proofs.Common.{◌≡◌, ◌≢◌, ℕ, ◌+◌, ◌<◌, ◌≤◌, Bool, true, false, not, cond, ◌||◌, List, [], ◌∷◌, length, map, Option, Some, None, option_map, refl, ap, ◌∙◌, arith}
use Rattle.std.specs.Borrow.{Bor}
use Rattle.std.specs.Option.{is_some}
use Rattle.std.specs.Prelude.{nat_eq, nat_lt, count_by, bytes_eq}
use Rattle.std.specs.FinMap as finite
use Rattle.std.specs.List.{list_any}
use Rattle.std.proofs.lemmas.Bool.{eqb-true, eq-eqb, le-ltb, false_from_ne_true}
use Rattle.std.proofs.lemmas.List.Sums.{sum_by-cons}
use Rattle.line_rates.specs.Stated as stated
use Rattle.line_rates.specs.Stated.{is_too_large, has_large_group, has_large_user, has_twice, has_no_row, has_stray_user, by_number, limits_fault}
use Rattle.line_rates.specs.declared.rate.TheConstants.{MAX_RATE}
use Rattle.line_rates.proofs.RowLemmas.{first_row, get-by_number}
use Rattle.config_file.specs.declared.stated.ServerTable.{ServerTable}
use Rattle.config_file.specs.declared.stated.GroupTable.{GroupTable}
use Rattle.config_file.specs.declared.stated.UserTable.{UserTable}
use Rattle.server_config.specs.Groups.{number_named, group_in}
use Rattle.server_config.specs.RateRows.{numbered, group_row, user_row, group_rows, user_rows, AreRowsOf}
use Rattle.server_config.specs.declared.rate_rows.RateRows.{RateRows}
use Rattle.line_rates.specs.declared.fault.LimitsFault.{LimitsFault}

-- ---- rates in range

small : (rate : ℕ) → rate ≤ MAX_RATE → is_too_large rate ≡ false
small rate le = le-ltb MAX_RATE rate le

groups_are_small : (k : ℕ) (groups : List GroupTable) → has_large_group (numbered group_row k groups) ≡ false
groups_are_small k [] = refl
groups_are_small k (group ∷ groups) = rw (small group.down_rate group.down_fits, small group.up_rate group.up_fits, groups_are_small (k + 1) groups)

users_are_small : (all : List GroupTable) (k : ℕ) (users : List UserTable) → has_large_user (numbered (user_row all) k users) ≡ false
users_are_small all k [] = refl
users_are_small all k (user ∷ users) = rw (
  small user.down_rate user.down_fits,
  small user.up_rate user.up_fits,
  small user.session_down_rate user.session_down_fits,
  small user.session_up_rate user.session_up_fits,
  small user.session_down_floor user.session_down_floor_fits,
  small user.session_up_floor user.session_up_floor_fits,
  users_are_small all (k + 1) users,
)

-- ---- numbers that stand once

abbrev one_if : Bool → ℕ
one_if b = cond b 1 0

abbrev one_at : ℕ → ℕ → ℕ
one_at n m = cond (nat_eq n m) 1 0

any_none : (p : ℕ → Bool) → ((n : ℕ) → p n ≡ false) → (ns : List ℕ) → list_any p ns ≡ false
any_none p none [] = refl
any_none p none (n ∷ ns) = ap (λ (b : Bool). b || list_any p ns) (none n) ∙ any_none p none ns

module _ {X Y : Type 0} (row : ℕ → X → Y) (number : Y → ℕ) (is : (k : ℕ) (x : X) → number (row k x) ≡ k) where
  apart : (n k : ℕ) (x : X) → n < k → one_at n (number (row k x)) ≡ 0
  apart n k x less = ap one_if (false_from_ne_true (nat_eq n (number (row k x))) (λ e. let same = eqb-true n (number (row k x)) e in let at = is k x in absurd (omega arith)))

  none_below : (n k : ℕ) (xs : List X) → n < k → count_by (nat_eq n) (map number (numbered row k xs)) ≡ 0
  none_below n k [] less = refl
  none_below n k (x ∷ xs) less =
      omega (arith, sum_by-cons (one_at n) (number (row k x)) (map number (numbered row (k + 1) xs)), apart n k x less, none_below n (k + 1) xs (omega arith))

  once_by : (n k : ℕ) (x : X) (xs : List X) → count_by (nat_eq n) (map number (numbered row (k + 1) xs)) ≤ 1 → (b : Bool) → nat_eq n (number (row k x)) ≡ b
      → count_by (nat_eq n) (map number (numbered row k (x ∷ xs))) ≤ 1
  once_by n k x xs more true e =
      let same = eqb-true n (number (row k x)) e in
      let at = is k x in
      let one : one_at n (number (row k x)) ≡ 1 = ap one_if e in
      omega (arith, sum_by-cons (one_at n) (number (row k x)) (map number (numbered row (k + 1) xs)), none_below n (k + 1) xs (omega arith))
  once_by n k x xs more false e =
      let none : one_at n (number (row k x)) ≡ 0 = ap one_if e in
      omega (arith, sum_by-cons (one_at n) (number (row k x)) (map number (numbered row (k + 1) xs)))

  once : (n k : ℕ) (xs : List X) → count_by (nat_eq n) (map number (numbered row k xs)) ≤ 1
  once n k [] = omega arith
  once n k (x ∷ xs) = once_by n k x xs (once n (k + 1) xs) (nat_eq n (number (row k x))) refl

  not_twice : (k : ℕ) (xs : List X) → has_twice (map number (numbered row k xs)) ≡ false
  not_twice k xs =
      any_none (λ n. nat_lt 1 (count_by (nat_eq n) (map number (numbered row k xs)))) (λ n. le-ltb 1 (count_by (nat_eq n) (map number (numbered row k xs))) (once n k xs))
      (map number (numbered row k xs))

  stands_by : (n k : ℕ) (x : X) (xs : List X) → (k ≢ n → is_some (first_row number n (numbered row (k + 1) xs)) ≡ true) → (b : Bool) → nat_eq (number (row k x)) n ≡ b
      → is_some (cond b (Some (row k x)) (first_row number n (numbered row (k + 1) xs))) ≡ true
  stands_by n k x xs more true e = refl
  stands_by n k x xs more false e = more (λ same. let yes = eq-eqb (number (row k x)) n (is k x ∙ same) in absurd (cc))

  -- a number of the range is that of a row
  stands : (n k : ℕ) (xs : List X) → k ≤ n → n < k + length xs → is_some (first_row number n (numbered row k xs)) ≡ true
  stands n k [] low high = absurd (omega arith)
  stands n k (x ∷ xs) low high = stands_by n k x xs (λ other. stands n (k + 1) xs (omega arith) (omega arith)) (nat_eq (number (row k x)) n) refl

-- ---- groups that have a row

some_less : (m n : ℕ) (first : Option ℕ) → ((k : ℕ) → first ≡ Some k → k < m) → option_map (λ k. k + 1) first ≡ Some n → n < m + 1
some_less m n None less e = absurd (cc)
some_less m n (Some k) less e =
    let before = less k refl in
    let same : k + 1 ≡ n = cc in
    omega arith

named_by : (groups : List GroupTable) (name : List ℕ) (n : ℕ) → ((k : ℕ) → number_named groups name ≡ Some k → k < length groups) → (b : Bool)
    → cond b (Some 0) (option_map (λ k. k + 1) (number_named groups name)) ≡ Some n → n < length groups + 1
named_by groups name n below true is = let same : 0 ≡ n = cc in omega arith
named_by groups name n below false is = some_less (length groups) n (number_named groups name) below is

named_below : (groups : List GroupTable) (name : List ℕ) (n : ℕ) → number_named groups name ≡ Some n → n < length groups
named_below [] name n e = absurd (cc)
named_below (group ∷ groups) name n e =
    let below = named_by groups name n (λ k at. named_below groups name k at) (bytes_eq group.name.now name) e in omega arith

has_row : (groups : List GroupTable) (name : List ℕ) (found : Option ℕ) → number_named groups name ≡ found → has_no_row (group_rows groups) found ≡ false
has_row groups name None at = refl
has_row groups name (Some n) at =
    let below = named_below groups name n at in
    let there : finite.contains_key (by_number stated.group_number (group_rows groups)) n ≡ true =
    ap is_some (get-by_number stated.group_number n (group_rows groups)) ∙ stands group_row stated.group_number (λ k x. refl) n 0 groups (omega arith) (omega arith) in
    ap not there

in_row : (groups : List GroupTable) (group : Option (Bor (List ℕ))) → has_no_row (group_rows groups) (group_in groups group) ≡ false
in_row groups None = refl
in_row groups (Some name) = has_row groups name.now (number_named groups name.now) refl

none_stray : (groups : List GroupTable) (k : ℕ) (users : List UserTable) → has_stray_user (group_rows groups) (numbered (user_row groups) k users) ≡ false
none_stray groups k [] = refl
none_stray groups k (user ∷ users) = rw (in_row groups user.group, none_stray groups (k + 1) users)

-- ---- all together

pub no_fault : (server : ServerTable) (groups : List GroupTable) (users : List UserTable)
    → limits_fault server.rate server.down_rate server.up_rate (group_rows groups) (user_rows groups users) ≡ None
no_fault server groups users = rw (
  small server.rate server.rate_fits,
  small server.down_rate server.down_fits,
  small server.up_rate server.up_fits,
  groups_are_small 0 groups,
  users_are_small groups 0 users,
  not_twice group_row stated.group_number (λ k x. refl) 0 groups,
  not_twice (user_row groups) stated.user_number (λ k x. refl) 0 users,
  none_stray groups 0 users,
)

-- so they are not refused
pub not_refused : (server : ServerTable) (groups : List GroupTable) (users : List UserTable) (rows : RateRows) (fault : LimitsFault) → AreRowsOf groups users rows
    → limits_fault server.rate server.down_rate server.up_rate rows.groups.items rows.users.items ≡ Some fault → ⊥
not_refused server groups users rows fault are is =
    let none : limits_fault server.rate server.down_rate server.up_rate rows.groups.items rows.users.items ≡ None = rw (are.groups_are, are.users_are) (no_fault server groups users) in
    absurd (cc)
