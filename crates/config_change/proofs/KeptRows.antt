-- Rows of users and groups that a configuration has no longer.
use Rattle.std.proofs.Common.{◌≡◌, ◌∙◌, ℕ, suc, ◌+◌, ◌<◌, Bool, true, false, cond, not, List, [], ◌∷◌, ◌++◌, Option, Some, None, map, length, filter, get_or, is_some, nat_eq, option_map, refl, sym, ap, subst, arith}
use Rattle.std.specs.Option.{option_or}
use Rattle.std.specs.FinMap as finite
use Rattle.std.specs.FinMap.{entries, entries-insert, len-entries, len-empty}
use Rattle.std.specs.FinMap.Entries.{put, by_order}
use Rattle.std.specs.Ordering.{nat_cmp}
use Rattle.std.specs.declared.cmp.Ordering.{Ordering}
use Rattle.std.specs.declared.cmp.Ordering.TheVariants.{Less, Equal, Greater}
use Rattle.std.proofs.lemmas.Bool.{eqb-true}
use Rattle.std.proofs.lemmas.Cmp.{ranked, nat_cmp_total}
use Rattle.line_rates.specs.Rates.{Rates, shared_by}
use Rattle.line_rates.specs.Stated.{by_number, group_number, user_number, stated, IsRising}
use Rattle.line_rates.specs.declared.row.GroupRate.{GroupRate}
use Rattle.line_rates.specs.declared.row.UserRate.{UserRate}
use Rattle.line_rates.proofs.RowLemmas.{first_row, get-by_number}
use Rattle.config_change.specs.Past.{without_guarantee, past_groups, past_users, groups_with_past, users_with_past, KeepPast}

-- ---- the rows of a map

abbrev entry_of : {X : Type 0} → (X → ℕ) → X → ℕ × X
entry_of number row = (number row, row)

no_entries : {X : Type 0} (es : List (ℕ × X)) → length es ≡ 0 → es ≡ []
no_entries [] e = refl
no_entries (x ∷ es) e = absurd (omega arith)

is_less : (m n : ℕ) (o : Ordering) → o ≡ nat_cmp m n → m < n → o ≡ Less
is_less m n Less e lt = refl
is_less m n Equal e lt = let h = ranked m n Equal e in absurd (omega arith)
is_less m n Greater e lt = let h = ranked m n Greater e in absurd (omega arith)

rising_rest : {X : Type 0} (number : X → ℕ) (x : X) (xs : List X) → IsRising number (x ∷ xs) → IsRising number xs
rising_rest number x xs up k d lt =
    let step : number (get_or (x ∷ xs) (suc k) d) < number (get_or (x ∷ xs) (suc k + 1) d) = up (suc k) d (omega arith) in
    let e : suc k + 1 ≡ suc (k + 1) = omega arith in
    let at : number (get_or (x ∷ xs) (suc k + 1) d) ≡ number (get_or (x ∷ xs) (suc (k + 1)) d) = ap (λ (j : ℕ). number (get_or (x ∷ xs) j d)) e in
    subst (λ n. number (get_or xs k d) < n) at step

put_first : {X : Type 0} (number : X → ℕ) (x : X) (xs : List X) → IsRising number (x ∷ xs) → put nat_cmp (number x) x (map (entry_of number) xs) ≡ map (entry_of number) (x ∷ xs)
put_first number x [] up = refl
put_first number x (y ∷ xs) up =
    let lt : number x < number y = up 0 x (omega arith) in
    ap (λ o. by_order o (map (entry_of number) (x ∷ y ∷ xs)) ((number y, x) ∷ map (entry_of number) xs) (entry_of number y ∷ put nat_cmp (number x) x (map (entry_of number) xs))) (is_less (number x) (number y) (nat_cmp (number x) (number y)) refl lt)

entries_rising : {X : Type 0} (number : X → ℕ) (xs : List X) → IsRising number xs → entries (by_number number xs) ≡ map (entry_of number) xs
entries_rising {X} number [] up = no_entries (entries (finite.empty {X = X} {R = nat_cmp})) (sym (len-entries finite.empty) ∙ len-empty nat_cmp X)
entries_rising number (x ∷ xs) up =
    entries-insert nat_cmp_total (by_number number xs) (number x) x
    ∙ ap (put nat_cmp (number x) x) (entries_rising number xs (rising_rest number x xs up))
    ∙ put_first number x xs up

rows_back : {X : Type 0} (number : X → ℕ) (xs : List X) → map (λ e. e.1) (map (entry_of number) xs) ≡ xs
rows_back number [] = refl
rows_back number (x ∷ xs) = ap (λ ys. x ∷ ys) (rows_back number xs)

-- the rows of a map in the order of their numbers
pub listed : {X : Type 0} (number : X → ℕ) (xs : List X) (m : finite.FinMap nat_cmp X) → IsRising number xs → by_number number xs ≡ m → xs ≡ finite.values m
listed number xs m up is = sym (rows_back number xs) ∙ ap (map (λ e. e.1)) (sym (entries_rising number xs up)) ∙ ap finite.values is

-- ---- rows of the past

by_first : {X : Type 0} (o p q : Option X) → (is_some o ≡ false → p ≡ q) → option_or o p ≡ option_or o q
by_first None p q same = same refl
by_first (Some x) p q same = refl

first_both : {X : Type 0} (number : X → ℕ) (q : ℕ) (xs ys : List X) → first_row number q (xs ++ ys) ≡ option_or (first_row number q xs) (first_row number q ys)
first_both number q [] ys = refl
first_both {X} number q (x ∷ xs) ys = go (first_both number q xs ys) (nat_eq (number x) q)
  where
    go : first_row number q (xs ++ ys) ≡ option_or (first_row number q xs) (first_row number q ys) → (b : Bool)
        → cond b (Some x) (first_row number q (xs ++ ys)) ≡ option_or (cond b (Some x) (first_row number q xs)) (first_row number q ys)
    go more true = refl
    go more false = more

-- what a test of numbers leaves out has other numbers
first_kept : {X : Type 0} (number : X → ℕ) (has : ℕ → Bool) (q : ℕ) → has q ≡ false → (xs : List X) → first_row number q (filter (λ x. not (has (number x))) xs) ≡ first_row number q xs
first_kept number has q none [] = refl
first_kept {X} number has q none (x ∷ xs) = go (first_kept number has q none xs) (has (number x)) (nat_eq (number x) q) refl refl
  where
    rest : List X
    rest = filter (λ x. not (has (number x))) xs

    go : first_row number q rest ≡ first_row number q xs → (b c : Bool) → has (number x) ≡ b → nat_eq (number x) q ≡ c → first_row number q (cond (not b) (x ∷ rest) rest) ≡ cond c (Some x) (first_row number q xs)
    go more true true h e = let same : number x ≡ q = eqb-true (number x) q e in let no : has (number x) ≡ false = ap has same ∙ none in absurd (cc)
    go more true false h e = more
    go more false true h e = ap (λ b. cond b (Some x) (first_row number q rest)) e
    go more false false h e = ap (λ b. cond b (Some x) (first_row number q rest)) e ∙ more

first_unguaranteed : (q : ℕ) (xs : List UserRate) → first_row user_number q (map without_guarantee xs) ≡ option_map without_guarantee (first_row user_number q xs)
first_unguaranteed q [] = refl
first_unguaranteed q (x ∷ xs) = go (first_unguaranteed q xs) (nat_eq (user_number x) q)
  where
    go : first_row user_number q (map without_guarantee xs) ≡ option_map without_guarantee (first_row user_number q xs) → (b : Bool)
        → cond b (Some (without_guarantee x)) (first_row user_number q (map without_guarantee xs)) ≡ option_map without_guarantee (cond b (Some x) (first_row user_number q xs))
    go more true = refl
    go more false = more

-- the row of a number among the rows of a map
at_number : {X : Type 0} (number : X → ℕ) (m : finite.FinMap nat_cmp X) (q : ℕ) → by_number number (finite.values m) ≡ m → first_row number q (finite.values m) ≡ finite.get m q
at_number number m q is = sym (get-by_number number q (finite.values m)) ∙ ap (λ n. finite.get n q) is

group_at : (rates earlier : Rates) (q : ℕ) → by_number group_number (finite.values rates.groups) ≡ rates.groups → by_number group_number (finite.values earlier.groups) ≡ earlier.groups
    → finite.get (by_number group_number (groups_with_past rates earlier)) q ≡ option_or (finite.get rates.groups q) (finite.get earlier.groups q)
group_at rates earlier q new old =
    get-by_number group_number q (groups_with_past rates earlier)
    ∙ first_both group_number q (finite.values rates.groups) (past_groups rates (finite.values earlier.groups))
    ∙ ap (λ o. option_or o (first_row group_number q (past_groups rates (finite.values earlier.groups)))) (at_number group_number rates.groups q new)
    ∙ by_first (finite.get rates.groups q) (first_row group_number q (past_groups rates (finite.values earlier.groups))) (finite.get earlier.groups q) (λ none.
    first_kept group_number (finite.contains_key rates.groups) q none (finite.values earlier.groups) ∙ at_number group_number earlier.groups q old)

user_at : (rates earlier : Rates) (q : ℕ) → by_number user_number (finite.values rates.users) ≡ rates.users → by_number user_number (finite.values earlier.users) ≡ earlier.users
    → finite.get (by_number user_number (users_with_past rates earlier)) q ≡ option_or (finite.get rates.users q) (option_map without_guarantee (finite.get earlier.users q))
user_at rates earlier q new old =
    get-by_number user_number q (users_with_past rates earlier)
    ∙ first_both user_number q (finite.values rates.users) (past_users rates (finite.values earlier.users))
    ∙ ap (λ o. option_or o (first_row user_number q (past_users rates (finite.values earlier.users)))) (at_number user_number rates.users q new)
    ∙ by_first (finite.get rates.users q) (first_row user_number q (past_users rates (finite.values earlier.users))) (option_map without_guarantee (finite.get earlier.users q)) (λ none.
    first_unguaranteed q (filter (λ row. not (finite.contains_key rates.users row.user)) (finite.values earlier.users))
    ∙ ap (option_map without_guarantee) (first_kept user_number (finite.contains_key rates.users) q none (finite.values earlier.users) ∙ at_number user_number earlier.users q old))

pub keep_past : (rates earlier all : Rates) → all ≡ shared_by earlier.share_by (stated rates.server rates.down rates.up (groups_with_past rates earlier) (users_with_past rates earlier))
    → by_number group_number (finite.values rates.groups) ≡ rates.groups → by_number group_number (finite.values earlier.groups) ≡ earlier.groups
    → by_number user_number (finite.values rates.users) ≡ rates.users → by_number user_number (finite.values earlier.users) ≡ earlier.users → KeepPast rates earlier all
keep_past rates earlier all is groups old_groups users old_users = record {
  server = ap (λ (r : Rates). r.server) is;
  down = ap (λ (r : Rates). r.down) is;
  up = ap (λ (r : Rates). r.up) is;
  share_by = ap (λ (r : Rates). r.share_by) is;
  groups = λ q. ap (λ (r : Rates). finite.get r.groups q) is ∙ group_at rates earlier q groups old_groups;
  users = λ q. ap (λ (r : Rates). finite.get r.users q) is ∙ user_at rates earlier q users old_users;
}
