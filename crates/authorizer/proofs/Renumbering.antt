-- Users that keep their numbers: as the code lists and writes them, and as they are defined.
use Rattle.std.proofs.Common.{◌≡◌, ℕ, ◌+◌, ◌-◌, ◌^◌, ◌<◌, ◌≤◌, zero, suc, Bool, true, false, cond, not, ◌&&◌, ◌||◌, List, [], ◌∷◌, Option, Some, None, Ok, Err, nat_le, MatchOption, Bor, map, min, length, nat_lt, nat_eq, count_by, refl, sym, ap, subst, ◌∙◌, arith, T}
use Rattle.std.specs.List.{filter, list_any, AllByRecursion, AllWithin}
use Rattle.std.specs.List.Sorted.{IsPermutation}
use Rattle.std.specs.List.Sorted.{IsStrictlySortedBy}
use Rattle.std.specs.Option.{option_map, is_some}
use Rattle.std.specs.BTreeMap as tree
use Rattle.std.specs.BTreeMap.{BTreeMap}
use Rattle.std.specs.Cmp.Lexicographic.{slice_cmp}
use Rattle.std.proofs.lemmas.Bool.{ltb-true, eqb-true, eq-eqb, le-leb, lt-leb, false≢true}
use Rattle.std.proofs.lemmas.Cmp.{nat_list_cmp_total}
use Rattle.std.proofs.lemmas.List.Sorted.{sum_by-IsPermutation, length_permutation}
use Rattle.std.proofs.lemmas.List.Sums.{sum_by-cons, count_by-le-length}
use Rattle.std.specs.FinMap as finite
use Rattle.std.specs.FinMap.{find, is_sorted, get-entries, get-insert, get-from_entries, get-from_sorted, entries-from_sorted, entries_sorted, from_entries, from_sorted}
use Rattle.std.specs.FinMap.Entries.{below_all}
use Rattle.std.specs.Ordering.{nat_cmp, is_lt, is_eq, eq_by_cmp}
use Rattle.std.specs.declared.cmp.Ordering.TheVariants.{Less, Equal, Greater}
use Rattle.std.specs.Prelude.{String}
use Rattle.std.specs.String.{string_bytes, string_cmp}
use Rattle.authorizer.specs.declared.account.Account.{Account}
use Rattle.authorizer.specs.declared.fault.AuthorizerFault.TheVariants.{NoNumber}
use Rattle.authorizer.specs.Stored.{map_of, user_of}
use Rattle.authorizer.specs.Users.{User, Users, Accounts}
use Rattle.authorizer.specs.Renumbered.{each_user, numbers_by, new_numbers, number_or, kept_number, renumbered_by, renumbered}
use Rattle.authorizer.proofs.Maps.{same, equal_keys}

-- ---- the entries of a map with texts as keys

below_bytes : {Y X V : Type 0} (v : X → V) (k : String Y) (es : List (String Y × X)) → AllByRecursion (λ y. string_cmp k y ≡ Less) (map (λ e. e.0) es)
    → T (below_all (slice_cmp nat_cmp) (string_bytes k) (map (λ e. (string_bytes e.0, v e.1)) es))
below_bytes v k [] h = tt
below_bytes v k (e ∷ es) h =
    subst (λ o. T (is_lt o && below_all (slice_cmp nat_cmp) (string_bytes k) (map (λ e. (string_bytes e.0, v e.1)) es))) (sym h.0) (below_bytes v k es h.1)

both : (a b : Bool) → T a → T b → T (a && b)
both true b p q = q
both false b p q = p

second : (a b : Bool) → T (a && b) → T b
second true b p = p
second false b p = absurd p

first : (a b : Bool) → T (a && b) → T a
first true b p = tt
first false b p = p

sorted_bytes : {Y X V : Type 0} (v : X → V) (es : List (String Y × X)) → IsStrictlySortedBy string_cmp (map (λ e. e.0) es)
    → T (is_sorted (slice_cmp nat_cmp) (map (λ e. (string_bytes e.0, v e.1)) es))
unfolding IsStrictlySortedBy
sorted_bytes v [] h = tt
sorted_bytes v (e ∷ es) h = both _ _ (below_bytes v e.0 es h.0) (sorted_bytes v es h.1)

sorted-entries : {V : Type 0} (es : List (List ℕ × V)) → T (is_sorted (slice_cmp nat_cmp) es) → finite.entries (from_entries {R = slice_cmp nat_cmp} es) ≡ es
sorted-entries es h =
    ap finite.entries (same _ (from_sorted {R = slice_cmp nat_cmp} es) (λ q. get-from_entries nat_list_cmp_total es q ∙ sym (get-from_sorted (slice_cmp nat_cmp) es q h)))
    ∙ entries-from_sorted (slice_cmp nat_cmp) es h

pub entries-map_of : {Y X V : Type 0} (v : X → V) (m : BTreeMap (String Y) X) → tree.IsOrdered string_cmp m → finite.entries (map_of v m) ≡ map (λ e. (string_bytes e.0, v e.1)) m.entries
entries-map_of v m ordered = sorted-entries (map (λ e. (string_bytes e.0, v e.1)) m.entries) (sorted_bytes v m.entries ordered)

-- ---- entries whose values are changed

below-mapped : {V W : Type 0} (g : List ℕ → V → W) (k : List ℕ) (es : List (List ℕ × V)) → below_all (slice_cmp nat_cmp) k (map (λ e. (e.0, g e.0 e.1)) es) ≡ below_all (slice_cmp nat_cmp) k es
below-mapped g k [] = refl
below-mapped g k (e ∷ es) = ap (λ b. is_lt (slice_cmp nat_cmp k e.0) && b) (below-mapped g k es)

sorted-mapped : {V W : Type 0} (g : List ℕ → V → W) (es : List (List ℕ × V)) → is_sorted (slice_cmp nat_cmp) (map (λ e. (e.0, g e.0 e.1)) es) ≡ is_sorted (slice_cmp nat_cmp) es
sorted-mapped g [] = refl
sorted-mapped g (e ∷ es) =
    ap (λ b. b && is_sorted (slice_cmp nat_cmp) (map (λ e. (e.0, g e.0 e.1)) es)) (below-mapped g e.0 es)
    ∙ ap (λ b. below_all (slice_cmp nat_cmp) e.0 es && b) (sorted-mapped g es)

find-mapped : {V W : Type 0} (g : List ℕ → V → W) (q : List ℕ) (es : List (List ℕ × V)) → find (slice_cmp nat_cmp) q (map (λ e. (e.0, g e.0 e.1)) es) ≡ option_map (g q) (find (slice_cmp nat_cmp) q es)
find-mapped g q [] = refl
find-mapped {V} {W} g q (e ∷ es) =
    let rest : List (List ℕ × W) = map (λ (e : List ℕ × V). (e.0, g e.0 e.1)) es in
    elim (eq_by_cmp (slice_cmp nat_cmp) q e.0) as (λ b. eq_by_cmp (slice_cmp nat_cmp) q e.0 ≡ b
    → cond b (Some (g e.0 e.1)) (find (slice_cmp nat_cmp) q rest) ≡ option_map (g q) (cond b (Some e.1) (find (slice_cmp nat_cmp) q es))) [
      | true ↦ λ same. ap (λ k. Some (g k e.1)) (sym (equal_keys q e.0 same))
      | false ↦ λ _. find-mapped g q es
    ] refl

-- what the users have, each changed
pub get-each_user : (change : List ℕ → User → User) (users : Users) (q : List ℕ) → finite.get (each_user change users) q ≡ option_map (change q) (finite.get users q)
get-each_user change users q =
    get-from_entries nat_list_cmp_total _ q ∙ find-mapped change q (finite.entries users) ∙ ap (option_map (change q)) (sym (get-entries users q))

none_below : {V : Type 0} (k : List ℕ) (es : List (List ℕ × V)) → T (below_all (slice_cmp nat_cmp) k es) → find (slice_cmp nat_cmp) k es ≡ None
none_below k [] h = refl
none_below {V} k (e ∷ es) h =
    elim (slice_cmp nat_cmp k e.0) as (λ o. T (is_lt o && below_all (slice_cmp nat_cmp) k es) → cond (is_eq o) (Some e.1) (find (slice_cmp nat_cmp) k es) ≡ None) [
      | Less ↦ λ h. none_below k es h
      | Equal ↦ λ h. absurd h
      | Greater ↦ λ h. absurd h
    ] h

-- ---- numbers that are written one after another

abbrev pub numbered : ℕ → User → User
numbered number user = record user { number = number }

abbrev pub with_number : List ℕ → ℕ → Option User → Users → Users
with_number name number None users = users
with_number name number (Some user) users = finite.insert users name (numbered number user)

abbrev pub set_numbers : List (List ℕ × ℕ) → Users → Users
set_numbers [] users = users
set_numbers (e ∷ es) users = set_numbers es (with_number e.0 e.1 (finite.get users e.0) users)

abbrev numbered_by : Option ℕ → Option User → Option User
numbered_by None found = found
numbered_by (Some number) found = option_map (numbered number) found

get-none : (users : Users) (k q : List ℕ) (n : ℕ) (b : Bool) → eq_by_cmp (slice_cmp nat_cmp) q k ≡ b → finite.get users k ≡ None
    → finite.get users q ≡ cond b (option_map (numbered n) (finite.get users q)) (finite.get users q)
get-none users k q n true same none =
    let here : finite.get users q ≡ None = ap (finite.get users) (equal_keys q k same) ∙ none in
    here ∙ sym (ap (option_map (numbered n)) here)
get-none users k q n false same none = refl

get-some : (users : Users) (k q : List ℕ) (n : ℕ) (user : User) (b : Bool) → eq_by_cmp (slice_cmp nat_cmp) q k ≡ b → finite.get users k ≡ Some user
    → cond b (Some (numbered n user)) (finite.get users q) ≡ cond b (option_map (numbered n) (finite.get users q)) (finite.get users q)
get-some users k q n user true same is =
    sym (ap (option_map (numbered n)) (ap (finite.get users) (equal_keys q k same) ∙ is))
get-some users k q n user false same is = refl

get-with_number : (users : Users) (k q : List ℕ) (n : ℕ) (found : Option User) → finite.get users k ≡ found
    → finite.get (with_number k n found users) q ≡ cond (eq_by_cmp (slice_cmp nat_cmp) q k) (option_map (numbered n) (finite.get users q)) (finite.get users q)
get-with_number users k q n None is = get-none users k q n (eq_by_cmp (slice_cmp nat_cmp) q k) refl is
get-with_number users k q n (Some user) is =
    get-insert nat_list_cmp_total users k (numbered n user) q ∙ get-some users k q n user (eq_by_cmp (slice_cmp nat_cmp) q k) refl is

by_key : (k q : List ℕ) (n : ℕ) (es : List (List ℕ × ℕ)) (o : Option User) (b : Bool) → eq_by_cmp (slice_cmp nat_cmp) q k ≡ b → T (below_all (slice_cmp nat_cmp) k es)
    → numbered_by (find (slice_cmp nat_cmp) q es) (cond b (option_map (numbered n) o) o) ≡ numbered_by (cond b (Some n) (find (slice_cmp nat_cmp) q es)) o
by_key k q n es o true same h =
    ap (λ f. numbered_by f (option_map (numbered n) o)) (ap (λ k. find (slice_cmp nat_cmp) k es) (equal_keys q k same) ∙ none_below k es h)
by_key k q n es o false same h = refl

get-set_numbers : (es : List (List ℕ × ℕ)) (users : Users) (q : List ℕ) → T (is_sorted (slice_cmp nat_cmp) es)
    → finite.get (set_numbers es users) q ≡ numbered_by (find (slice_cmp nat_cmp) q es) (finite.get users q)
get-set_numbers [] users q h = refl
get-set_numbers (e ∷ es) users q h =
    get-set_numbers es (with_number e.0 e.1 (finite.get users e.0) users) q (second _ _ h)
    ∙ ap (numbered_by (find (slice_cmp nat_cmp) q es)) (get-with_number users e.0 q e.1 (finite.get users e.0) refl)
    ∙ by_key e.0 q e.1 es (finite.get users q) (eq_by_cmp (slice_cmp nat_cmp) q e.0) refl (first _ _ h)

by_found : (number : User → ℕ) (o : Option User) → numbered_by (option_map number o) o ≡ option_map (λ user. numbered (number user) user) o
by_found number None = refl
by_found number (Some user) = refl

-- the numbers of a plan over all users change each of them
pub planned-numbers : (number : List ℕ → User → ℕ) (users : Users)
    → set_numbers (numbers_by number users) users ≡ each_user (λ name user. record user { number = number name user }) users
planned-numbers number users = same _ _ (λ q.
    get-set_numbers (numbers_by number users) users q (subst T (sym (sorted-mapped number (finite.entries users))) (entries_sorted users))
    ∙ ap (λ f. numbered_by f (finite.get users q)) (find-mapped number q (finite.entries users) ∙ ap (option_map (number q)) (sym (get-entries users q)))
    ∙ by_found (number q) (finite.get users q)
    ∙ sym (get-each_user (λ name user. record user { number = number name user }) users q))

-- ---- the numbers of new users

abbrev pub listed : {Y : Type 0} → Users → List (String Y × Account Y) → List ℕ
listed earlier es = map (λ e. e.1.number) (filter (λ e. not (finite.contains_key earlier (string_bytes e.0))) es)

abbrev pub numbers_in : Users → List (List ℕ × User) → List ℕ
numbers_in earlier es = map (λ e. e.1.number) (filter (λ e. not (finite.contains_key earlier e.0)) es)

listed_is : {Y : Type 0} (earlier : Users) (es : List (String Y × Account Y)) → listed earlier es ≡ numbers_in earlier (map (λ e. (string_bytes e.0, user_of e.1)) es)
listed_is earlier [] = refl
listed_is {Y} earlier (e ∷ es) =
    elim (not (finite.contains_key earlier (string_bytes e.0))) as (λ b. map (λ (e : String Y × Account Y). e.1.number) (cond b (e ∷ filter (λ e. not (finite.contains_key earlier (string_bytes e.0))) es) (filter (λ e. not (finite.contains_key earlier (string_bytes e.0))) es))
    ≡ map (λ (e : List ℕ × User). e.1.number) (cond b ((string_bytes e.0, user_of e.1) ∷ filter (λ e. not (finite.contains_key earlier e.0)) (map (λ e. (string_bytes e.0, user_of e.1)) es)) (filter (λ e. not (finite.contains_key earlier e.0)) (map (λ e. (string_bytes e.0, user_of e.1)) es)))) [
      | true ↦ ap (λ (ns : List ℕ). e.1.number ∷ ns) (listed_is earlier es)
      | false ↦ listed_is earlier es
    ]

pub listed-new : {Y : Type 0} (earlier : Users) (m : BTreeMap (String Y) (Account Y)) → tree.IsOrdered string_cmp m → listed earlier m.entries ≡ new_numbers earlier (map_of user_of m)
listed-new earlier m ordered = listed_is earlier m.entries ∙ ap (numbers_in earlier) (sym (entries-map_of user_of m ordered))

-- ---- the number of a user that is listed is below the last one

under-here : (x n c l : ℕ) (b : Bool) → nat_lt n x ≡ b → x ≡ n → c ≤ l → cond b 1 0 + c < suc l
under-here x n c l true less same few = absurd (let below : n < x = ltb-true n x less in omega arith)
under-here x n c l false less same few = omega arith

under-there : (c l : ℕ) (b : Bool) → c < l → cond b 1 0 + c < suc l
under-there c l true few = omega arith
under-there c l false few = omega arith

pub count-cons : (x n : ℕ) (ns : List ℕ) → count_by (λ n. nat_lt n x) (n ∷ ns) ≡ cond (nat_lt n x) 1 0 + count_by (λ n. nat_lt n x) ns
count-cons x n ns = sum_by-cons (λ n. cond (nat_lt n x) 1 0) n ns

pub count-under : (x : ℕ) (ns : List ℕ) → list_any (nat_eq x) ns ≡ true → count_by (λ n. nat_lt n x) ns < length ns
count-under x [] h = absurd (false≢true h)
count-under x (n ∷ ns) h =
    subst (λ c. c < suc (length ns)) (sym (count-cons x n ns))
    (elim (nat_eq x n) as (λ b. nat_eq x n ≡ b → (b || list_any (nat_eq x) ns) ≡ true → cond (nat_lt n x) 1 0 + count_by (λ n. nat_lt n x) ns < suc (length ns)) [
      | true ↦ λ same _. under-here x n _ _ (nat_lt n x) refl (eqb-true x n same) (count_by-le-length (λ n. nat_lt n x) ns)
      | false ↦ λ _ later. under-there _ _ (nat_lt n x) (count-under x ns later)
    ] refl h)

-- the number of a user that is not earlier is among those listed
abbrev pub AreAmong : List ℕ → List ℕ → Type 0
AreAmong ns all = (x : ℕ) → list_any (nat_eq x) ns ≡ true → list_any (nat_eq x) all ≡ true

-- the number that the code finds
abbrev pub clamped : Accounts → List ℕ → List ℕ → ℕ → ℕ
clamped earlier all name number =
    number_or (finite.get earlier.users name) (min (earlier.next + count_by (λ n. nat_lt n number) all) (2 ^ 32 - 1))

min-under : (a : ℕ) → a < 2 ^ 32 → min a (2 ^ 32 - 1) ≡ a
min-under a h = omega arith

clamped-here : (earlier : Accounts) (all : List ℕ) (name : List ℕ) (user : User) (found : Option User)
    → earlier.next + length all ≤ 2 ^ 32 → (found ≡ None → list_any (nat_eq user.number) all ≡ true)
    → number_or found (min (earlier.next + count_by (λ n. nat_lt n user.number) all) (2 ^ 32 - 1)) ≡ number_or found (earlier.next + count_by (λ n. nat_lt n user.number) all)
clamped-here earlier all name user None room among =
    let under = count-under user.number all (among refl) in
    min-under _ (omega (arith, under))
clamped-here earlier all name user (Some before) room among = refl

pub head-among : (earlier : Users) (e : List ℕ × User) (es : List (List ℕ × User)) (all : List ℕ) → AreAmong (numbers_in earlier (e ∷ es)) all → finite.get earlier e.0 ≡ None → list_any (nat_eq e.1.number) all ≡ true
head-among earlier e es all among none =
    let listed_first : numbers_in earlier (e ∷ es) ≡ e.1.number ∷ numbers_in earlier es =
    ap (λ (o : Option User). map (λ (e : List ℕ × User). e.1.number) (cond (not (is_some o)) (e ∷ filter (λ e. not (finite.contains_key earlier e.0)) es) (filter (λ e. not (finite.contains_key earlier e.0)) es))) none in
    among e.1.number (ap (list_any (nat_eq e.1.number)) listed_first ∙ ap (λ b. b || list_any (nat_eq e.1.number) (numbers_in earlier es)) (eq-eqb e.1.number e.1.number refl))

or-true : (b : Bool) → (b || true) ≡ true
or-true true = refl
or-true false = refl

pub tail-among : (earlier : Users) (e : List ℕ × User) (es : List (List ℕ × User)) (all : List ℕ) → AreAmong (numbers_in earlier (e ∷ es)) all → AreAmong (numbers_in earlier es) all
tail-among earlier e es all among x is =
    among x (elim (not (finite.contains_key earlier e.0)) as (λ b. list_any (nat_eq x) (map (λ (e : List ℕ × User). e.1.number) (cond b (e ∷ filter (λ e. not (finite.contains_key earlier e.0)) es) (filter (λ e. not (finite.contains_key earlier e.0)) es))) ≡ true) [
      | true ↦ ap (λ b. nat_eq x e.1.number || b) is ∙ or-true (nat_eq x e.1.number)
      | false ↦ is
    ])

abbrev pub planned_by : {Y : Type 0} → Accounts → List ℕ → List (String Y × Account Y) → List (List ℕ × ℕ)
planned_by earlier all es = map (λ e. (string_bytes e.0, clamped earlier all (string_bytes e.0) e.1.number)) es

abbrev with_clamped : Accounts → List ℕ → List (List ℕ × User) → List (List ℕ × ℕ)
with_clamped earlier all es = map (λ e. (e.0, clamped earlier all e.0 e.1.number)) es

abbrev with_kept : Accounts → List ℕ → List (List ℕ × User) → List (List ℕ × ℕ)
with_kept earlier all es = map (λ e. (e.0, kept_number earlier all e.0 e.1.number)) es

plan-clamped : (earlier : Accounts) (all : List ℕ) (es : List (List ℕ × User)) → earlier.next + length all ≤ 2 ^ 32 → AreAmong (numbers_in earlier.users es) all
    → with_clamped earlier all es ≡ with_kept earlier all es
plan-clamped earlier all [] room among = refl
plan-clamped earlier all (e ∷ es) room among =
    ap (λ (n : ℕ). (e.0, n) ∷ with_clamped earlier all es)
    (clamped-here earlier all e.0 e.1 (finite.get earlier.users e.0) room (head-among earlier.users e es all among))
    ∙ ap (λ (rest : List (List ℕ × ℕ)). (e.0, kept_number earlier all e.0 e.1.number) ∷ rest) (plan-clamped earlier all es room (tail-among earlier.users e es all among))

-- the same by numbers in another order
clamped-order : (earlier : Accounts) (all other : List ℕ) → IsPermutation all other → (name : List ℕ) (number : ℕ) → clamped earlier other name number ≡ clamped earlier all name number
clamped-order earlier all other order name number =
    ap (λ c. number_or (finite.get earlier.users name) (min (earlier.next + c) (2 ^ 32 - 1))) (sum_by-IsPermutation (λ n. cond (nat_lt n number) 1 0) all other order)

plan-order : (earlier : Accounts) (all other : List ℕ) → IsPermutation all other → (es : List (List ℕ × User))
    → with_clamped earlier other es ≡ with_clamped earlier all es
plan-order earlier all other order [] = refl
plan-order earlier all other order (e ∷ es) =
    ap (λ (n : ℕ). (e.0, n) ∷ with_clamped earlier other es) (clamped-order earlier all other order e.0 e.1.number)
    ∙ ap (λ (rest : List (List ℕ × ℕ)). (e.0, clamped earlier all e.0 e.1.number) ∷ rest) (plan-order earlier all other order es)

plan-stored : {Y : Type 0} (earlier : Accounts) (all : List ℕ) (es : List (String Y × Account Y))
    → planned_by earlier all es ≡ with_clamped earlier all (map (λ e. (string_bytes e.0, user_of e.1)) es)
plan-stored earlier all [] = refl
plan-stored earlier all (e ∷ es) =
    ap (λ (rest : List (List ℕ × ℕ)). (string_bytes e.0, clamped earlier all (string_bytes e.0) e.1.number) ∷ rest) (plan-stored earlier all es)

-- what the code plans is what is defined
pub plan_is : {Y : Type 0} (earlier : Accounts) (m : BTreeMap (String Y) (Account Y)) (other : List ℕ) → tree.IsOrdered string_cmp m
    → IsPermutation (new_numbers earlier.users (map_of user_of m)) other → earlier.next + length other ≤ 2 ^ 32
    → planned_by earlier other m.entries
    ≡ numbers_by (λ name user. kept_number earlier (new_numbers earlier.users (map_of user_of m)) name user.number) (map_of user_of m)
plan_is earlier m other ordered order room =
    let all : List ℕ = new_numbers earlier.users (map_of user_of m) in
    let many : length other ≡ length all = length_permutation all other order in
    plan-stored earlier other m.entries
    ∙ ap (with_clamped earlier other) (sym (entries-map_of user_of m ordered))
    ∙ plan-order earlier all other order (finite.entries (map_of user_of m))
    ∙ plan-clamped earlier all (finite.entries (map_of user_of m)) (omega arith) (λ x is. is)

-- ---- users that are changed one after another

abbrev pub with_change : (List ℕ → User → User) → List ℕ → Option User → Users → Users
with_change change name None users = users
with_change change name (Some user) users = finite.insert users name (change name user)

abbrev pub change_each : (List ℕ → User → User) → List (List ℕ) → Users → Users
change_each change [] users = users
change_each change (name ∷ names) users = change_each change names (with_change change name (finite.get users name) users)

pub change-one : (change : List ℕ → User → User) (old new : Users) (name : List ℕ) (found : Option User) → finite.get old name ≡ found
    → MatchOption (finite.get old name) (new ≡ old) (λ user. new ≡ finite.insert old name (change name user)) → new ≡ with_change change name (finite.get old name) old
change-one change old new name None is set =
    let none : new ≡ old = subst (λ o. MatchOption o (new ≡ old) (λ user. new ≡ finite.insert old name (change name user))) is set in
    none ∙ ap (λ o. with_change change name o old) (sym is)
change-one change old new name (Some user) is set =
    let some : new ≡ finite.insert old name (change name user) = subst (λ o. MatchOption o (new ≡ old) (λ user. new ≡ finite.insert old name (change name user))) is set in
    some ∙ ap (λ o. with_change change name o old) (sym is)

change-none : (change : List ℕ → User → User) (users : Users) (k q : List ℕ) (b : Bool) → eq_by_cmp (slice_cmp nat_cmp) q k ≡ b → finite.get users k ≡ None
    → finite.get users q ≡ cond b (option_map (change q) (finite.get users q)) (finite.get users q)
change-none change users k q true same none =
    let here : finite.get users q ≡ None = ap (finite.get users) (equal_keys q k same) ∙ none in
    here ∙ sym (ap (option_map (change q)) here)
change-none change users k q false same none = refl

change-some : (change : List ℕ → User → User) (users : Users) (k q : List ℕ) (user : User) (b : Bool) → eq_by_cmp (slice_cmp nat_cmp) q k ≡ b → finite.get users k ≡ Some user
    → cond b (Some (change k user)) (finite.get users q) ≡ cond b (option_map (change q) (finite.get users q)) (finite.get users q)
change-some change users k q user true same is =
    ap (λ n. Some (change n user)) (sym (equal_keys q k same)) ∙ sym (ap (option_map (change q)) (ap (finite.get users) (equal_keys q k same) ∙ is))
change-some change users k q user false same is = refl

get-with_change : (change : List ℕ → User → User) (users : Users) (k q : List ℕ) (found : Option User) → finite.get users k ≡ found
    → finite.get (with_change change k found users) q ≡ cond (eq_by_cmp (slice_cmp nat_cmp) q k) (option_map (change q) (finite.get users q)) (finite.get users q)
get-with_change change users k q None is = change-none change users k q (eq_by_cmp (slice_cmp nat_cmp) q k) refl is
get-with_change change users k q (Some user) is =
    get-insert nat_list_cmp_total users k (change k user) q ∙ change-some change users k q user (eq_by_cmp (slice_cmp nat_cmp) q k) refl is

abbrev changed_if : (List ℕ → User → User) → List ℕ → Option User → Option User → Option User
changed_if change q None found = found
changed_if change q (Some other) found = option_map (change q) found

changed-key : (change : List ℕ → User → User) (k q : List ℕ) (user : User) (es : List (List ℕ × User)) (o : Option User) (b : Bool) → eq_by_cmp (slice_cmp nat_cmp) q k ≡ b → T (below_all (slice_cmp nat_cmp) k es)
    → changed_if change q (find (slice_cmp nat_cmp) q es) (cond b (option_map (change q) o) o) ≡ changed_if change q (cond b (Some user) (find (slice_cmp nat_cmp) q es)) o
changed-key change k q user es o true same h =
    ap (λ f. changed_if change q f (option_map (change q) o)) (ap (λ k. find (slice_cmp nat_cmp) k es) (equal_keys q k same) ∙ none_below k es h)
changed-key change k q user es o false same h = refl

get-change_each : (change : List ℕ → User → User) (es : List (List ℕ × User)) (users : Users) (q : List ℕ) → T (is_sorted (slice_cmp nat_cmp) es)
    → finite.get (change_each change (map (λ e. e.0) es) users) q ≡ changed_if change q (find (slice_cmp nat_cmp) q es) (finite.get users q)
get-change_each change [] users q h = refl
get-change_each change (e ∷ es) users q h =
    get-change_each change es (with_change change e.0 (finite.get users e.0) users) q (second _ _ h)
    ∙ ap (changed_if change q (find (slice_cmp nat_cmp) q es)) (get-with_change change users e.0 q (finite.get users e.0) refl)
    ∙ changed-key change e.0 q e.1 es (finite.get users q) (eq_by_cmp (slice_cmp nat_cmp) q e.0) refl (first _ _ h)

changed-found : (change : List ℕ → User → User) (q : List ℕ) (o : Option User) → changed_if change q o o ≡ option_map (change q) o
changed-found change q None = refl
changed-found change q (Some user) = refl

-- to change each user by name is to change all
pub change-all : (change : List ℕ → User → User) (users : Users) → change_each change (finite.keys users) users ≡ each_user change users
change-all change users = same _ _ (λ q.
    get-change_each change (finite.entries users) users q (entries_sorted users)
    ∙ ap (λ f. changed_if change q f (finite.get users q)) (sym (get-entries users q))
    ∙ changed-found change q (finite.get users q)
    ∙ sym (get-each_user change users q))

keys-stored : {Y X V : Type 0} (v : X → V) (es : List (String Y × X)) → map string_bytes (map (λ e. e.0) es) ≡ map (λ (e : List ℕ × V). e.0) (map (λ e. (string_bytes e.0, v e.1)) es)
keys-stored v [] = refl
keys-stored v (e ∷ es) = ap (λ (ks : List (List ℕ)). string_bytes e.0 ∷ ks) (keys-stored v es)

pub keys-map_of : {Y X V : Type 0} (v : X → V) (m : BTreeMap (String Y) X) → tree.IsOrdered string_cmp m → map string_bytes (tree.keys m) ≡ finite.keys (map_of v m)
keys-map_of {V = V} v m ordered = keys-stored v m.entries ∙ ap (map (λ (e : List ℕ × V). e.0)) (sym (entries-map_of v m ordered))

-- ---- how the code finds numbers

pub count-point : (p : ℕ → Bool) (xs : List ℕ) (i : ℕ) → i ≤ length xs → AllWithin (λ x. p x ≡ true) xs 0 i → AllWithin (λ x. p x ≡ false) xs i (length xs) → count_by p xs ≡ i
count-point p [] i le before after = omega arith
count-point p (x ∷ xs) zero le before after =
    let rest : count_by p xs ≡ 0 = count-point p xs zero (omega arith) (λ k d low high. absurd (omega arith)) (λ k d low high. after (suc k) d (omega arith) (omega arith)) in
    sum_by-cons (λ x. cond (p x) 1 0) x xs ∙ ap (λ b. cond b 1 0 + count_by p xs) (after 0 x (omega arith) (omega arith)) ∙ omega (arith, rest)
count-point p (x ∷ xs) (suc i) le before after =
    let rest : count_by p xs ≡ i = count-point p xs i (omega arith) (λ k d low high. before (suc k) d (omega arith) (omega arith)) (λ k d low high. after (suc k) d (omega arith) (omega arith)) in
    sum_by-cons (λ x. cond (p x) 1 0) x xs ∙ ap (λ b. cond b 1 0 + count_by p xs) (before 0 x (omega arith) (omega arith)) ∙ omega (arith, rest)

pub is-found : {Y : Type 0} (o : Option (Bor (Account Y))) (found : Option User) → MatchOption o (found ≡ None) (λ account. found ≡ Some (user_of account.now)) → is_some found ≡ is_some o
is-found None found is = ap is_some is
is-found (Some account) found is = ap is_some is

pub listed-earlier : {Y : Type 0} (earlier : Users) (e : String Y × Account Y) (es : List (String Y × Account Y)) → finite.contains_key earlier (string_bytes e.0) ≡ true → listed earlier (e ∷ es) ≡ listed earlier es
listed-earlier {Y} earlier e es is =
    ap (λ b. map (λ (e : String Y × Account Y). e.1.number) (cond (not b) (e ∷ filter (λ e. not (finite.contains_key earlier (string_bytes e.0))) es) (filter (λ e. not (finite.contains_key earlier (string_bytes e.0))) es))) is

pub listed-next : {Y : Type 0} (earlier : Users) (e : String Y × Account Y) (es : List (String Y × Account Y)) → finite.contains_key earlier (string_bytes e.0) ≡ false → listed earlier (e ∷ es) ≡ e.1.number ∷ listed earlier es
listed-next {Y} earlier e es is =
    ap (λ b. map (λ (e : String Y × Account Y). e.1.number) (cond (not b) (e ∷ filter (λ e. not (finite.contains_key earlier (string_bytes e.0))) es) (filter (λ e. not (finite.contains_key earlier (string_bytes e.0))) es))) is

-- ---- the outcome of the call

many-numbers : (all other : List ℕ) → IsPermutation all other → length other ≡ length all
many-numbers all other order = length_permutation all other order

pub renumbered-ok : (old earlier : Accounts) (other : List ℕ) → IsPermutation (new_numbers earlier.users old.users) other → earlier.next + length other ≤ 2 ^ 32
    → renumbered old earlier
    ≡ Ok (record {
      users = each_user (λ name user. record user { number = kept_number earlier (new_numbers earlier.users old.users) name user.number }) old.users;
      next = earlier.next + length other;
    })
renumbered-ok old earlier other order room =
    let all = new_numbers earlier.users old.users in
    let many = many-numbers all other order in
    let fits : nat_le (earlier.next + length all) (2 ^ 32) ≡ true = le-leb (earlier.next + length all) (2 ^ 32) (omega arith) in
    ap (λ b. cond b (Ok (renumbered_by earlier all old.users)) (Err NoNumber)) fits
    ∙ ap (λ n. Ok (record { users = (renumbered_by earlier all old.users).users; next = earlier.next + n })) (sym many)

pub renumbered-none : (old earlier : Accounts) (other : List ℕ) → IsPermutation (new_numbers earlier.users old.users) other → 2 ^ 32 < earlier.next + length other
    → renumbered old earlier ≡ Err NoNumber
renumbered-none old earlier other order none =
    let all = new_numbers earlier.users old.users in
    let many = many-numbers all other order in
    let over : nat_le (earlier.next + length all) (2 ^ 32) ≡ false = lt-leb (earlier.next + length all) (2 ^ 32) (omega arith) in
    ap (λ b. cond b (Ok (renumbered_by earlier all old.users)) (Err NoNumber)) over
