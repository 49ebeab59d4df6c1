-- Groups, and rows of rates, that are numbered one after another.
use Rattle.std.proofs.Common.{◌≡◌, ℕ, suc, ◌+◌, ◌<◌, ◌≤◌, Bool, true, false, cond, List, [], ◌∷◌, ◌++◌, length, take, get_or, Option, Some, None, option_map, String, Global, BTreeMap, string_bytes, refl, sym, ap, subst, ◌∙◌, inl, inr, ◌⊎◌, arith, bytes_eq}
use Rattle.std.specs.List.{AllByRecursion}
use Rattle.std.proofs.lemmas.Bool.{cases_lt}
use Rattle.std.proofs.lemmas.List.{take_more, take_all, get_or_append_left, length-take-le}
use Rattle.std.proofs.lemmas.Map.Text.{btree_map_updates_text}
use Rattle.std.proofs.lemmas.Slice.Eq.{bytes_eq-Decides}
use Rattle.std.specs.BTreeMap as tree
use Rattle.std.specs.String.{string_cmp}
use Rattle.std.proofs.Math.Seq.{get_or-append_seam}
use Rattle.config_file.specs.declared.stated.GroupTable.{GroupTable}
use Rattle.server_config.specs.Groups.{number_named, number_by, AreApart, AreNumbers}
use Rattle.server_config.specs.RateRows.{numbered}

-- the first answer, or else the second
abbrev or_else : Option ℕ → Option ℕ → Option ℕ
or_else None second = second
or_else (Some n) second = Some n

next_by : (b c : Bool) (first : Option ℕ) (k : ℕ) → cond b (Some 0) (option_map (λ n. n + 1) (or_else first (cond c (Some k) None)))
    ≡ or_else (cond b (Some 0) (option_map (λ n. n + 1) first)) (cond c (Some (k + 1)) None)
next_by true c first k = refl
next_by false c (Some n) k = refl
next_by false true None k = refl
next_by false false None k = refl

only_by : (c : Bool) → cond c (Some 0) (option_map (λ n. n + 1) None) ≡ or_else None (cond c (Some 0) None)
only_by true = refl
only_by false = refl

-- with one group more
number_named-more : (groups : List GroupTable) (last : GroupTable) (name : List ℕ)
    → number_named (groups ++ last ∷ []) name ≡ or_else (number_named groups name) (cond (bytes_eq last.name.now name) (Some (length groups)) None)
number_named-more [] last name = only_by (bytes_eq last.name.now name)
number_named-more (group ∷ groups) last name =
    let up : length groups + 1 ≡ length (group ∷ groups) = omega arith in
    ap (λ o. cond (bytes_eq group.name.now name) (Some 0) (option_map (λ n. n + 1) o)) (number_named-more groups last name)
    ∙ next_by (bytes_eq group.name.now name) (bytes_eq last.name.now name) (number_named groups name) (length groups)
    ∙ ap (λ k. or_else (cond (bytes_eq group.name.now name) (Some 0) (option_map (λ n. n + 1) (number_named groups name))) (cond (bytes_eq last.name.now name) (Some k) None)) up

same_text : (s : List ℕ) → bytes_eq s s ≡ true
same_text s = (bytes_eq-Decides s s).1 refl

or_none : (first : Option ℕ) → or_else first None ≡ first
or_none None = refl
or_none (Some n) = refl

apart_at : (groups : List GroupTable) (last : GroupTable) (k : ℕ) (other group : GroupTable) → group ≡ get_or (groups ++ last ∷ []) k other
    → number_named groups group.name.now ≡ Some k → number_named (groups ++ last ∷ []) (get_or (groups ++ last ∷ []) k other).name.now ≡ Some k
apart_at groups last k other group at is =
    subst (λ (g : GroupTable). number_named (groups ++ last ∷ []) g.name.now ≡ Some k) at
    (number_named-more groups last group.name.now ∙ ap (λ o. or_else o (cond (bytes_eq last.name.now group.name.now) (Some (length groups)) None)) is)

apart_last : (groups : List GroupTable) (last : GroupTable) (k : ℕ) (other : GroupTable) → k ≡ length groups → number_named groups last.name.now ≡ None
    → number_named (groups ++ last ∷ []) (get_or (groups ++ last ∷ []) k other).name.now ≡ Some k
apart_last groups last k other at none =
    subst (λ (n : ℕ). number_named (groups ++ last ∷ []) (get_or (groups ++ last ∷ []) n other).name.now ≡ Some n) (sym at)
    (subst (λ (g : GroupTable). number_named (groups ++ last ∷ []) g.name.now ≡ Some (length groups)) (sym (get_or-append_seam groups last [] other))
    (number_named-more groups last last.name.now
    ∙ ap (λ o. or_else o (cond (bytes_eq last.name.now last.name.now) (Some (length groups)) None)) none
    ∙ ap (λ b. cond b (Some (length groups)) None) (same_text last.name.now)))

length_more : (groups : List GroupTable) (last : GroupTable) → length (groups ++ last ∷ []) ≡ length groups + 1
length_more [] last = refl
length_more (group ∷ groups) last = ap suc (length_more groups last) ∙ (let e : suc (length groups + 1) ≡ suc (length groups) + 1 = omega arith in e)

apart_by : (groups : List GroupTable) (last : GroupTable) → AreApart groups → number_named groups last.name.now ≡ None → (k : ℕ) (other : GroupTable) → k < length (groups ++ last ∷ [])
    → (k < length groups) ⊎ (length groups ≤ k) → number_named (groups ++ last ∷ []) (get_or (groups ++ last ∷ []) k other).name.now ≡ Some k
apart_by groups last apart none k other within (inl before) =
    apart_at groups last k other (get_or groups k other) (sym (get_or_append_left groups (last ∷ []) other k before)) (apart k other before)
apart_by groups last apart none k other within (inr after) =
    apart_last groups last k other (let long = length_more groups last in omega arith) none

-- a group of a new name stands apart from the others
apart-more : (groups : List GroupTable) (last : GroupTable) → AreApart groups → number_named groups last.name.now ≡ None → AreApart (groups ++ last ∷ [])
apart-more groups last apart none = λ k other within. apart_by groups last apart none k other within (cases_lt k (length groups))

numbers_by : (groups : List GroupTable) (last : GroupTable) (name : List ℕ) (b : Bool) → bytes_eq last.name.now name ≡ b → number_named groups last.name.now ≡ None
    → cond b (Some (length groups)) (number_named groups name) ≡ or_else (number_named groups name) (cond b (Some (length groups)) None)
numbers_by groups last name true same none =
    let is : last.name.now ≡ name = (bytes_eq-Decides last.name.now name).0 same in
    ap (λ o. or_else o (Some (length groups))) (sym (subst (λ s. number_named groups s ≡ None) is none))
numbers_by groups last name false same none = sym (or_none (number_named groups name))

numbers-more : (groups : List GroupTable) (last : GroupTable) (k : ℕ) (old new : BTreeMap (String Global) ℕ) → k ≡ length groups → AreNumbers groups old → number_by old last.name.now ≡ None
    → ((name : List ℕ) → number_by new name ≡ cond (bytes_eq last.name.now name) (Some k) (number_by old name)) → AreNumbers (groups ++ last ∷ []) new
numbers-more groups last k old new at are first next = λ name.
    next name
    ∙ ap (λ n. cond (bytes_eq last.name.now name) (Some n) (number_by old name)) at
    ∙ ap (cond (bytes_eq last.name.now name) (Some (length groups))) (are name)
    ∙ numbers_by groups last name (bytes_eq last.name.now name) refl (sym (are last.name.now) ∙ first)
    ∙ sym (number_named-more groups last name)

-- the groups up to an index, and the one that stands there
pub numbers-next : (groups : List GroupTable) (i : ℕ) (group : GroupTable) (old new : BTreeMap (String Global) ℕ) → i < length groups → group ≡ get_or groups i group
    → AreNumbers (take i groups) old → AreApart (take i groups) → number_by old group.name.now ≡ None
    → ((name : List ℕ) → number_by new name ≡ cond (bytes_eq group.name.now name) (Some i) (number_by old name))
    → AreNumbers (take (i + 1) groups) new × AreApart (take (i + 1) groups)
numbers-next groups i group old new within at are apart first next =
    let long : i ≡ length (take i groups) = sym (length-take-le i groups (omega arith)) in
    let more : take i groups ++ group ∷ [] ≡ take (i + 1) groups = ap (λ g. take i groups ++ g ∷ []) at ∙ sym (take_more groups i group within) in
    subst (λ gs. AreNumbers gs new × AreApart gs) more
    (numbers-more (take i groups) group i old new long are first next, apart-more (take i groups) group apart (sym (are group.name.now) ∙ first))

-- a row more
numbered-more : {X Y : Type 0} (row : ℕ → X → Y) (k : ℕ) (xs : List X) (x : X) → numbered row k (xs ++ x ∷ []) ≡ numbered row k xs ++ row (k + length xs) x ∷ []
numbered-more row k [] x = ap (λ n. row n x ∷ []) (let e : k ≡ k + 0 = omega arith in e)
numbered-more row k (y ∷ ys) x =
    ap (λ rows. row k y ∷ rows) (numbered-more row (k + 1) ys x)
    ∙ ap (λ n. row k y ∷ (numbered row (k + 1) ys ++ row n x ∷ [])) (let e : k + 1 + length ys ≡ k + length (y ∷ ys) = omega arith in e)

pub numbered-next : {X Y : Type 0} (row : ℕ → X → Y) (xs : List X) (i : ℕ) (x : X) (old new : List Y) (last : Y) → i < length xs → x ≡ get_or xs i x
    → old ≡ numbered row 0 (take i xs) → last ≡ row i x → new ≡ old ++ last ∷ [] → new ≡ numbered row 0 (take (i + 1) xs)
numbered-next row xs i x old new last within at before is grown =
    let long : i ≡ length (take i xs) = sym (length-take-le i xs (omega arith)) in
    let more : take i xs ++ x ∷ [] ≡ take (i + 1) xs = ap (λ y. take i xs ++ y ∷ []) at ∙ sym (take_more xs i x within) in
    grown
    ∙ ap (λ rows. rows ++ last ∷ []) before
    ∙ ap (λ r. numbered row 0 (take i xs) ++ r ∷ []) (is ∙ ap (λ n. row n x) (let e : i ≡ 0 + length (take i xs) = omega (arith, long) in e))
    ∙ sym (numbered-more row 0 (take i xs) x)
    ∙ ap (numbered row 0) more

all-more : {X : Type 0} (P : X → Type 0) (xs : List X) (x : X) → AllByRecursion P xs → P x → AllByRecursion P (xs ++ x ∷ [])
all-more P [] x all is = (is, tt)
all-more P (y ∷ ys) x all is = (all.0, all-more P ys x all.1 is)

pub all-next : {X : Type 0} (P : X → Type 0) (xs : List X) (i : ℕ) (x : X) → i < length xs → x ≡ get_or xs i x → AllByRecursion P (take i xs) → P x → AllByRecursion P (take (i + 1) xs)
all-next P xs i x within at all is =
    subst (AllByRecursion P) (ap (λ y. take i xs ++ y ∷ []) at ∙ sym (take_more xs i x within)) (all-more P (take i xs) x all is)

-- what an insertion leaves
pub number-inserted : (key : String Global) (text : List ℕ) (number index : ℕ) (old new : BTreeMap (String Global) ℕ) → string_bytes key ≡ text → number ≡ index
    → tree.UpdatesBy string_cmp (string_cmp key) old new (Some number) → (name : List ℕ) → number_by new name ≡ cond (bytes_eq text name) (Some index) (number_by old name)
number-inserted key text number index old new is same updates name =
    btree_map_updates_text (string_bytes key) old new (Some number) updates name
    ∙ ap (λ s. cond (bytes_eq s name) (Some number) (number_by old name)) is
    ∙ ap (λ n. cond (bytes_eq text name) (Some n) (number_by old name)) same

-- all of the rows were gone through
pub all-whole : {X : Type 0} (P : X → Type 0) (xs : List X) (i : ℕ) → length xs ≤ i → AllByRecursion P (take i xs) → AllByRecursion P xs
all-whole P xs i past all = subst (AllByRecursion P) (take_all i xs past) all
