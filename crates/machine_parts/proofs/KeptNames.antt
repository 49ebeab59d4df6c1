-- What the names of a server keep over a reload.
use Rattle.std.proofs.Common.{◌≡◌, ◌⊎◌, ℕ, zero, suc, ◌<◌, ◌≤◌, Bool, true, false, cond, not, ◌||◌, List, [], ◌∷◌, Option, Some, None, inl, inr, map, option_map, bytes_eq, refl, sym, ap, subst, ◌∙◌, arith, IsPermutation}
use Rattle.std.specs.Prelude.{string_bytes, slice_get}
use Rattle.std.specs.Cmp.Lexicographic.{slice_cmp}
use Rattle.std.specs.FinMap as finite
use Rattle.std.specs.FinMap.{contains_key-keys}
use Rattle.std.specs.List.{Contains, filter, find, list_any}
use Rattle.std.specs.Option.{is_some}
use Rattle.std.specs.Ordering.{nat_cmp, eq_by_cmp}
use Rattle.std.proofs.lemmas.List.Elements.{Contains-append_cases, Contains-append_left, Contains-append_right, Contains-push, Contains-push_cases}
use Rattle.std.proofs.lemmas.List.Sorted.{Contains-permutation, IsPermutation-sym}
use Rattle.std.proofs.lemmas.Slice.Eq.{bytes_eq-Decides}
use Rattle.authorizer.proofs.Maps.{equal_keys}
use Rattle.authorizer.proofs.Renumbering.{get-each_user}
use Rattle.authorizer.specs.Renumbered.{KeepsNumbers, regrouped}
use Rattle.authorizer.specs.Users.{Accounts, User}
use Rattle.config_change.specs.Named.{number_named}
use Rattle.config_change.specs.Past.{known_after, named_item, past_names, with_number, with_numbers}
use Rattle.config_change.specs.declared.known.NumberedName.{NumberedName}
use Rattle.machine_parts.specs.Known.{AreBelow, IsLeast}
use Rattle.machine_parts.specs.Names.{HasNumbers, number_in}

-- ---- members of a list

nowhere : {X : Type 0} (x : X) → Contains [] x → ⊥
nowhere x found = omega (arith, found.1)

here : {X : Type 0} (xs : List X) (x : X) → Contains (x ∷ xs) x
here xs x = Contains-append_left (x ∷ []) xs x (Contains-push [] x)

there : {X : Type 0} (y : X) (xs : List X) (x : X) → Contains xs x → Contains (y ∷ xs) x
there y xs x found = Contains-append_right (y ∷ []) xs x found

one : {X : Type 0} (y x : X) → Contains (y ∷ []) x → y ≡ x
one y x found = by_case (Contains-push_cases [] y x found)
  where
    by_case : Contains [] x ⊎ (y ≡ x) → y ≡ x
    by_case (inl none) = absurd (nowhere x none)
    by_case (inr is) = is

parted : {X : Type 0} (y : X) (xs : List X) (x : X) → Contains (y ∷ xs) x → (y ≡ x) ⊎ Contains xs x
parted y xs x found = by_case (Contains-append_cases (y ∷ []) xs x found)
  where
    by_case : Contains (y ∷ []) x ⊎ Contains xs x → (y ≡ x) ⊎ Contains xs x
    by_case (inl first) = inl (one y x first)
    by_case (inr later) = inr later

kept-case : {X : Type 0} (p : X → Bool) (y : X) (xs : List X) (x : X) → (Contains xs x → Contains (filter p xs) x) → p x ≡ true
    → (b : Bool) → p y ≡ b → (y ≡ x) ⊎ Contains xs x → Contains (cond b (y ∷ filter p xs) (filter p xs)) x
kept-case p y xs x rest passes true e (inl is) = subst (λ z. Contains (z ∷ filter p xs) x) (sym is) (here (filter p xs) x)
kept-case p y xs x rest passes true e (inr later) = there y (filter p xs) x (rest later)
kept-case p y xs x rest passes false e (inl is) = absurd (let fails : false ≡ true = sym e ∙ ap p is ∙ passes in cc)
kept-case p y xs x rest passes false e (inr later) = rest later

kept-in : {X : Type 0} (p : X → Bool) (xs : List X) (x : X) → Contains xs x → p x ≡ true → Contains (filter p xs) x
kept-in p [] x found passes = found
kept-in p (y ∷ xs) x found passes = kept-case p y xs x (λ later. kept-in p xs x later passes) passes (p y) refl (parted y xs x found)

was-part : {X : Type 0} (p : X → Bool) (y : X) (xs : List X) (x : X) → (Contains (filter p xs) x → Contains xs x) → (y ≡ x) ⊎ Contains (filter p xs) x → Contains (y ∷ xs) x
was-part p y xs x rest (inl is) = subst (λ z. Contains (z ∷ xs) x) (sym is) (here xs x)
was-part p y xs x rest (inr later) = there y xs x (rest later)

was-case : {X : Type 0} (p : X → Bool) (y : X) (xs : List X) (x : X) → (Contains (filter p xs) x → Contains xs x)
    → (b : Bool) → Contains (cond b (y ∷ filter p xs) (filter p xs)) x → Contains (y ∷ xs) x
was-case p y xs x rest true found = was-part p y xs x rest (parted y (filter p xs) x found)
was-case p y xs x rest false found = there y xs x (rest found)

was-in : {X : Type 0} (p : X → Bool) (xs : List X) (x : X) → Contains (filter p xs) x → Contains xs x
was-in p [] x found = found
was-in p (y ∷ xs) x found = was-case p y xs x (λ later. was-in p xs x later) (p y) found

among-case : (q name : List ℕ) (names : List (List ℕ)) → (list_any (eq_by_cmp (slice_cmp nat_cmp) q) names ≡ true → Contains names q)
    → (b : Bool) → eq_by_cmp (slice_cmp nat_cmp) q name ≡ b → (b || list_any (eq_by_cmp (slice_cmp nat_cmp) q) names) ≡ true → Contains (name ∷ names) q
among-case q name names rest true e is = subst (λ key. Contains (key ∷ names) q) (equal_keys q name e) (here names q)
among-case q name names rest false e is = there name names q (rest is)

among : (q : List ℕ) (names : List (List ℕ)) → list_any (eq_by_cmp (slice_cmp nat_cmp) q) names ≡ true → Contains names q
among q [] is = cc
among q (name ∷ names) is = among-case q name names (λ later. among q names later) (eq_by_cmp (slice_cmp nat_cmp) q name) refl is

-- ---- a name in a list of names with numbers

abbrev found_by : Bool → NumberedName → List NumberedName → List ℕ → Option ℕ
found_by b item items name = option_map (λ item. item.number) (cond b (Some item) (find (λ item. bytes_eq (string_bytes item.name) name) items))

found-case : (item : NumberedName) (items : List NumberedName) (name : List ℕ) (number : ℕ) → (number_in items name ≡ Some number → Contains (map named_item items) (name, number))
    → (b : Bool) → bytes_eq (string_bytes item.name) name ≡ b → found_by b item items name ≡ Some number → Contains (named_item item ∷ map named_item items) (name, number)
found-case item items name number rest true e is =
    let text : string_bytes item.name ≡ name = (bytes_eq-Decides (string_bytes item.name) name).0 e in
    let same : item.number ≡ number = cc in
    let both : named_item item ≡ (name, number) = cc in
    subst (λ entry. Contains (entry ∷ map named_item items) (name, number)) (sym both) (here (map named_item items) (name, number))
found-case item items name number rest false e is = there (named_item item) (map named_item items) (name, number) (rest is)

found-in : (items : List NumberedName) (name : List ℕ) (number : ℕ) → number_in items name ≡ Some number → Contains (map named_item items) (name, number)
found-in [] name number is = cc
found-in (item ∷ items) name number is = found-case item items name number (λ later. found-in items name number later) (bytes_eq (string_bytes item.name) name) refl is

none-case : (item : NumberedName) (items : List NumberedName) (name : List ℕ) (number : ℕ) → (number_in items name ≡ None → Contains (map named_item items) (name, number) → ⊥)
    → (b : Bool) → bytes_eq (string_bytes item.name) name ≡ b → found_by b item items name ≡ None
    → (named_item item ≡ (name, number)) ⊎ Contains (map named_item items) (name, number) → ⊥
none-case item items name number rest true e none place = let never : Some item.number ≡ None = none in cc
none-case item items name number rest false e none (inl is) =
    let text : string_bytes item.name ≡ name = ap (λ entry. entry.0) is in
    let equal : bytes_eq (string_bytes item.name) name ≡ true = (bytes_eq-Decides (string_bytes item.name) name).1 text in
    let never : false ≡ true = sym e ∙ equal in cc
none-case item items name number rest false e none (inr later) = rest none later

none-in : (items : List NumberedName) (name : List ℕ) (number : ℕ) → number_in items name ≡ None → Contains (map named_item items) (name, number) → ⊥
none-in [] name number none found = nowhere (name, number) found
none-in (item ∷ items) name number none found =
    none-case item items name number (λ none later. none-in items name number none later) (bytes_eq (string_bytes item.name) name) refl none
    (parted (named_item item) (map named_item items) (name, number) found)

-- a name that has one number alone
alone-in : (items : List NumberedName) (name : List ℕ) (number : ℕ) → Contains (map named_item items) (name, number)
    → ((other : ℕ) → Contains (map named_item items) (name, other) → other ≡ number) → number_in items name ≡ Some number
alone-in items name number found alone = by_case (number_in items name) refl
  where
    by_case : (answer : Option ℕ) → number_in items name ≡ answer → number_in items name ≡ Some number
    by_case None e = absurd (none-in items name number e found)
    by_case (Some other) e = e ∙ ap Some (alone other (found-in items name other e))

below-case : (item : NumberedName) (items : List NumberedName) (next : ℕ) (name : List ℕ) (number : ℕ) → item.number < next → (number_in items name ≡ Some number → number < next)
    → (b : Bool) → found_by b item items name ≡ Some number → number < next
below-case item items next name number first rest true is = let same : item.number ≡ number = cc in subst (λ n. n < next) same first
below-case item items next name number first rest false is = rest is

pub below-in : (items : List NumberedName) (next : ℕ) (name : List ℕ) (number : ℕ) → AreBelow items next → number_in items name ≡ Some number → number < next
below-in [] next name number below is = cc
below-in (item ∷ items) next name number below is =
    below-case item items next name number (below zero item refl)
    (λ later. below-in items next name number (λ place user at. below (suc place) user at) later) (bytes_eq (string_bytes item.name) name) is

found-at : (items : List NumberedName) (place : ℕ) (user : NumberedName) → slice_get items place ≡ Some user → Contains (map named_item items) (string_bytes user.name, user.number)
found-at [] place user at = cc
found-at (item ∷ items) zero user at =
    let same : item ≡ user = cc in
    subst (λ first. Contains (named_item first ∷ map named_item items) (named_item user)) (sym same) (here (map named_item items) (named_item user))
found-at (item ∷ items) (suc place) user at = there (named_item item) (map named_item items) (named_item user) (found-at items place user at)

-- ---- a name in what is known after a reload

in-case : (users : Accounts) (first : List ℕ) (names : List (List ℕ)) (name : List ℕ) (number : ℕ) → number_named users name ≡ Some number
    → (Contains names name → Contains (with_numbers users names) (name, number))
    → (answer : Option ℕ) → number_named users first ≡ answer → (first ≡ name) ⊎ Contains names name
    → Contains (with_number first answer (with_numbers users names)) (name, number)
in-case users first names name number is rest None e (inl same) = absurd (let never : None ≡ Some number = sym e ∙ ap (number_named users) same ∙ is in cc)
in-case users first names name number is rest None e (inr later) = rest later
in-case users first names name number is rest (Some other) e (inl same) =
    let equal : Some other ≡ Some number = sym e ∙ ap (number_named users) same ∙ is in
    let both : (first, other) ≡ (name, number) = cc in
    subst (λ entry. Contains (entry ∷ with_numbers users names) (name, number)) (sym both) (here (with_numbers users names) (name, number))
in-case users first names name number is rest (Some other) e (inr later) = there (first, other) (with_numbers users names) (name, number) (rest later)

in-numbers : (users : Accounts) (names : List (List ℕ)) (name : List ℕ) (number : ℕ) → number_named users name ≡ Some number → Contains names name
    → Contains (with_numbers users names) (name, number)
in-numbers users [] name number is found = absurd (nowhere name found)
in-numbers users (first ∷ names) name number is found =
    in-case users first names name number is (λ later. in-numbers users names name number is later) (number_named users first) refl (parted first names name found)

from-part : (users : Accounts) (first : List ℕ) (names : List (List ℕ)) (name : List ℕ) (number other : ℕ) → number_named users first ≡ Some other
    → (Contains (with_numbers users names) (name, number) → number_named users name ≡ Some number)
    → (◌≡◌ {A = List ℕ × ℕ} (first, other) (name, number)) ⊎ Contains (with_numbers users names) (name, number) → number_named users name ≡ Some number
from-part users first names name number other e rest (inl is) = ap (number_named users) (sym (ap (λ entry. entry.0) is)) ∙ e ∙ ap (λ entry. Some entry.1) is
from-part users first names name number other e rest (inr later) = rest later

from-case : (users : Accounts) (first : List ℕ) (names : List (List ℕ)) (name : List ℕ) (number : ℕ)
    → (Contains (with_numbers users names) (name, number) → number_named users name ≡ Some number)
    → (answer : Option ℕ) → number_named users first ≡ answer → Contains (with_number first answer (with_numbers users names)) (name, number) → number_named users name ≡ Some number
from-case users first names name number rest None e found = rest found
from-case users first names name number rest (Some other) e found =
    from-part users first names name number other e rest (parted (first, other) (with_numbers users names) (name, number) found)

from-numbers : (users : Accounts) (names : List (List ℕ)) (name : List ℕ) (number : ℕ) → Contains (with_numbers users names) (name, number) → number_named users name ≡ Some number
from-numbers users [] name number found = absurd (nowhere (name, number) found)
from-numbers users (first ∷ names) name number found =
    from-case users first names name number (λ later. from-numbers users names name number later) (number_named users first) refl found

there-is : (found : Option User) (number : ℕ) → option_map (λ user. user.number) found ≡ Some number → is_some found ≡ true
there-is None number is = cc
there-is (Some user) number is = refl

there-is-not : (found : Option User) → option_map (λ user. user.number) found ≡ None → found ≡ None
there-is-not None is = refl
there-is-not (Some user) is = cc

among-users : (users : Accounts) (name : List ℕ) (number : ℕ) → number_named users name ≡ Some number → Contains (finite.keys users.users) name
among-users users name number is =
    among name (finite.keys users.users) (sym (contains_key-keys users.users name) ∙ there-is (finite.get users.users name) number is)

-- ---- numbers of groups change no number of a user

same-number : (change : User → User) → ((user : User) → (change user).number ≡ user.number) → (found : Option User) → option_map (λ user. user.number) (option_map change found) ≡ option_map (λ user. user.number) found
same-number change keeps None = refl
same-number change keeps (Some user) = ap Some (keeps user)

regrouped-number : (places : List ℕ) (users : Accounts) (name : List ℕ) → number_named (regrouped places users) name ≡ number_named users name
regrouped-number places users name =
    ap (option_map (λ user. user.number)) (get-each_user _ users.users name) ∙ same-number _ (λ user. refl) (finite.get users.users name)

-- ---- a number over a reload

-- the number of a name that was known
number-kept : (read earlier kept : Accounts) (places : List ℕ) (name : List ℕ) (old new : ℕ) → KeepsNumbers read earlier kept
    → number_named earlier name ≡ Some old → number_named (regrouped places kept) name ≡ Some new → new ≡ old
number-kept read earlier kept places name old new keeps was is = by_case (finite.get read.users name) refl (finite.get earlier.users name) refl
  where
    after : number_named kept name ≡ Some new
    after = sym (regrouped-number places kept name) ∙ is

    by_case : (found : Option User) → finite.get read.users name ≡ found → (before : Option User) → finite.get earlier.users name ≡ before → new ≡ old
    by_case None e before f =
        let never : None ≡ Some new = sym (ap (option_map (λ user. user.number)) (keeps.nobody name e)) ∙ after in cc
    by_case (Some user) e None f =
        let never : None ≡ Some old = sym (ap (option_map (λ user. user.number)) f) ∙ was in cc
    by_case (Some user) e (Some before) f =
        let first : Some before.number ≡ Some old = sym (ap (option_map (λ user. user.number)) f) ∙ was in
        let second : Some before.number ≡ Some new = sym (ap (option_map (λ user. user.number)) (keeps.kept name user before e f)) ∙ after in
        let same : Some new ≡ Some old = sym second ∙ first in cc

-- the number of a name that was not
number-fresh : (read earlier kept : Accounts) (places : List ℕ) (name : List ℕ) (new : ℕ) → KeepsNumbers read earlier kept
    → number_named earlier name ≡ None → number_named (regrouped places kept) name ≡ Some new → earlier.next ≤ new
number-fresh read earlier kept places name new keeps was is = by_case (finite.get read.users name) refl
  where
    after : number_named kept name ≡ Some new
    after = sym (regrouped-number places kept name) ∙ is

    by_case : (found : Option User) → finite.get read.users name ≡ found → earlier.next ≤ new
    by_case None e =
        let never : None ≡ Some new = sym (ap (option_map (λ user. user.number)) (keeps.nobody name e)) ∙ after in cc
    by_case (Some user) e =
        let fresh = keeps.fresh name user e (there-is-not (finite.get earlier.users name) was) in
        let same : Some fresh.0 ≡ Some new = sym (ap (option_map (λ user. user.number)) fresh.1) ∙ after in
        let equal : fresh.0 ≡ new = cc in
        omega (arith, fresh.2, equal)

module _ (old new : List NumberedName) (old_next new_next : ℕ) (read earlier kept : Accounts) (places : List ℕ) (has : HasNumbers old old_next earlier) (keeps : KeepsNumbers read earlier kept)
    (known : IsPermutation (known_after (regrouped places kept) (map named_item old)) (map named_item new)) where
  abbrev after : Accounts
  after = regrouped places kept

  -- the only number of a known name
  only : (name : List ℕ) (number other : ℕ) → number_in old name ≡ Some number → Contains (map named_item new) (name, other) → other ≡ number
  only name number other is found =
      by_part (Contains-append_cases (with_numbers after (finite.keys after.users)) (past_names after (map named_item old)) (name, other)
      (Contains-permutation (map named_item new) (known_after after (map named_item old)) (name, other) (IsPermutation-sym _ _ known) found))
    where
      by_part : Contains (with_numbers after (finite.keys after.users)) (name, other) ⊎ Contains (past_names after (map named_item old)) (name, other) → other ≡ number
      by_part (inl now) =
          number-kept read earlier kept places name number other keeps (has.numbers name ∙ is) (from-numbers after (finite.keys after.users) name other now)
      by_part (inr past) =
          let same : Some other ≡ Some number = sym (has.own name other (was-in _ (map named_item old) (name, other) past)) ∙ is in cc

  there-after : (name : List ℕ) (number : ℕ) → number_in old name ≡ Some number → Contains (known_after after (map named_item old)) (name, number)
  there-after name number is = by_case (number_named after name) refl
    where
      by_case : (answer : Option ℕ) → number_named after name ≡ answer → Contains (known_after after (map named_item old)) (name, number)
      by_case None e =
          Contains-append_right (with_numbers after (finite.keys after.users)) (past_names after (map named_item old)) (name, number)
          (kept-in _ (map named_item old) (name, number) (found-in old name number is)
          (ap (λ (found : Option User). not (is_some found)) (there-is-not (finite.get after.users name) e)))
      by_case (Some other) e =
          let same : other ≡ number = number-kept read earlier kept places name number other keeps (has.numbers name ∙ is) e in
          Contains-append_left (with_numbers after (finite.keys after.users)) (past_names after (map named_item old)) (name, number)
          (in-numbers after (finite.keys after.users) name number (e ∙ ap Some same) (among-users after name other e))

  pub names-kept : (name : List ℕ) (number : ℕ) → number_in old name ≡ Some number → number_in new name ≡ Some number
  names-kept name number is =
      alone-in new name number
      (Contains-permutation (known_after after (map named_item old)) (map named_item new) (name, number) known (there-after name number is))
      (λ other found. only name number other is found)

  pub names-fresh : (name : List ℕ) (number : ℕ) → number_in old name ≡ None → number_in new name ≡ Some number → old_next ≤ number
  names-fresh name number none is =
      by_part (Contains-append_cases (with_numbers after (finite.keys after.users)) (past_names after (map named_item old)) (name, number)
      (Contains-permutation (map named_item new) (known_after after (map named_item old)) (name, number) (IsPermutation-sym _ _ known) (found-in new name number is)))
    where
      by_part : Contains (with_numbers after (finite.keys after.users)) (name, number) ⊎ Contains (past_names after (map named_item old)) (name, number) → old_next ≤ number
      by_part (inl now) =
          let enough : earlier.next ≤ number = number-fresh read earlier kept places name number keeps (has.numbers name ∙ none) (from-numbers after (finite.keys after.users) name number now) in
          omega (arith, enough, has.next_number)
      by_part (inr past) = absurd (none-in old name number none (was-in _ (map named_item old) (name, number) past))

  pub next-kept : IsLeast old old_next → AreBelow new new_next → old_next ≤ new_next
  next-kept least below = least new_next (λ place user at. below-in new new_next (string_bytes user.name) user.number below
      (names-kept (string_bytes user.name) user.number (has.own (string_bytes user.name) user.number (found-at old place user at))))
