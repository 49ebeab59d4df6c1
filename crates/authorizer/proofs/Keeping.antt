-- Numbers that are kept are each of one user.
use Rattle.std.proofs.Common.{◌≡◌, ℕ, ◌+◌, ◌^◌, ◌<◌, ◌≤◌, Bool, true, false, cond, ◌||◌, List, [], ◌∷◌, Option, Some, None, Result, Ok, Err, length, nat_lt, nat_le, nat_eq, count_by, refl, sym, ap, subst, ◌∙◌, arith, ◌⊎◌, inl, inr}
use Rattle.std.specs.List.{list_any}
use Rattle.std.specs.Option.{option_map}
use Rattle.std.specs.Cmp.Lexicographic.{slice_cmp}
use Rattle.std.specs.FinMap as finite
use Rattle.std.specs.FinMap.{find, get-entries}
use Rattle.std.specs.Ordering.{nat_cmp, eq_by_cmp}
use Rattle.std.proofs.lemmas.Bool.{ltb-true, eqb-true, lt-ltb, cases_lt, false≢true}
use Rattle.authorizer.specs.declared.fault.AuthorizerFault.{AuthorizerFault}
use Rattle.authorizer.specs.declared.fault.AuthorizerFault.TheVariants.{NoNumber}
use Rattle.authorizer.specs.Users.{User, Users, Accounts}
use Rattle.authorizer.specs.Renumbered.{new_numbers, number_or, kept_number, renumbered_by, IsNumbered, KeepsNumbers, NumbersAreKept, NumbersStayOwn}
use Rattle.authorizer.proofs.Maps.{equal_keys}
use Rattle.authorizer.proofs.Owned.{numbered-all, numbered-none}
use Rattle.authorizer.proofs.Renumbering.{get-each_user, numbers_in, head-among, tail-among, count-under, count-cons}

by-room : (b : Bool) (value new : Accounts) → ◌≡◌ {A = Result Accounts AuthorizerFault} (cond b (Ok value) (Err NoNumber)) (Ok new) → value ≡ new
by-room true value new e = cc
by-room false value new e = cc

some_same : (a b : User) → Some a ≡ Some b → a ≡ b
some_same a b e = cc

none_some : (b : User) → None ≡ Some b → ⊥
none_some b e = cc

-- a user whose name is not earlier has one of the new numbers
among-found : (earlier : Users) (name : List ℕ) (user : User) (es : List (List ℕ × User)) → find (slice_cmp nat_cmp) name es ≡ Some user → finite.get earlier name ≡ None
    → list_any (nat_eq user.number) (numbers_in earlier es) ≡ true
among-found earlier name user [] is none = absurd (none_some user is)
among-found earlier name user (e ∷ es) is none =
    elim (eq_by_cmp (slice_cmp nat_cmp) name e.0) as (λ b. eq_by_cmp (slice_cmp nat_cmp) name e.0 ≡ b → cond b (Some e.1) (find (slice_cmp nat_cmp) name es) ≡ Some user
    → list_any (nat_eq user.number) (numbers_in earlier (e ∷ es)) ≡ true) [
      | true ↦ λ same here.
          subst (λ (u : User). list_any (nat_eq u.number) (numbers_in earlier (e ∷ es)) ≡ true) (some_same e.1 user here)
          (head-among earlier e es (numbers_in earlier (e ∷ es)) (λ x is. is) (ap (finite.get earlier) (sym (equal_keys name e.0 same)) ∙ none))
      | false ↦ λ _ later.
          tail-among earlier e es (numbers_in earlier (e ∷ es)) (λ x is. is) user.number (among-found earlier name user es later none)
    ] refl is

among-new : (earlier : Users) (users : Users) (name : List ℕ) (user : User) → finite.get users name ≡ Some user → finite.get earlier name ≡ None
    → list_any (nat_eq user.number) (new_numbers earlier users) ≡ true
among-new earlier users name user is none = among-found earlier name user (finite.entries users) (sym (get-entries users name) ∙ is) none

-- ---- more numbers are below a greater one

count-more : (x y n c d : ℕ) (a b : Bool) → nat_lt n x ≡ a → nat_lt n y ≡ b → x ≤ y → c ≤ d → cond a 1 0 + c ≤ cond b 1 0 + d
count-more x y n c d true true p q le few = omega arith
count-more x y n c d true false p q le few = absurd (let under : n < x = ltb-true n x p in false≢true (sym q ∙ lt-ltb n y (omega arith)))
count-more x y n c d false true p q le few = omega arith
count-more x y n c d false false p q le few = omega arith

count-rises : (x y : ℕ) (ns : List ℕ) → x ≤ y → count_by (λ n. nat_lt n x) ns ≤ count_by (λ n. nat_lt n y) ns
count-rises x y [] le = omega arith
count-rises x y (n ∷ ns) le =
    let more = count-more x y n _ _ (nat_lt n x) (nat_lt n y) refl refl le (count-rises x y ns le) in
    omega (arith, more, count-cons x n ns, count-cons y n ns)

here-more : (x y n c d : ℕ) (a b : Bool) → nat_lt n x ≡ a → nat_lt n y ≡ b → x ≡ n → x < y → c ≤ d → cond a 1 0 + c < cond b 1 0 + d
here-more x y n c d true b p q same less few = absurd (let under : n < x = ltb-true n x p in omega arith)
here-more x y n c d false true p q same less few = omega arith
here-more x y n c d false false p q same less few = absurd (false≢true (sym q ∙ lt-ltb n y (omega arith)))

there-more : (x y n c d : ℕ) (a b : Bool) → nat_lt n x ≡ a → nat_lt n y ≡ b → x < y → c < d → cond a 1 0 + c < cond b 1 0 + d
there-more x y n c d true true p q less few = omega arith
there-more x y n c d true false p q less few = absurd (let under : n < x = ltb-true n x p in false≢true (sym q ∙ lt-ltb n y (omega arith)))
there-more x y n c d false true p q less few = omega arith
there-more x y n c d false false p q less few = omega arith

count-strict : (x y : ℕ) (ns : List ℕ) → x < y → list_any (nat_eq x) ns ≡ true → count_by (λ n. nat_lt n x) ns < count_by (λ n. nat_lt n y) ns
count-strict x y [] less among = absurd (false≢true among)
count-strict x y (n ∷ ns) less among =
    let more : cond (nat_lt n x) 1 0 + count_by (λ n. nat_lt n x) ns < cond (nat_lt n y) 1 0 + count_by (λ n. nat_lt n y) ns =
    elim (nat_eq x n) as (λ b. nat_eq x n ≡ b → (b || list_any (nat_eq x) ns) ≡ true → cond (nat_lt n x) 1 0 + count_by (λ n. nat_lt n x) ns < cond (nat_lt n y) 1 0 + count_by (λ n. nat_lt n y) ns) [
      | true ↦ λ same _. here-more x y n _ _ (nat_lt n x) (nat_lt n y) refl refl (eqb-true x n same) less (count-rises x y ns (omega arith))
      | false ↦ λ _ later. there-more x y n _ _ (nat_lt n x) (nat_lt n y) refl refl less (count-strict x y ns less later)
    ] refl among in
    omega (arith, more, count-cons x n ns, count-cons y n ns)

count-same : (x y : ℕ) (ns : List ℕ) → list_any (nat_eq x) ns ≡ true → list_any (nat_eq y) ns ≡ true → count_by (λ n. nat_lt n x) ns ≡ count_by (λ n. nat_lt n y) ns → x ≡ y
count-same x y ns first second same = by_order (cases_lt x y) (cases_lt y x)
  where
    by_order : (x < y) ⊎ (y ≤ x) → (y < x) ⊎ (x ≤ y) → x ≡ y
    by_order (inl less) other = absurd (let more = count-strict x y ns less first in omega arith)
    by_order (inr le) (inl less) = absurd (let more = count-strict y x ns less second in omega arith)
    by_order (inr le) (inr ge) = omega arith

-- ---- the users afterwards

module _ (accounts earlier : Accounts) where
  abbrev news : List ℕ
  news = new_numbers earlier.users accounts.users

  abbrev after : Accounts
  after = renumbered_by earlier news accounts.users

  abbrev changed_user : List ℕ → User → User
  changed_user name user = record user { number = kept_number earlier news name user.number }

  get-after : (name : List ℕ) → finite.get after.users name ≡ option_map (changed_user name) (finite.get accounts.users name)
  get-after name = get-each_user changed_user accounts.users name

  with-kept : (user : User) (found : Option User) (before : User) (spare : ℕ) → found ≡ Some before → record user { number = number_or found spare } ≡ record user { number = before.number }
  with-kept user found before spare is = ap (λ (o : Option User). record user { number = number_or o spare }) is

  with-fresh : (user : User) (found : Option User) (spare : ℕ) → found ≡ None → record user { number = number_or found spare } ≡ record user { number = spare }
  with-fresh user found spare is = ap (λ (o : Option User). record user { number = number_or o spare }) is

  fresh_number : User → ℕ
  fresh_number user = earlier.next + count_by (λ n. nat_lt n user.number) news

  under-next : (name : List ℕ) (user : User) → finite.get accounts.users name ≡ Some user → finite.get earlier.users name ≡ None → earlier.next + count_by (λ n. nat_lt n user.number) news < earlier.next + length news
  under-next name user is none =
      let under = count-under user.number news (among-new earlier.users accounts.users name user is none) in
      omega arith

  -- a user of those afterwards, as before
  record IsOf (name : List ℕ) (user : User) : Type 0 where
    before : User
    stood : finite.get accounts.users name ≡ Some before
    number : user.number ≡ number_or (finite.get earlier.users name) (earlier.next + count_by (λ n. nat_lt n before.number) news)

  of-found : (name : List ℕ) (user : User) (found : Option User) → finite.get accounts.users name ≡ found → option_map (changed_user name) found ≡ Some user → IsOf name user
  of-found name user None is e = absurd (none_some user e)
  of-found name user (Some before) is e = record {
    before = before;
    stood = is;
    number = ap (λ (u : User). u.number) (sym (some_same (changed_user name before) user e));
  }

  is-of : (name : List ℕ) (user : User) → finite.get after.users name ≡ Some user → IsOf name user
  is-of name user is = of-found name user (finite.get accounts.users name) refl (sym (get-after name) ∙ is)

  -- the number is an earlier one, or a new one
  below-by : IsNumbered earlier → (name : List ℕ) (user : User) (of : IsOf name user) (found : Option User) → finite.get earlier.users name ≡ found → user.number < after.next
  below-by old name user of None none =
      let here = under-next name of.before of.stood none in
      let number = ap (λ (o : Option User). number_or o (earlier.next + count_by (λ n. nat_lt n of.before.number) news)) none in
      omega (arith, here, of.number, number)
  below-by old name user of (Some earliest) is =
      let number = ap (λ (o : Option User). number_or o (earlier.next + count_by (λ n. nat_lt n of.before.number) news)) is in
      omega (arith, old.below name earliest is, of.number, number)

  own-by : IsNumbered accounts → IsNumbered earlier → (name other : List ℕ) (user second : User) (of : IsOf name user) (also : IsOf other second) (found more : Option User)
      → finite.get earlier.users name ≡ found → finite.get earlier.users other ≡ more → user.number ≡ second.number → name ≡ other
  own-by now old name other user second of also None None none none_other same =
      let number = ap (λ (o : Option User). number_or o (earlier.next + count_by (λ n. nat_lt n of.before.number) news)) none in
      let number_other = ap (λ (o : Option User). number_or o (earlier.next + count_by (λ n. nat_lt n also.before.number) news)) none_other in
      let counts : count_by (λ n. nat_lt n of.before.number) news ≡ count_by (λ n. nat_lt n also.before.number) news = omega (arith, of.number, also.number, number, number_other, same) in
      now.own name other of.before also.before of.stood also.stood
      (count-same of.before.number also.before.number news
      (among-new earlier.users accounts.users name of.before of.stood none)
      (among-new earlier.users accounts.users other also.before also.stood none_other) counts)
  own-by now old name other user second of also (Some earliest) None is none_other same =
      let number = ap (λ (o : Option User). number_or o (earlier.next + count_by (λ n. nat_lt n of.before.number) news)) is in
      let number_other = ap (λ (o : Option User). number_or o (earlier.next + count_by (λ n. nat_lt n also.before.number) news)) none_other in
      absurd (omega (arith, of.number, also.number, number, number_other, same, old.below name earliest is))
  own-by now old name other user second of also None (Some earliest) none is same =
      let number = ap (λ (o : Option User). number_or o (earlier.next + count_by (λ n. nat_lt n of.before.number) news)) none in
      let number_other = ap (λ (o : Option User). number_or o (earlier.next + count_by (λ n. nat_lt n also.before.number) news)) is in
      absurd (omega (arith, of.number, also.number, number, number_other, same, old.below other earliest is))
  own-by now old name other user second of also (Some earliest) (Some latest) is are same =
      let number = ap (λ (o : Option User). number_or o (earlier.next + count_by (λ n. nat_lt n of.before.number) news)) is in
      let number_other = ap (λ (o : Option User). number_or o (earlier.next + count_by (λ n. nat_lt n also.before.number) news)) are in
      old.own name other earliest latest is are (omega (arith, of.number, also.number, number, number_other, same))

  keeps : KeepsNumbers accounts earlier after
  keeps = record {
    nobody = λ name none. get-after name ∙ ap (option_map (changed_user name)) none;
    kept = λ name user before is was. get-after name ∙ ap (option_map (changed_user name)) is
        ∙ ap Some (with-kept user (finite.get earlier.users name) before (earlier.next + count_by (λ n. nat_lt n user.number) news) was);
    fresh = λ name user is none. (
      earlier.next + count_by (λ n. nat_lt n user.number) news,
      get-after name ∙ ap (option_map (changed_user name)) is
          ∙ ap Some (with-fresh user (finite.get earlier.users name) (earlier.next + count_by (λ n. nat_lt n user.number) news) none),
      omega arith,
      under-next name user is none,
    );
    numbered = λ now old. record {
      below = λ name user is. below-by old name user (is-of name user is) (finite.get earlier.users name) refl;
      own = λ name other user second is also same.
          own-by now old name other user second (is-of name user is) (is-of other second also) (finite.get earlier.users name) (finite.get earlier.users other) refl refl same;
    };
  }

pub numbers_are_kept : NumbersAreKept
numbers_are_kept accounts earlier new e =
    subst (KeepsNumbers accounts earlier)
    (by-room (nat_le (earlier.next + length (new_numbers earlier.users accounts.users)) (2 ^ 32)) (renumbered_by earlier (new_numbers earlier.users accounts.users) accounts.users) new e)
    (keeps accounts earlier)

pub numbers_stay_own : NumbersStayOwn
numbers_stay_own = (numbered-none, λ first exchanges follow numbered. numbered-all first exchanges follow numbered)
