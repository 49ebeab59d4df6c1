-- The numbers of names, in an authorizer and in a list.
use Rattle.std.proofs.Common.{◌≡◌, ℕ, ◌+◌, ◌<◌, ◌≤◌, Bool, true, false, cond, List, [], ◌∷◌, ◌++◌, Option, Some, None, Result, Ok, Err, MatchResult, OnOk, bytes_eq, refl, sym, ap, subst, ◌∙◌, option_map, length, map, take, get_or, add-one, arith, ◌⊎◌, inl, inr}
use Rattle.std.specs.Prelude.{string_bytes}
use Rattle.std.specs.List.{Contains, find}
use Rattle.std.specs.Option.{is_some, option_or}
use Rattle.std.specs.Cmp.{eq_by_cmp_equiv}
use Rattle.std.specs.Cmp.Lexicographic.{slice_cmp}
use Rattle.std.specs.Ordering.{nat_cmp, eq_by_cmp}
use Rattle.std.proofs.lemmas.Cmp.{nat_list_cmp_total}
use Rattle.std.proofs.lemmas.List.{map-append, take_all}
use Rattle.std.proofs.lemmas.List.Elements.{Contains-push_cases}
use Rattle.std.proofs.lemmas.List.Folds.{find-append}
use Rattle.std.proofs.lemmas.Slice.Eq.{bytes_eq-Decides}
use Rattle.std.proofs.lemmas.Map.Text.{is_eq-slice_cmp}
use Rattle.std.proofs.lemmas.Option.{slice_get-get_or}
use Rattle.std.proofs.Math.Seq.{take-suc}
use Rattle.std.specs.FinMap as finite
use Rattle.std.specs.FinMap.{get-insert, get-remove}
use Rattle.authorizer.specs.declared.fault.AuthorizerFault.{AuthorizerFault}
use Rattle.authorizer.specs.declared.fault.AuthorizerFault.TheVariants.{UserExists}
use Rattle.authorizer.specs.Changes.{added, removed}
use Rattle.authorizer.specs.Users.{User, Users, Accounts}
use Rattle.authorizer.proofs.Maps.{equal_keys, same}
use Rattle.authorizer.proofs.Outcomes.{IsAdded, is-added, is-removed}
use Rattle.config_change.specs.Named.{number_named}
use Rattle.config_change.specs.Past.{named_item}
use Rattle.config_change.specs.declared.known.NumberedName.{NumberedName}
use Rattle.machine_parts.specs.Known.{AreBelow}
use Rattle.machine_parts.specs.Names.{number_in}

-- ---- who was added was not there before

refused : (b : Bool) (next : Result Accounts AuthorizerFault) (new : Accounts) → cond b (Err UserExists) next ≡ Ok new → b ≡ false
refused true next new e = cc
refused false next new e = refl

pub absent : (old new : Accounts) (name password home letters : List ℕ) → added old name password home letters ≡ Ok new → finite.contains_key old.users name ≡ false
absent old new name password home letters e = refused (finite.contains_key old.users name) _ new e

nobody : (found : Option User) → is_some found ≡ false → found ≡ None
nobody None e = refl
nobody (Some user) e = cc

-- ---- a user who came and went

back : (users : Users) (name : List ℕ) (user : User) → finite.contains_key users name ≡ false → (q : List ℕ) (b : Bool) → eq_by_cmp (slice_cmp nat_cmp) q name ≡ b
    → cond b None (cond b (Some user) (finite.get users q)) ≡ finite.get users q
back users name user none q true is =
    sym (nobody (finite.get users q) (ap (λ k. is_some (finite.get users k)) (equal_keys q name is) ∙ none))
back users name user none q false is = refl

pub restored : (old mid new : Accounts) (name password home letters : List ℕ) → added old name password home letters ≡ Ok mid → removed mid name ≡ Ok new
    → (new.users ≡ old.users) × (new.next ≡ old.next + 1)
restored old mid new name password home letters came went =
    let a : IsAdded old name mid = is-added old mid name password home letters came in
    let none : finite.contains_key old.users name ≡ false = absent old mid name password home letters came in
    let gone : record { users = finite.remove mid.users name; next = mid.next } ≡ new = is-removed mid new name went in
    let there : finite.remove (finite.insert old.users name a.user) name ≡ old.users =
    same _ _ (λ q. get-remove nat_list_cmp_total (finite.insert old.users name a.user) name q
    ∙ ap (cond (eq_by_cmp (slice_cmp nat_cmp) q name) None) (get-insert nat_list_cmp_total old.users name a.user q)
    ∙ back old.users name a.user none q (eq_by_cmp (slice_cmp nat_cmp) q name) refl) in (
      ap (λ accounts. accounts.users) (sym gone) ∙ ap (λ accounts. finite.remove accounts.users name) (sym a.is) ∙ there,
      ap (λ accounts. accounts.next) (sym gone) ∙ ap (λ accounts. accounts.next) (sym a.is),
    )

abbrev Removes : Accounts → List ℕ → Accounts → Result (Unit {0}) AuthorizerFault → Type 0
Removes mid name new result =
    MatchResult result (λ _. removed mid name ≡ Ok new) (λ fault. (new ≡ mid) × (removed mid name ≡ Err fault))

pub went-users : (old mid new : Accounts) (name password home letters : List ℕ) → added old name password home letters ≡ Ok mid → (result : Result (Unit {0}) AuthorizerFault)
    → Removes mid name new result → OnOk result (new.users ≡ old.users)
went-users old mid new name password home letters came (Ok done) went = (restored old mid new name password home letters came went).0
went-users old mid new name password home letters came (Err fault) went = tt

pub went-next : (old mid new : Accounts) (name password home letters : List ℕ) → added old name password home letters ≡ Ok mid → (result : Result (Unit {0}) AuthorizerFault)
    → Removes mid name new result → OnOk result (new.next ≡ old.next + 1)
went-next old mid new name password home letters came (Ok done) went = (restored old mid new name password home letters came went).1
went-next old mid new name password home letters came (Err fault) went = tt

-- ---- one name more

symmetric : (a b : List ℕ) → bytes_eq a b ≡ eq_by_cmp (slice_cmp nat_cmp) b a
symmetric a b = sym (is_eq-slice_cmp a b) ∙ (eq_by_cmp_equiv nat_list_cmp_total).symm a b

last : (item : NumberedName) (user : User) (number : ℕ) → user.number ≡ number → number ≡ item.number → (had : Option User) (found : Option NumberedName) (b : Bool)
    → (b ≡ true → is_some had ≡ false)
    → option_map (λ user. user.number) had ≡ option_map (λ item. item.number) found
    → option_map (λ user. user.number) (cond b (Some user) had) ≡ option_map (λ item. item.number) (option_or found (cond b (Some item) None))
last item user number numbered is (Some other) found true none same = absurd (let e : true ≡ false = none refl in cc)
last item user number numbered is None (Some found) true none same = cc
last item user number numbered is None None true none same = ap Some (numbered ∙ is)
last item user number numbered is had None false none same = same
last item user number numbered is had (Some found) false none same = same

pub known-by : (old new : Accounts) (known : List NumberedName) → new.users ≡ old.users → ((name : List ℕ) → number_named old name ≡ number_in known name)
    → (name : List ℕ) → number_named new name ≡ number_in known name
known-by old new known is same name = ap (λ users. option_map (λ user. user.number) (finite.get users name)) is ∙ same name

pub one-more : (old new : Accounts) (known : List NumberedName) (item : NumberedName) (password home letters : List ℕ) → added old (string_bytes item.name) password home letters ≡ Ok new
    → old.next ≡ item.number → ((name : List ℕ) → number_named old name ≡ number_in known name)
    → (name : List ℕ) → number_named new name ≡ number_in (known ++ item ∷ []) name
one-more old new known item password home letters came next same name =
    let key = string_bytes item.name in
    let a : IsAdded old key new = is-added old new key password home letters came in
    let none : finite.contains_key old.users key ≡ false = absent old new key password home letters came in
    let is : Bool = eq_by_cmp (slice_cmp nat_cmp) name key in
    ap (λ accounts. number_named accounts name) (sym a.is)
    ∙ ap (option_map (λ user. user.number)) (get-insert nat_list_cmp_total old.users key a.user name)
    ∙ last item a.user old.next a.numbered next (finite.get old.users name) (find (λ item. bytes_eq (string_bytes item.name) name) known) is
    (λ e. ap (λ k. is_some (finite.get old.users k)) (equal_keys name key e) ∙ none) (same name)
    ∙ ap (λ b. option_map (λ item. item.number) (option_or (find (λ item. bytes_eq (string_bytes item.name) name) known) (cond b (Some item) None))) (sym (symmetric key name))
    ∙ ap (option_map (λ item. item.number)) (sym (find-append (λ item. bytes_eq (string_bytes item.name) name) known (item ∷ [])))

pub next-after : (old new : Accounts) (name password home letters : List ℕ) → added old name password home letters ≡ Ok new → new.next ≡ old.next + 1
next-after old new name password home letters came =
    let a : IsAdded old name new = is-added old new name password home letters came in
    ap (λ accounts. accounts.next) (sym a.is)

pub one-further : (items : List NumberedName) (i : ℕ) (item : NumberedName) → i < length items → item ≡ get_or items i item
    → (old mid new : Accounts) (name password home letters : List ℕ) → added mid name password home letters ≡ Ok new → name ≡ string_bytes item.name
    → mid.users ≡ old.users → mid.next ≡ item.number
    → ((name : List ℕ) → number_named old name ≡ number_in (take i items) name)
    → (name : List ℕ) → number_named new name ≡ number_in (take (i + 1) items) name
one-further items i item within is old mid new name password home letters came named kept next same asked =
    let here : added mid (string_bytes item.name) password home letters ≡ Ok new = subst (λ text. added mid text password home letters ≡ Ok new) named came in
    let all : number_named new asked ≡ number_in (take i items ++ item ∷ []) asked =
    one-more mid new (take i items) item password home letters here next (known-by old mid (take i items) kept same) asked in
    let more : take (i + 1) items ≡ take i items ++ item ∷ [] =
    ap (λ n. take n items) (add-one i) ∙ take-suc items i item within ∙ ap (λ x. take i items ++ x ∷ []) (sym is) in
    all ∙ ap (λ known. number_in known asked) (sym more)

pub below-next : (items : List NumberedName) (next i : ℕ) (item : NumberedName) → AreBelow items next → i < length items → item ≡ get_or items i item → item.number < next
below-next items next i item below within is =
    below i item (slice_get-get_or items i item within ∙ ap Some (sym is))

-- ---- nobody

pub none-named : (accounts : Accounts) → accounts ≡ record { users = finite.empty; next = 0 } → (name : List ℕ) → number_named accounts name ≡ None
none-named accounts is name =
    ap (λ known. number_named known name) is ∙ ap (option_map (λ user. user.number)) (finite.get-empty (slice_cmp nat_cmp) name)

pub none-next : (accounts : Accounts) → accounts ≡ record { users = finite.empty; next = 0 } → accounts.next ≡ 0
none-next accounts is = ap (λ known. known.next) is

pub all-known : (items : List NumberedName) (i : ℕ) → length items ≤ i → (old new : Accounts) → new.users ≡ old.users
    → ((name : List ℕ) → number_named old name ≡ number_in (take i items) name)
    → (name : List ℕ) → number_named new name ≡ number_in items name
all-known items i past old new is same name =
    known-by old new (take i items) is same name ∙ ap (λ known. number_in known name) (take_all i items past)

-- ---- each item has the number of its name

abbrev pub IsOwned : List NumberedName → Type 0
IsOwned known = (name : List ℕ) (number : ℕ) → Contains (map named_item known) (name, number) → number_in known name ≡ Some number

earlier-item : (item : NumberedName) (number : ℕ) (found : Option NumberedName) (b : Bool) → option_map (λ item. item.number) found ≡ Some number
    → option_map (λ item. item.number) (option_or found (cond b (Some item) None)) ≡ Some number
earlier-item item number None b is = cc
earlier-item item number (Some other) b is = is

last-item : (item : NumberedName) (number : ℕ) (found : Option NumberedName) (b : Bool) → b ≡ true → option_map (λ item. item.number) found ≡ None → item.number ≡ number
    → option_map (λ item. item.number) (option_or found (cond b (Some item) None)) ≡ Some number
last-item item number None true so none is = ap Some is
last-item item number (Some other) true so none is = cc
last-item item number found false so none is = cc

owned-push : (known : List NumberedName) (item : NumberedName) → number_in known (string_bytes item.name) ≡ None → IsOwned known → IsOwned (known ++ item ∷ [])
owned-push known item none own name number found =
    by_part (Contains-push_cases (map named_item known) (named_item item) (name, number) (subst (λ entries. Contains entries (name, number)) (map-append named_item known (item ∷ [])) found))
  where
    whole : number_in (known ++ item ∷ []) name
        ≡ option_map (λ item. item.number) (option_or (find (λ item. bytes_eq (string_bytes item.name) name) known) (cond (bytes_eq (string_bytes item.name) name) (Some item) None))
    whole = ap (option_map (λ item. item.number)) (find-append (λ item. bytes_eq (string_bytes item.name) name) known (item ∷ []))

    by_part : Contains (map named_item known) (name, number) ⊎ (named_item item ≡ (name, number)) → number_in (known ++ item ∷ []) name ≡ Some number
    by_part (inl before) =
        whole ∙ earlier-item item number (find (λ item. bytes_eq (string_bytes item.name) name) known) (bytes_eq (string_bytes item.name) name) (own name number before)
    by_part (inr is) =
        let text : string_bytes item.name ≡ name = ap (λ entry. entry.0) is in
        whole ∙ last-item item number (find (λ item. bytes_eq (string_bytes item.name) name) known) (bytes_eq (string_bytes item.name) name)
        ((bytes_eq-Decides (string_bytes item.name) name).1 text) (ap (number_in known) (sym text) ∙ none) (ap (λ entry. entry.1) is)

none-found : (found : Option User) → is_some found ≡ false → option_map (λ user. user.number) found ≡ None
none-found None is = refl
none-found (Some user) is = cc

pub owned-more : (items : List NumberedName) (i : ℕ) (item : NumberedName) → i < length items → item ≡ get_or items i item
    → (old mid new : Accounts) (name password home letters : List ℕ) → added mid name password home letters ≡ Ok new → name ≡ string_bytes item.name
    → mid.users ≡ old.users
    → ((name : List ℕ) → number_named old name ≡ number_in (take i items) name)
    → IsOwned (take i items) → IsOwned (take (i + 1) items)
owned-more items i item within is old mid new name password home letters came named kept same own =
    let gone : finite.contains_key mid.users name ≡ false = absent mid new name password home letters came in
    let none : number_in (take i items) (string_bytes item.name) ≡ None =
    sym (same (string_bytes item.name)) ∙ ap (number_named old) (sym named) ∙ ap (λ users. option_map (λ user. user.number) (finite.get users name)) (sym kept)
    ∙ none-found (finite.get mid.users name) gone in
    let more : take (i + 1) items ≡ take i items ++ item ∷ [] =
    ap (λ n. take n items) (add-one i) ∙ take-suc items i item within ∙ ap (λ x. take i items ++ x ∷ []) (sym is) in
    subst IsOwned (sym more) (owned-push (take i items) item none own)

pub owned-none : IsOwned []
owned-none name number found = absurd (omega (arith, found.1))

pub owned-all : (items : List NumberedName) (i : ℕ) → length items ≤ i → IsOwned (take i items) → IsOwned items
owned-all items i past own = subst IsOwned (take_all i items past) own
