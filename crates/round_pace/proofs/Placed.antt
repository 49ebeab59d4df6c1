-- Rows that the limits have need not be put there.
use Rattle.std.proofs.Common.{◌≡◌, ◌≢◌, ℕ, suc, ◌+◌, ◌<◌, Bool, true, false, cond, List, [], ◌∷◌, length, map, take, get_or, sym, refl, ap, ◌∙◌, subst, arith, Option, Some, None}
use Rattle.std.specs.FinMap as finite
use Rattle.std.specs.FinMap.{get-insert, same_map, nat_cmp-IsAntisymmetric}
use Rattle.std.specs.List.{fold}
use Rattle.std.specs.Option.{is_some}
use Rattle.std.specs.Ordering.{nat_cmp}
use Rattle.std.specs.Prelude.{nat_eq}
use Rattle.std.proofs.lemmas.Bool.{eqb-true, ne_eqb}
use Rattle.std.proofs.lemmas.Cmp.{nat_cmp_total}
use Rattle.std.proofs.lemmas.List.{take_more, get_or-map, get_or-take, length-map, length-take-le}
use Rattle.std.proofs.Math.Seq.{take-length}
use Rattle.std.proofs.lemmas.List.Sums.{fold-append}
use Rattle.line_rates.specs.declared.ask.Way.TheVariants.{Down, Up}
use Rattle.line_rates.specs.declared.row.GroupRate.{GroupRate}
use Rattle.line_rates.specs.declared.row.UserRate.{UserRate}
use Rattle.line_rates.specs.Put.{put, put_over, with_group, with_user}
use Rattle.line_rates.specs.Rates.{Rates}
use Rattle.line_rates.specs.Stated.{by_number, group_number, user_number, IsRising}
use Rattle.line_rates.proofs.RowLemmas.{first_row, get-by_number, same_test, rising_below, at_any}
use Rattle.round_pace.specs.declared.paced.GroupPace.{GroupPace}
use Rattle.round_pace.specs.declared.paced.UserPace.{UserPace}
use Rattle.round_pace.specs.Offered.{offer_group, user_parts, handed_user, put_groups, put_users}
use Rattle.round_pace.specs.Paced.{group_key, pace_number, AreTheGroups, AreTheUsers}
use Rattle.round_pace.specs.Quiet.{is_full_group, is_full_user, AllMarked, IsQuietGroup, IsQuietUser}
use Rattle.round_pace.proofs.Full.{offer_full}
use Rattle.round_pace.proofs.GroupsIn.{hands_groups_in}
use Rattle.round_pace.proofs.RowValues.{found_at}
use Rattle.round_pace.proofs.UsersIn.{hands_users_in}
use Rattle.rate_floors.proofs.PlaceLemmas.{rising_mapped}

module _ {Y : Type 0} where
  over_same : (m : finite.FinMap nat_cmp Y) (q : ℕ) (row : Y) → finite.get m q ≡ Some row → finite.insert m q row ≡ m
  over_same m q row e =
      same_map nat_cmp_total nat_cmp-IsAntisymmetric (finite.insert m q row) m (λ k.
      get-insert nat_cmp_total m q row k
      ∙ (ap (λ b. cond b (Some row) (finite.get m k)) (same_test k q (nat_cmp k q) refl) ∙ go k (nat_eq q k) refl))
    where
      go : (k : ℕ) (b : Bool) → nat_eq q k ≡ b → cond b (Some row) (finite.get m k) ≡ finite.get m k
      go k true t = sym e ∙ ap (finite.get m) (eqb-true q k t)
      go k false t = refl

  -- a row that is there
  pub put_same : (m : finite.FinMap nat_cmp Y) (q : ℕ) (row : Y) → finite.get m q ≡ Some row → put m q row ≡ m
  put_same m q row e = ap (λ o. put_over o m q row) e ∙ over_same m q row e

  -- a row with another number
  put_other : (m : finite.FinMap nat_cmp Y) (n q : ℕ) (row : Y) → n ≢ q → finite.get (put m n row) q ≡ finite.get m q
  put_other m n q row other = go (finite.get m n)
    where
      go : (o : Option Y) → finite.get (put_over o m n row) q ≡ finite.get m q
      go None = refl
      go (Some old) =
          get-insert nat_cmp_total m n row q
          ∙ (ap (λ b. cond b (Some row) (finite.get m q)) (same_test q n (nat_cmp q n) refl)
          ∙ ap (λ b. cond b (Some row) (finite.get m q)) (ne_eqb n q other))

module _ {X Y : Type 0} (number : X → ℕ) (row : X → Y) where
  abbrev put_all : finite.FinMap nat_cmp Y → List X → finite.FinMap nat_cmp Y
  put_all m xs = fold (λ r x. put r (number x) (row x)) m xs

  -- rows with other numbers
  put_others : (m : finite.FinMap nat_cmp Y) (xs : List X) (q : ℕ) → ((k : ℕ) (d : X) → k < length xs → number (get_or xs k d) ≢ q) → finite.get (put_all m xs) q ≡ finite.get m q
  put_others m [] q h = refl
  put_others m (x ∷ xs) q h =
      put_others (put m (number x) (row x)) xs q (λ k d lt. h (suc k) d (omega arith))
      ∙ put_other m (number x) q (row x) (h 0 x (omega arith))

  -- the rows before one have other numbers than it
  pub before : (xs : List X) (k : ℕ) (d : X) → IsRising number xs → k < length xs → (j : ℕ) (e : X) → j < length (take k xs) → number (get_or (take k xs) j e) ≢ number (get_or xs k d)
  before xs k d up lt j e less same =
      let short : length (take k xs) ≡ k = length-take-le k xs (omega arith) in
      let near : j < k = omega (arith, short, less) in
      let at : get_or (take k xs) j e ≡ get_or xs j e = get_or-take k xs j e near in
      let below : number (get_or xs j e) < number (get_or xs k e) = rising_below number xs up j k e near lt in
      let here : number (get_or xs k e) ≡ number (get_or xs k d) = ap number (at_any xs k e d lt) in
      let h : number (get_or xs j e) ≡ number (get_or xs k d) = sym (ap number at) ∙ same in
      absurd (omega (arith, below, here, h))

-- groups
abbrev put_group : Rates → GroupPace → Rates
put_group r g = with_group r (offer_group g)

groups_folded : (r : Rates) (gs : List GroupPace) → (put_groups r gs).groups ≡ put_all group_key offer_group r.groups gs
groups_folded r [] = refl
groups_folded r (g ∷ gs) = groups_folded (with_group r (offer_group g)) gs

group_at : (r : Rates) (gs : List GroupPace) (k : ℕ) (d : GroupPace) → IsRising group_key gs → k < length gs → finite.get r.groups (group_key (get_or gs k d)) ≡ Some (offer_group (get_or gs k d))
    → put_groups r (take (k + 1) gs) ≡ put_groups r (take k gs)
group_at r gs k d up lt there =
    let g = get_or gs k d in
    let rest = put_groups r (take k gs) in
    let same : finite.get rest.groups (group_key g) ≡ Some (offer_group g) =
    ap (λ m. finite.get m (group_key g)) (groups_folded r (take k gs)) ∙ (put_others group_key offer_group r.groups (take k gs) (group_key g) (before group_key offer_group gs k d up lt) ∙ there) in
    ap (put_groups r) (take_more gs k d lt)
    ∙ (fold-append put_group r (take k gs) (g ∷ [])
    ∙ ap (λ m. record { server = rest.server; down = rest.down; up = rest.up; groups = m; users = rest.users; share_by = rest.share_by }) (put_same rest.groups (group_key g) (offer_group g) same))

-- one that the limits have is not put, and another is
pub groups_there : (r now new : Rates) (gs : List GroupPace) (k : ℕ) → IsRising group_key gs → k < length gs → now ≡ put_groups r (take k gs) → ((d : GroupPace) → finite.get r.groups (group_key (get_or gs k d)) ≡ Some (offer_group (get_or gs k d)))
    → new ≡ now → new ≡ put_groups r (take (k + 1) gs)
groups_there r now new [] k up lt is there same = absurd (omega arith)
groups_there r now new (g ∷ gs) k up lt is there same = same ∙ (is ∙ sym (group_at r (g ∷ gs) k g up lt (there g)))

pub groups_more : (r now new : Rates) (gs : List GroupPace) (k : ℕ) (d : GroupPace) (row : GroupRate) → k < length gs → now ≡ put_groups r (take k gs) → row ≡ offer_group (get_or gs k d) → new ≡ with_group now row
    → new ≡ put_groups r (take (k + 1) gs)
groups_more r now new gs k d row lt is offer more =
    more ∙ (ap (λ (x : GroupRate). with_group now x) offer
    ∙ (ap (λ (x : Rates). with_group x (offer_group (get_or gs k d))) is
    ∙ sym (ap (put_groups r) (take_more gs k d lt) ∙ fold-append put_group r (take k gs) (get_or gs k d ∷ []))))

groups_in : (r : Rates) (gs : List GroupPace) → IsRising group_key gs → AreTheGroups r gs → (k : ℕ) (d : GroupPace) → k < length gs → finite.get (put_groups r gs).groups (group_key (get_or gs k d)) ≡ Some (offer_group (get_or gs k d))
groups_in r gs up keys k d lt =
    let found = found_at group_number (map offer_group gs) (rising_mapped group_key group_number offer_group gs (λ g. refl) up) k (offer_group d) (omega (arith, length-map gs offer_group, lt)) in
    ap (λ m. finite.get m (group_key (get_or gs k d))) (hands_groups_in r gs up keys)
    ∙ (get-by_number group_number (group_key (get_or gs k d)) (map offer_group gs)
    ∙ subst (λ (x : GroupRate). first_row group_number (group_number x) (map offer_group gs) ≡ Some x) (get_or-map offer_group gs k d (offer_group d) lt) found)

-- the rows with marks, after all were put
pub groups_quiet : (r new : Rates) (gs : List GroupPace) (marks : List Bool) (place : ℕ) → IsRising group_key gs → AreTheGroups r gs → place ≡ length gs → new ≡ put_groups r (take place gs) → AllMarked (λ g. is_full_group g ≡ true) marks gs → AllMarked (IsQuietGroup new) marks gs
groups_quiet r new gs marks place up keys end is full k d lt m =
    let all : new ≡ put_groups r gs = is ∙ ap (put_groups r) (ap (λ (n : ℕ). take n gs) end ∙ take-length gs) in
    (full k d lt m, ap (λ (x : Rates). finite.get x.groups (group_key (get_or gs k d))) all ∙ groups_in r gs up keys k d lt)

-- users
module _ (down up : ℕ) (groups : List GroupPace) where
  abbrev put_user : Rates → UserPace → Rates
  put_user r u = with_user r (handed_user down up groups u)

  users_folded : (r : Rates) (us : List UserPace) → (put_users down up groups r us).users ≡ put_all pace_number (handed_user down up groups) r.users us
  users_folded r [] = refl
  users_folded r (u ∷ us) = users_folded (with_user r (handed_user down up groups u)) us

  user_at : (r : Rates) (us : List UserPace) (k : ℕ) (d : UserPace) → IsRising pace_number us → k < length us → finite.get r.users (pace_number (get_or us k d)) ≡ Some (handed_user down up groups (get_or us k d))
      → put_users down up groups r (take (k + 1) us) ≡ put_users down up groups r (take k us)
  user_at r us k d rising lt there =
      let u = get_or us k d in
      let rest = put_users down up groups r (take k us) in
      let same : finite.get rest.users (pace_number u) ≡ Some (handed_user down up groups u) =
      ap (λ m. finite.get m (pace_number u)) (users_folded r (take k us)) ∙ (put_others pace_number (handed_user down up groups) r.users (take k us) (pace_number u) (before pace_number (handed_user down up groups) us k d rising lt) ∙ there) in
      ap (put_users down up groups r) (take_more us k d lt)
      ∙ (fold-append put_user r (take k us) (u ∷ [])
      ∙ ap (λ m. record { server = rest.server; down = rest.down; up = rest.up; groups = rest.groups; users = m; share_by = rest.share_by }) (put_same rest.users (pace_number u) (handed_user down up groups u) same))

  pub users_there : (r now new : Rates) (us : List UserPace) (k : ℕ) → IsRising pace_number us → k < length us → now ≡ put_users down up groups r (take k us) → ((d : UserPace) → finite.get r.users (pace_number (get_or us k d)) ≡ Some (handed_user down up groups (get_or us k d)))
      → new ≡ now → new ≡ put_users down up groups r (take (k + 1) us)
  users_there r now new [] k rising lt is there same = absurd (omega arith)
  users_there r now new (u ∷ us) k rising lt is there same = same ∙ (is ∙ sym (user_at r (u ∷ us) k u rising lt (there u)))

  pub users_more : (r now new : Rates) (us : List UserPace) (k : ℕ) (d : UserPace) (row : UserRate) → k < length us → now ≡ put_users down up groups r (take k us) → row ≡ handed_user down up groups (get_or us k d) → new ≡ with_user now row
      → new ≡ put_users down up groups r (take (k + 1) us)
  users_more r now new us k d row lt is offer more =
      more ∙ (ap (λ (x : UserRate). with_user now x) offer
      ∙ (ap (λ (x : Rates). with_user x (handed_user down up groups (get_or us k d))) is
      ∙ sym (ap (put_users down up groups r) (take_more us k d lt) ∙ fold-append put_user r (take k us) (get_or us k d ∷ []))))

  users_in : (r : Rates) (us : List UserPace) → IsRising pace_number us → AreTheUsers r us → (k : ℕ) (d : UserPace) → k < length us → finite.get (put_users down up groups r us).users (pace_number (get_or us k d)) ≡ Some (handed_user down up groups (get_or us k d))
  users_in r us rising keys k d lt =
      let f = handed_user down up groups in
      let found = found_at user_number (map f us) (rising_mapped pace_number user_number f us (λ u. refl) rising) k (f d) (omega (arith, length-map us f, lt)) in
      ap (λ m. finite.get m (pace_number (get_or us k d))) (hands_users_in down up groups r us rising keys)
      ∙ (get-by_number user_number (pace_number (get_or us k d)) (map f us)
      ∙ subst (λ (x : UserRate). first_row user_number (user_number x) (map f us) ≡ Some x) (get_or-map f us k d (f d) lt) found)

  pub users_quiet : (r new : Rates) (us : List UserPace) (marks : List Bool) (place : ℕ) → IsRising pace_number us → AreTheUsers r us → place ≡ length us → new ≡ put_users down up groups r (take place us) → AllMarked (λ u. is_full_user u ≡ true) marks us → AllMarked (IsQuietUser new) marks us
  users_quiet r new us marks place rising keys end is full k d lt m =
      let all : new ≡ put_users down up groups r us = is ∙ ap (put_users down up groups r) (ap (λ (n : ℕ). take n us) end ∙ take-length us) in
      (full k d lt m, λ b t. ap (λ (x : Rates). finite.get x.users (pace_number (get_or us k d))) all ∙ (users_in r us rising keys k d lt ∙ ap Some (offer_full (user_parts Down down groups (get_or us k d)) (user_parts Up up groups (get_or us k d)) b t (get_or us k d) (full k d lt m))))

-- other limits with the same rows
pub groups_quiet_with : (r s : Rates) (marks : List Bool) (gs hs : List GroupPace) → s.groups ≡ r.groups → hs ≡ gs → AllMarked (IsQuietGroup r) marks gs → AllMarked (IsQuietGroup s) marks hs
groups_quiet_with r s marks gs hs same rows all =
    subst (λ (xs : List GroupPace). AllMarked (IsQuietGroup s) marks xs) (sym rows) (λ k d lt m.
    let q = all k d lt m in
    (q.0, ap (λ x. finite.get x (group_key (get_or gs k d))) same ∙ q.1))

pub users_quiet_with : (r s : Rates) (marks : List Bool) (us vs : List UserPace) → s.users ≡ r.users → vs ≡ us → AllMarked (IsQuietUser r) marks us → AllMarked (IsQuietUser s) marks vs
users_quiet_with r s marks us vs same rows all =
    subst (λ (xs : List UserPace). AllMarked (IsQuietUser s) marks xs) (sym rows) (λ k d lt m.
    let q = all k d lt m in
    (q.0, λ b t. ap (λ x. finite.get x (pace_number (get_or us k d))) same ∙ q.1 b t))

pub users_with : (r s : Rates) (us vs : List UserPace) → s.users ≡ r.users → vs ≡ us → AreTheUsers r us → AreTheUsers s vs
users_with r s us vs same rows are q =
    ap (λ x. is_some (finite.get x q)) same ∙ (are q ∙ ap (λ (xs : List UserPace). is_some (finite.get (by_number pace_number xs) q)) (sym rows))
