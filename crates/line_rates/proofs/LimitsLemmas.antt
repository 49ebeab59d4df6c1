-- The first fault of stated rates, and how limits keep rates that have none.
use Rattle.std.proofs.Common.{◌≡◌, ℕ, zero, suc, Bool, true, false, ◌||◌, cond, List, [], ◌∷◌, map, sym, refl, ap, ◌∙◌, arith, Option, Some, None, not}
use Rattle.std.specs.Prelude.{IsPermutation}
use Rattle.std.specs.FinMap as finite
use Rattle.std.specs.List.{list_any, All}
use Rattle.std.specs.List.Sorted.{IsNonDecreasingBy}
use Rattle.std.proofs.lemmas.Bool.{or_parts, ltb-false}
use Rattle.std.proofs.lemmas.List.Sorted.{list_any-IsPermutation, IsPermutation-map, All-permutation}
use Rattle.line_rates.specs.declared.share_by.ShareBy.TheVariants as share
use Rattle.line_rates.specs.declared.fault.LimitsFault.TheVariants.{Twice, NoSuchGroup}
use Rattle.line_rates.specs.declared.rate.TheConstants.{MAX_RATE}
use Rattle.line_rates.specs.declared.row.GroupRate.{GroupRate}
use Rattle.line_rates.specs.declared.row.UserRate.{UserRate}
use Rattle.line_rates.specs.Rates.{Groups, Users}
use Rattle.line_rates.specs.Stated.{group_number, user_number, by_number, stated, is_too_large, is_large_group, is_large_user, has_large_rate, has_twice, has_no_row, has_stray_user, limits_fault, IsRising, HasTie, FitsGroup, FitsUser, IsKept}
use Rattle.line_rates.proofs.MarkLemmas.{second_true}
use Rattle.line_rates.proofs.RowLemmas.{same_by_number}
use Rattle.line_rates.proofs.TwiceLemmas.{any_alike, twice-moved, rising-not_twice, tie-twice}

on_true : {X : Type 0} (b : Bool) (x y : X) → b ≡ true → cond b x y ≡ x
on_true b x y e = ap (λ c. cond c x y) e

on_false : {X : Type 0} (b : Bool) (x y : X) → b ≡ false → cond b x y ≡ y
on_false b x y e = ap (λ c. cond c x y) e

first_true : (a b : Bool) → a ≡ true → (a || b) ≡ true
first_true true b e = refl
first_true false b e = absurd (cc)

both_false : (a b : Bool) → a ≡ false → b ≡ false → (a || b) ≡ false
both_false true b e f = absurd (cc)
both_false false b e f = f

group_fits : (row : GroupRate) → is_large_group row ≡ false → FitsGroup row
group_fits row e = let p = or_parts (is_too_large row.down) (is_too_large row.up) e in record { down = ltb-false MAX_RATE row.down p.0; up = ltb-false MAX_RATE row.up p.1 }

user_fits : (row : UserRate) → is_large_user row ≡ false → FitsUser row
user_fits row e =
    let up_floor = or_parts _ _ e in
    let down_floor = or_parts _ _ up_floor.0 in
    let session_up = or_parts _ _ down_floor.0 in
    let session_down = or_parts _ _ session_up.0 in
    let up = or_parts _ _ session_down.0 in
    record {
      down = ltb-false MAX_RATE row.down up.0;
      up = ltb-false MAX_RATE row.up up.1;
      session_down = ltb-false MAX_RATE row.session_down session_down.1;
      session_up = ltb-false MAX_RATE row.session_up session_up.1;
      session_down_floor = ltb-false MAX_RATE row.session_down_floor down_floor.1;
      session_up_floor = ltb-false MAX_RATE row.session_up_floor up_floor.1;
    }

all_fit : {X : Type 0} (p : X → Bool) (P : X → Type 0) → ((x : X) → p x ≡ false → P x) → (xs : List X) → list_any p xs ≡ false → All P xs
all_fit p P h [] e k d lt = absurd (omega arith)
all_fit p P h (x ∷ xs) e zero d lt = h x (or_parts (p x) (list_any p xs) e).0
all_fit p P h (x ∷ xs) e (suc k) d lt = all_fit p P h xs (or_parts (p x) (list_any p xs) e).1 k d (omega arith)

no_row_alike : (gs hs : List GroupRate) → by_number group_number gs ≡ by_number group_number hs → (group : Option ℕ) → has_no_row gs group ≡ has_no_row hs group
no_row_alike gs hs e None = refl
no_row_alike gs hs e (Some group) = ap (λ (m : Groups). not (finite.contains_key m group)) e

-- The rows gs and us are those that are stated, hs and vs the same in the order of their numbers.
module _ (server down up : ℕ) (gs hs : List GroupRate) (us vs : List UserRate) where
  module _ (small : has_large_rate server down up gs us ≡ false) (groups : IsPermutation gs hs) where
    moved_groups : has_twice (map group_number gs) ≡ has_twice (map group_number hs)
    moved_groups = twice-moved (map group_number gs) (map group_number hs) (IsPermutation-map group_number gs hs groups)

    pub refused_groups : IsNonDecreasingBy group_number hs → HasTie group_number hs → limits_fault server down up gs us ≡ Some Twice
    refused_groups sorted tie = on_false _ _ _ small ∙ on_true _ _ _ (first_true _ _ (moved_groups ∙ tie-twice group_number hs sorted tie))

    module _ (users : IsPermutation us vs) where
      moved_users : has_twice (map user_number us) ≡ has_twice (map user_number vs)
      moved_users = twice-moved (map user_number us) (map user_number vs) (IsPermutation-map user_number us vs users)

      pub refused_users : IsNonDecreasingBy user_number vs → HasTie user_number vs → limits_fault server down up gs us ≡ Some Twice
      refused_users sorted tie = on_false _ _ _ small ∙ on_true _ _ _ (second_true _ _ (moved_users ∙ tie-twice user_number vs sorted tie))

      module _ (groups_up : IsRising group_number hs) (users_up : IsRising user_number vs) where
        distinct : (has_twice (map group_number gs) || has_twice (map user_number us)) ≡ false
        distinct = both_false _ _ (moved_groups ∙ rising-not_twice group_number hs groups_up) (moved_users ∙ rising-not_twice user_number vs users_up)

        strays : has_stray_user gs us ≡ has_stray_user hs vs
        strays = list_any-IsPermutation (λ row. has_no_row gs row.group) us vs users
            ∙ any_alike (λ (row : UserRate). has_no_row gs row.group) (λ row. has_no_row hs row.group) (λ row. no_row_alike gs hs (same_by_number group_number gs hs groups groups_up) row.group) vs

        pub refused_stray : has_stray_user hs vs ≡ true → limits_fault server down up gs us ≡ Some NoSuchGroup
        refused_stray e = on_false _ _ _ small ∙ on_false _ _ _ distinct ∙ on_true _ _ _ (strays ∙ e)

        pub accepted : has_stray_user hs vs ≡ false → limits_fault server down up gs us ≡ None
        accepted e = on_false _ _ _ small ∙ on_false _ _ _ distinct ∙ on_false _ _ _ (strays ∙ e)

        pub same_stated : stated server down up hs vs ≡ stated server down up gs us
        same_stated =
            ap (λ (m : Groups). record { server = server; down = down; up = up; groups = m; users = by_number user_number vs; share_by = share.Sessions }) (sym (same_by_number group_number gs hs groups groups_up))
            ∙ ap (λ (m : Users). record { server = server; down = down; up = up; groups = by_number group_number gs; users = m; share_by = share.Sessions }) (sym (same_by_number user_number us vs users users_up))

        pub kept : IsKept server down up hs vs
        kept =
            let all_users = or_parts _ _ small in
            let all_groups = or_parts _ _ all_users.0 in
            let line = or_parts _ _ all_groups.0 in
            let server_down = or_parts _ _ line.0 in
            record {
              server_fits = ltb-false MAX_RATE server server_down.0;
              down_fits = ltb-false MAX_RATE down server_down.1;
              up_fits = ltb-false MAX_RATE up line.1;
              groups_fit = All-permutation FitsGroup gs hs groups (all_fit is_large_group FitsGroup group_fits gs all_groups.1);
              users_fit = All-permutation FitsUser us vs users (all_fit is_large_user FitsUser user_fits us all_users.1);
              groups_rise = groups_up;
              users_rise = users_up;
            }
