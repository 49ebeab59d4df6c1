-- Paces that begin a stretch: those that were changed to some rates, and new ones.
use Rattle.std.proofs.Common.{◌≡◌, ℕ, ◌≤◌, List, [], ◌∷◌, map, inl, sym, refl, ap, ◌∙◌, subst, arith, Option, Some, None}
use Rattle.std.specs.FinMap as finite
use Rattle.std.specs.Prelude.{min}
use Rattle.line_rates.specs.declared.ask.Way.{Way}
use Rattle.line_rates.specs.declared.ask.Way.TheVariants.{Down, Up}
use Rattle.line_rates.specs.declared.ask.Name.{Name}
use Rattle.line_rates.specs.declared.ask.Name.TheVariants.{Server, Direction, Group, User, Session}
use Rattle.line_rates.specs.declared.row.GroupRate.{GroupRate}
use Rattle.line_rates.specs.declared.row.UserRate.{UserRate}
use Rattle.line_rates.specs.Rates.{Rates, Groups, Users, group_rate, user_rate, session_rate, group_in as in_group, rate_of}
use Rattle.line_rates.specs.Stated.{group_number, user_number, IsRising}
use Rattle.line_rates.proofs.RowLemmas.{get-by_number, first_contains}
use Rattle.round_pace.specs.declared.credit.Credit.{Credit}
use Rattle.round_pace.specs.declared.paced.GroupPace.{GroupPace}
use Rattle.round_pace.specs.declared.paced.UserPace.{UserPace}
use Rattle.round_pace.specs.Changed.{changed_credit, changed_group, changed_user, IsChangedTo, idle}
use Rattle.round_pace.specs.Earned.{most_kept}
use Rattle.round_pace.specs.Paced.{Paced, group_key, pace_number, no_credit, new_group, new_user, IsPacedFrom, AreTheGroups, AreTheUsers}
use Rattle.round_pace.specs.Rows.{group_row_credit, user_row_credit, session_row_credit, group_credit as group_now, user_credit as user_now, session_credit as session_now}
use Rattle.round_pace.specs.Stretches.{NewIsChanged}
use Rattle.round_pace.specs.Taken.{group_in}
use Rattle.round_pace.proofs.Changing.{groups_made, users_made}
use Rattle.round_pace.proofs.Credited.{over, first_over, the_group, the_user, group_credit, user_credit, session_credit, credit_under, IsGrouped}
use Rattle.round_pace.proofs.Limits.{IsWhole}

-- what holds of a pace from its first moment on
pub record Good (rates : Rates) (p : Paced) : Type 0 where
  pub groups_up : IsRising group_key p.groups
  pub users_up : IsRising pace_number p.users
  pub groups : AreTheGroups p.offered p.groups
  pub users : AreTheUsers p.offered p.users
  pub grouped : IsGrouped rates p
  pub rated : (n : Name) → (credit_under p n).rate ≡ rate_of rates n
  pub whole : IsWhole p.moment

none-le : (x : ℕ) → 0 ≤ x
none-le x = omega arith

min-left : (x m : ℕ) → min x m ≤ x
min-left x m = omega arith

min-right : (x m : ℕ) → min x m ≤ m
min-right x m = omega arith

pub group_same : (w : Way) (o : Option GroupPace) → group_row_credit w o ≡ group_credit w o
group_same w None = refl
group_same w (Some x) = refl

user_same : (w : Way) (o : Option UserPace) → user_row_credit w o ≡ user_credit w o
user_same w None = refl
user_same w (Some x) = refl

session_same : (w : Way) (o : Option UserPace) → session_row_credit w o ≡ session_credit w o
session_same w None = refl
session_same w (Some x) = refl

-- a pace that was changed to some rates
module _ (rates : Rates) (old p : Paced) (to : IsChangedTo rates old p) where
  group_first : (g : ℕ) → the_group p g ≡ over (changed_group old.groups) (finite.get rates.groups g)
  group_first g =
      ap (λ (q : Paced). the_group q g) to.is ∙ first_over group_number group_key (changed_group old.groups) (λ x. refl) g to.group_rows
      ∙ ap (over (changed_group old.groups)) (sym (get-by_number group_number g to.group_rows) ∙ ap (λ (m : Groups). finite.get m g) to.groups_are)

  user_first : (u : ℕ) → the_user p u ≡ over (changed_user old.users) (finite.get rates.users u)
  user_first u =
      ap (λ (q : Paced). the_user q u) to.is ∙ first_over user_number pace_number (changed_user old.users) (λ x. refl) u to.user_rows
      ∙ ap (over (changed_user old.users)) (sym (get-by_number user_number u to.user_rows) ∙ ap (λ (m : Users). finite.get m u) to.users_are)

  grouped_changed : IsGrouped rates p
  grouped_changed u = sym (ap group_in (user_first u) ∙ go (finite.get rates.users u))
    where
      go : (o : Option UserRate) → group_in (over (changed_user old.users) o) ≡ in_group o
      go None = refl
      go (Some x) = refl

  rated_changed : (n : Name) → (credit_under p n).rate ≡ rate_of rates n
  rated_changed Server = ap (λ (q : Paced). q.server.rate) to.is
  rated_changed (Direction Down) = ap (λ (q : Paced). q.down.rate) to.is
  rated_changed (Direction Up) = ap (λ (q : Paced). q.up.rate) to.is
  rated_changed (Group w g) = ap (λ o. (group_credit w o).rate) (group_first g) ∙ go w (finite.get rates.groups g)
    where
      go : (w : Way) (o : Option GroupRate) → (group_credit w (over (changed_group old.groups) o)).rate ≡ group_rate o w
      go w None = refl
      go Down (Some x) = refl
      go Up (Some x) = refl
  rated_changed (User w u) = ap (λ o. (user_credit w o).rate) (user_first u) ∙ go w (finite.get rates.users u)
    where
      go : (w : Way) (o : Option UserRate) → (user_credit w (over (changed_user old.users) o)).rate ≡ user_rate o w
      go w None = refl
      go Down (Some x) = refl
      go Up (Some x) = refl
  rated_changed (Session w u s) = ap (λ o. (session_credit w o).rate) (user_first u) ∙ go w (finite.get rates.users u)
    where
      go : (w : Way) (o : Option UserRate) → (session_credit w (over (changed_user old.users) o)).rate ≡ session_rate o w
      go w None = refl
      go Down (Some x) = refl
      go Up (Some x) = refl

  -- what was left of a number is that of its row
  group_was : (w : Way) (g : ℕ) (x : GroupRate) → finite.get rates.groups g ≡ Some x → (group_now w old.groups (Some x.group)).left ≡ (group_credit w (the_group old g)).left
  group_was w g x e =
      let same : x.group ≡ g = (first_contains group_number g to.group_rows x (sym (get-by_number group_number g to.group_rows) ∙ (ap (λ (m : Groups). finite.get m g) to.groups_are ∙ e))).1 in
      ap (λ (k : ℕ). (group_now w old.groups (Some k)).left) same
      ∙ ap (λ (c : Credit). c.left) (ap (group_row_credit w) (get-by_number group_key g old.groups) ∙ group_same w (the_group old g))

  user_was : (w : Way) (u : ℕ) (x : UserRate) → finite.get rates.users u ≡ Some x → (user_now w old.users x.user).left ≡ (user_credit w (the_user old u)).left
  user_was w u x e =
      let same : x.user ≡ u = (first_contains user_number u to.user_rows x (sym (get-by_number user_number u to.user_rows) ∙ (ap (λ (m : Users). finite.get m u) to.users_are ∙ e))).1 in
      ap (λ (k : ℕ). (user_now w old.users k).left) same
      ∙ ap (λ (c : Credit). c.left) (ap (user_row_credit w) (get-by_number pace_number u old.users) ∙ user_same w (the_user old u))

  session_was : (w : Way) (u : ℕ) (x : UserRate) → finite.get rates.users u ≡ Some x → (session_now w old.users x.user).left ≡ (session_credit w (the_user old u)).left
  session_was w u x e =
      let same : x.user ≡ u = (first_contains user_number u to.user_rows x (sym (get-by_number user_number u to.user_rows) ∙ (ap (λ (m : Users). finite.get m u) to.users_are ∙ e))).1 in
      ap (λ (k : ℕ). (session_now w old.users k).left) same
      ∙ ap (λ (c : Credit). c.left) (ap (session_row_credit w) (get-by_number pace_number u old.users) ∙ session_same w (the_user old u))

  -- no more is left under a name than was,
  pub left-changed : (n : Name) → (credit_under p n).left ≤ (credit_under old n).left
  left-changed Server = subst (λ (q : Paced). q.server.left ≤ old.server.left) (sym to.is) (min-left old.server.left (most_kept rates.server))
  left-changed (Direction Down) = subst (λ (q : Paced). q.down.left ≤ old.down.left) (sym to.is) (min-left old.down.left (most_kept rates.down))
  left-changed (Direction Up) = subst (λ (q : Paced). q.up.left ≤ old.up.left) (sym to.is) (min-left old.up.left (most_kept rates.up))
  left-changed (Group w g) = subst (λ (o : Option GroupPace). (group_credit w o).left ≤ (group_credit w (the_group old g)).left) (sym (group_first g)) (go w (finite.get rates.groups g) refl)
    where
      go : (w : Way) (o : Option GroupRate) → finite.get rates.groups g ≡ o → (group_credit w (over (changed_group old.groups) o)).left ≤ (group_credit w (the_group old g)).left
      go w None e = none-le (group_credit w (the_group old g)).left
      go Down (Some x) e = subst (λ (y : ℕ). min (group_now Down old.groups (Some x.group)).left (most_kept x.down) ≤ y) (group_was Down g x e) (min-left (group_now Down old.groups (Some x.group)).left (most_kept x.down))
      go Up (Some x) e = subst (λ (y : ℕ). min (group_now Up old.groups (Some x.group)).left (most_kept x.up) ≤ y) (group_was Up g x e) (min-left (group_now Up old.groups (Some x.group)).left (most_kept x.up))
  left-changed (User w u) = subst (λ (o : Option UserPace). (user_credit w o).left ≤ (user_credit w (the_user old u)).left) (sym (user_first u)) (go w (finite.get rates.users u) refl)
    where
      go : (w : Way) (o : Option UserRate) → finite.get rates.users u ≡ o → (user_credit w (over (changed_user old.users) o)).left ≤ (user_credit w (the_user old u)).left
      go w None e = none-le (user_credit w (the_user old u)).left
      go Down (Some x) e = subst (λ (y : ℕ). min (user_now Down old.users x.user).left (most_kept x.down) ≤ y) (user_was Down u x e) (min-left (user_now Down old.users x.user).left (most_kept x.down))
      go Up (Some x) e = subst (λ (y : ℕ). min (user_now Up old.users x.user).left (most_kept x.up) ≤ y) (user_was Up u x e) (min-left (user_now Up old.users x.user).left (most_kept x.up))
  left-changed (Session w u s) = subst (λ (o : Option UserPace). (session_credit w o).left ≤ (session_credit w (the_user old u)).left) (sym (user_first u)) (go w (finite.get rates.users u) refl)
    where
      go : (w : Way) (o : Option UserRate) → finite.get rates.users u ≡ o → (session_credit w (over (changed_user old.users) o)).left ≤ (session_credit w (the_user old u)).left
      go w None e = none-le (session_credit w (the_user old u)).left
      go Down (Some x) e = subst (λ (y : ℕ). min (session_now Down old.users x.user).left (most_kept x.session_down) ≤ y) (session_was Down u x e) (min-left (session_now Down old.users x.user).left (most_kept x.session_down))
      go Up (Some x) e = subst (λ (y : ℕ). min (session_now Up old.users x.user).left (most_kept x.session_up) ≤ y) (session_was Up u x e) (min-left (session_now Up old.users x.user).left (most_kept x.session_up))

  -- and no more than what the new rate keeps
  pub left-kept : (n : Name) → (credit_under p n).left ≤ most_kept (rate_of rates n)
  left-kept Server = subst (λ (q : Paced). q.server.left ≤ most_kept rates.server) (sym to.is) (min-right old.server.left (most_kept rates.server))
  left-kept (Direction Down) = subst (λ (q : Paced). q.down.left ≤ most_kept rates.down) (sym to.is) (min-right old.down.left (most_kept rates.down))
  left-kept (Direction Up) = subst (λ (q : Paced). q.up.left ≤ most_kept rates.up) (sym to.is) (min-right old.up.left (most_kept rates.up))
  left-kept (Group w g) = subst (λ (o : Option GroupPace). (group_credit w o).left ≤ most_kept (group_rate (finite.get rates.groups g) w)) (sym (group_first g)) (go w (finite.get rates.groups g))
    where
      go : (w : Way) (o : Option GroupRate) → (group_credit w (over (changed_group old.groups) o)).left ≤ most_kept (group_rate o w)
      go w None = none-le (most_kept (group_rate None w))
      go Down (Some x) = min-right (group_now Down old.groups (Some x.group)).left (most_kept x.down)
      go Up (Some x) = min-right (group_now Up old.groups (Some x.group)).left (most_kept x.up)
  left-kept (User w u) = subst (λ (o : Option UserPace). (user_credit w o).left ≤ most_kept (user_rate (finite.get rates.users u) w)) (sym (user_first u)) (go w (finite.get rates.users u))
    where
      go : (w : Way) (o : Option UserRate) → (user_credit w (over (changed_user old.users) o)).left ≤ most_kept (user_rate o w)
      go w None = none-le (most_kept (user_rate None w))
      go Down (Some x) = min-right (user_now Down old.users x.user).left (most_kept x.down)
      go Up (Some x) = min-right (user_now Up old.users x.user).left (most_kept x.up)
  left-kept (Session w u s) = subst (λ (o : Option UserPace). (session_credit w o).left ≤ most_kept (session_rate (finite.get rates.users u) w)) (sym (user_first u)) (go w (finite.get rates.users u))
    where
      go : (w : Way) (o : Option UserRate) → (session_credit w (over (changed_user old.users) o)).left ≤ most_kept (session_rate o w)
      go w None = none-le (most_kept (session_rate None w))
      go Down (Some x) = min-right (session_now Down old.users x.user).left (most_kept x.session_down)
      go Up (Some x) = min-right (session_now Up old.users x.user).left (most_kept x.session_up)

  pub good_changed : IsWhole old.moment → Good rates p
  good_changed whole =
      let groups = groups_made (changed_group old.groups) (λ x. refl) rates to.group_rows p.groups (ap (λ (q : Paced). q.groups) to.is) to.groups_are to.groups_rise in
      let users = users_made (changed_user old.users) (λ x. refl) rates to.user_rows p.users (ap (λ (q : Paced). q.users) to.is) to.users_are to.users_rise in
      let same : p.offered ≡ rates = ap (λ (q : Paced). q.offered) to.is in
      record {
        groups_up = groups.0;
        users_up = users.0;
        groups = subst (λ (r : Rates). AreTheGroups r p.groups) (sym same) groups.1;
        users = subst (λ (r : Rates). AreTheUsers r p.users) (sym same) users.1;
        grouped = grouped_changed;
        rated = rated_changed;
        whole = subst IsWhole (sym (ap (λ (q : Paced). q.moment) to.is)) whole;
      }

-- a new pace is one without rates that was changed
map_same : {X Y : Type 0} (f g : X → Y) → ((x : X) → f x ≡ g x) → (xs : List X) → map f xs ≡ map g xs
map_same f g same [] = refl
map_same {X} {Y} f g same (x ∷ xs) = λ i. same x i ∷ map_same f g same xs i

new_credit : (rate : ℕ) → no_credit rate ≡ changed_credit rate (no_credit 0)
new_credit rate = ap (with_left rate) (zero-min (most_kept rate))
  where
    with_left : ℕ → ℕ → Credit
    with_left rate left = record { rate = rate; left = left }

    zero-min : (m : ℕ) → 0 ≡ min 0 m
    zero-min m = omega arith

no_group : (w : Way) (g : ℕ) → group_now w [] (Some g) ≡ no_credit 0
no_group w g = ap (group_row_credit w) (get-by_number group_key g [])

no_user : (w : Way) (u : ℕ) → user_now w [] u ≡ no_credit 0
no_user w u = ap (user_row_credit w) (get-by_number pace_number u [])

no_session : (w : Way) (u : ℕ) → session_now w [] u ≡ no_credit 0
no_session w u = ap (session_row_credit w) (get-by_number pace_number u [])

group_of_row : ℕ → Credit → Credit → GroupPace
group_of_row g down up = record { group = g; down = down; up = up }

user_of_row : UserRate → Credit → Credit → Credit → Credit → UserPace
user_of_row row down up session_down session_up =
    record { row = row; down = down; up = up; session_down = session_down; session_up = session_up; down_owed = 0; up_owed = 0 }

group_anew : (x : GroupRate) → new_group x ≡ changed_group [] x
unfolding group_of_row
group_anew x = λ i. group_of_row x.group ((new_credit x.down ∙ ap (changed_credit x.down) (sym (no_group Down x.group))) i) ((new_credit x.up ∙ ap (changed_credit x.up) (sym (no_group Up x.group))) i)

user_anew : (x : UserRate) → new_user x ≡ changed_user [] x
unfolding user_of_row
user_anew x = λ i. user_of_row x ((new_credit x.down ∙ ap (changed_credit x.down) (sym (no_user Down x.user))) i) ((new_credit x.up ∙ ap (changed_credit x.up) (sym (no_user Up x.user))) i)
    ((new_credit x.session_down ∙ ap (changed_credit x.session_down) (sym (no_session Down x.user))) i) ((new_credit x.session_up ∙ ap (changed_credit x.session_up) (sym (no_session Up x.user))) i)

fresh_pace : ℕ → Rates → Credit → Credit → Credit → List GroupPace → List UserPace → Paced
fresh_pace begun r s d u gs us = record { begun = begun; moment = 0; server = s; down = d; up = u; groups = gs; users = us; offered = r }

pub new_is_changed : NewIsChanged
unfolding fresh_pace
new_is_changed begun rates p from = record {
  group_rows = from.group_rows;
  user_rows = from.user_rows;
  groups_are = from.groups_are;
  users_are = from.users_are;
  groups_rise = from.groups_rise;
  users_rise = from.users_rise;
  is = from.is
      ∙ (λ i. fresh_pace begun rates (new_credit rates.server i) (new_credit rates.down i) (new_credit rates.up i) (map_same new_group (changed_group []) group_anew from.group_rows i) (map_same new_user (changed_user []) user_anew from.user_rows i));
}

pub left_idle : (begun : ℕ) (n : Name) → (credit_under (idle begun) n).left ≡ 0
left_idle begun Server = refl
left_idle begun (Direction Down) = refl
left_idle begun (Direction Up) = refl
left_idle begun (Group w g) = refl
left_idle begun (User w u) = refl
left_idle begun (Session w u s) = refl

pub whole_idle : IsWhole 0
whole_idle = inl (omega arith)

pub good_new : (begun : ℕ) (rates : Rates) (p : Paced) → IsPacedFrom begun rates p → Good rates p
good_new begun rates p from = good_changed rates (idle begun) p (new_is_changed begun rates p from) whole_idle

pub left_new : (begun : ℕ) (rates : Rates) (p : Paced) → IsPacedFrom begun rates p → (n : Name) → (credit_under p n).left ≡ 0
left_new begun rates p from n = zero (credit_under p n).left (credit_under (idle begun) n).left (left-changed rates (idle begun) p (new_is_changed begun rates p from) n) (left_idle begun n)
  where
    zero : (x y : ℕ) → x ≤ y → y ≡ 0 → x ≡ 0
    zero x y a b = omega arith
