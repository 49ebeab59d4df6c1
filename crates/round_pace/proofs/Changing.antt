-- Rows of new rates.
use Rattle.std.proofs.Common.{◌≡◌, ℕ, ◌*◌, ◌≤◌, List, map, sym, refl, ap, ◌∙◌, subst, arith, Some}
use Rattle.std.specs.Prelude.{min}
use Rattle.std.specs.FinMap as finite
use Rattle.std.specs.Option.{is_some}
use Rattle.line_rates.specs.declared.ask.Way.TheVariants.{Down, Up}
use Rattle.line_rates.specs.declared.row.GroupRate.{GroupRate}
use Rattle.line_rates.specs.declared.row.UserRate.{UserRate}
use Rattle.line_rates.specs.Rates.{Rates, Groups, Users}
use Rattle.line_rates.specs.Stated.{by_number, group_number, user_number, IsRising, FitsGroup, FitsUser}
use Rattle.round_pace.specs.declared.credit.Credit.{Credit}
use Rattle.round_pace.specs.declared.paced.GroupPace.{GroupPace}
use Rattle.round_pace.specs.declared.paced.UserPace.{UserPace}
use Rattle.round_pace.specs.Changed.{changed_credit, changed_group, changed_user}
use Rattle.round_pace.specs.Credits.{IsCredit}
use Rattle.round_pace.specs.Earned.{most_kept}
use Rattle.round_pace.specs.Paced.{Paced, AreTheGroups, AreTheUsers, IsGroupPace, IsUserPace, group_key, pace_number}
use Rattle.round_pace.specs.Rows.{group_credit, user_credit, session_credit}
use Rattle.round_pace.proofs.Keys.{keys_mapped}
use Rattle.rate_floors.proofs.PlaceLemmas.{rising_mapped}

-- rows made of those of rates, each with its number
pub groups_made : (f : GroupRate → GroupPace) → ((x : GroupRate) → group_key (f x) ≡ group_number x) → (r : Rates) (rows : List GroupRate) (gs : List GroupPace) → gs ≡ map f rows → by_number group_number rows ≡ r.groups → IsRising group_number rows → IsRising group_key gs × AreTheGroups r gs
groups_made f same r rows gs e are up = (
  subst (IsRising group_key) (sym e) (rising_mapped group_number group_key f rows same up),
  subst (AreTheGroups r) (sym e) (λ q. ap (λ (m : Groups). is_some (finite.get m q)) (sym are) ∙ sym (keys_mapped group_number group_key f same rows q)),
)

pub users_made : (f : UserRate → UserPace) → ((x : UserRate) → pace_number (f x) ≡ user_number x) → (r : Rates) (rows : List UserRate) (us : List UserPace) → us ≡ map f rows → by_number user_number rows ≡ r.users → IsRising user_number rows → IsRising pace_number us × AreTheUsers r us
users_made f same r rows us e are up = (
  subst (IsRising pace_number) (sym e) (rising_mapped user_number pace_number f rows same up),
  subst (AreTheUsers r) (sym e) (λ q. ap (λ (m : Users). is_some (finite.get m q)) (sym are) ∙ sym (keys_mapped user_number pace_number f same rows q)),
)

none : (x : ℕ) → 0 ≤ x
none x = omega arith

cut : (x m : ℕ) → min x m ≤ m
cut x m = omega arith

credit_changed : (rate : ℕ) (c : Credit) → rate ≤ 1099511627776 → IsCredit (changed_credit rate c)
credit_changed rate c h = record { rate_fits = h; left_fits = cut c.left (most_kept rate) }

pub group_changed : (gs : List GroupPace) (row : GroupRate) → FitsGroup row → IsGroupPace (changed_group gs row)
group_changed gs row h = record { down = credit_changed row.down (group_credit Down gs (Some row.group)) h.down; up = credit_changed row.up (group_credit Up gs (Some row.group)) h.up }

pub user_changed : (us : List UserPace) (row : UserRate) → FitsUser row → IsUserPace (changed_user us row)
user_changed us row h =
    record {
      row = h;
      down = credit_changed row.down (user_credit Down us row.user) h.down;
      up = credit_changed row.up (user_credit Up us row.user) h.up;
      session_down = credit_changed row.session_down (session_credit Down us row.user) h.session_down;
      session_up = credit_changed row.session_up (session_credit Up us row.user) h.session_up;
      down_rate = refl;
      up_rate = refl;
      session_down_rate = refl;
      session_up_rate = refl;
      down_owed = none (row.session_down_floor * 50);
      up_owed = none (row.session_up_floor * 50);
    }

abbrev paced : Paced → Rates → Credit → Credit → Credit → List GroupPace → List UserPace → Paced
paced old r s d u gs us = record { begun = old.begun; moment = old.moment; server = s; down = d; up = u; groups = gs; users = us; offered = r }

pub same_changed : (old : Paced) (r : Rates) (x y z : ℕ) (s d u : Credit) (gs gs' : List GroupPace) (us us' : List UserPace)
    → s ≡ changed_credit x old.server → x ≡ r.server → d ≡ changed_credit y old.down → y ≡ r.down → u ≡ changed_credit z old.up → z ≡ r.up → gs ≡ gs' → us ≡ us'
    → paced old r s d u gs us ≡ paced old r (changed_credit r.server old.server) (changed_credit r.down old.down) (changed_credit r.up old.up) gs' us'
same_changed old r x y z s d u gs gs' us us' a b c e f g h k =
    λ i. paced old r ((a ∙ ap (λ (n : ℕ). changed_credit n old.server) b) i) ((c ∙ ap (λ (n : ℕ). changed_credit n old.down) e) i) ((f ∙ ap (λ (n : ℕ). changed_credit n old.up) g) i) (h i) (k i)
