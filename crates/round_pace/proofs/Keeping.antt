-- Rows stay those of the rates that are handed in, by rising numbers.
use Rattle.std.proofs.Common.{◌≡◌, ℕ, Bool, true, false, cond, List, map, sym, refl, ap, ◌∙◌, subst, Option, Some, None}
use Rattle.std.specs.Prelude.{nat_eq}
use Rattle.std.specs.FinMap as finite
use Rattle.std.specs.Option.{is_some}
use Rattle.line_rates.specs.declared.ask.Way.{Way}
use Rattle.line_rates.specs.declared.ask.Way.TheVariants.{Down, Up}
use Rattle.line_rates.specs.declared.row.GroupRate.{GroupRate}
use Rattle.line_rates.specs.declared.row.UserRate.{UserRate}
use Rattle.line_rates.specs.Put.{with_line}
use Rattle.line_rates.specs.Rates.{Rates, Groups, Users}
use Rattle.line_rates.specs.Stated.{by_number, group_number, user_number, IsRising}
use Rattle.round_pace.specs.declared.paced.GroupPace.{GroupPace}
use Rattle.round_pace.specs.declared.paced.UserPace.{UserPace}
use Rattle.round_pace.specs.Offered.{credit_rate, refill_group, refill_user, line_parts, offer_group, handed_user, put_groups, put_users, offer_all, left_rates}
use Rattle.round_pace.specs.Paced.{Paced, AreTheGroups, AreTheUsers, group_key, pace_number, new_group, new_user}
use Rattle.round_pace.specs.Taken.{take_group, take_user, take_groups, take_users}
use Rattle.round_pace.proofs.Keys.{keys_mapped}
use Rattle.rate_floors.proofs.PlaceLemmas.{rising_mapped}

-- after a refill
pub groups_refilled : (begun tick : ℕ) (r : Rates) (gs new : List GroupPace) → new ≡ map (refill_group begun tick) gs → IsRising group_key gs → AreTheGroups r gs → IsRising group_key new × AreTheGroups r new
groups_refilled begun tick r gs new e up are = (
  subst (IsRising group_key) (sym e) (rising_mapped group_key group_key (refill_group begun tick) gs (λ g. refl) up),
  subst (AreTheGroups r) (sym e) (λ q. are q ∙ sym (keys_mapped group_key group_key (refill_group begun tick) (λ g. refl) gs q)),
)

pub users_refilled : (begun tick : ℕ) (r : Rates) (us new : List UserPace) → new ≡ map (refill_user begun tick) us → IsRising pace_number us → AreTheUsers r us → IsRising pace_number new × AreTheUsers r new
users_refilled begun tick r us new e up are = (
  subst (IsRising pace_number) (sym e) (rising_mapped pace_number pace_number (refill_user begun tick) us (λ u. refl) up),
  subst (AreTheUsers r) (sym e) (λ q. are q ∙ sym (keys_mapped pace_number pace_number (refill_user begun tick) (λ u. refl) us q)),
)

-- after octets were granted
same_group : (way : Way) (group octets : ℕ) (g : GroupPace) → group_key (cond (nat_eq (group_key g) group) (take_group way octets g) g) ≡ group_key g
same_group way group octets g = go (nat_eq (group_key g) group)
  where
    go : (b : Bool) → group_key (cond b (take_group way octets g) g) ≡ group_key g
    go true = refl
    go false = refl

same_user : (way : Way) (user octets own : ℕ) (u : UserPace) → pace_number (cond (nat_eq (pace_number u) user) (take_user way octets own u) u) ≡ pace_number u
same_user way user octets own u = go (nat_eq (pace_number u) user)
  where
    go : (b : Bool) → pace_number (cond b (take_user way octets own u) u) ≡ pace_number u
    go true = refl
    go false = refl

abbrev group_change : Way → ℕ → ℕ → GroupPace → GroupPace
group_change way group octets g = cond (nat_eq (group_key g) group) (take_group way octets g) g

abbrev user_change : Way → ℕ → ℕ → ℕ → UserPace → UserPace
user_change way user octets own u = cond (nat_eq (pace_number u) user) (take_user way octets own u) u

pub groups_taken : (way : Way) (octets : ℕ) (group : Option ℕ) (r : Rates) (gs new : List GroupPace) → new ≡ take_groups way group octets gs → IsRising group_key gs → AreTheGroups r gs → IsRising group_key new × AreTheGroups r new
groups_taken way octets None r gs new e up are = (subst (IsRising group_key) (sym e) up, subst (AreTheGroups r) (sym e) are)
groups_taken way octets (Some group) r gs new e up are = (
  subst (IsRising group_key) (sym e) (rising_mapped group_key group_key (group_change way group octets) gs (same_group way group octets) up),
  subst (AreTheGroups r) (sym e) (λ q. are q ∙ sym (keys_mapped group_key group_key (group_change way group octets) (same_group way group octets) gs q)),
)

pub users_taken : (way : Way) (octets own user : ℕ) (r : Rates) (us new : List UserPace) → new ≡ take_users way user octets own us → IsRising pace_number us → AreTheUsers r us → IsRising pace_number new × AreTheUsers r new
users_taken way octets own user r us new e up are = (
  subst (IsRising pace_number) (sym e) (rising_mapped pace_number pace_number (user_change way user octets own) us (same_user way user octets own) up),
  subst (AreTheUsers r) (sym e) (λ q. are q ∙ sym (keys_mapped pace_number pace_number (user_change way user octets own) (same_user way user octets own) us q)),
)

-- what was handed in, call by call
pub offered_all : (p : Paced) (s d u : ℕ) (one two three : Rates) (gs : List GroupPace) (us : List UserPace) (down up : ℕ) (hs : List GroupPace) → s ≡ credit_rate p.server → d ≡ credit_rate p.down → u ≡ credit_rate p.up → one ≡ with_line p.offered s d u
    → gs ≡ p.groups → two ≡ put_groups one gs → us ≡ p.users → down ≡ line_parts Down p → up ≡ line_parts Up p → hs ≡ p.groups → three ≡ put_users down up hs two us → three ≡ offer_all p
offered_all p s d u one two three gs us down up hs a b c e f g h x y z k =
    let line : one ≡ with_line p.offered (credit_rate p.server) (credit_rate p.down) (credit_rate p.up) =
    e ∙ (ap (λ (n : ℕ). with_line p.offered n d u) a ∙ (ap (λ (n : ℕ). with_line p.offered (credit_rate p.server) n u) b ∙ ap (with_line p.offered (credit_rate p.server) (credit_rate p.down)) c)) in
    let rows : two ≡ put_groups (with_line p.offered (credit_rate p.server) (credit_rate p.down) (credit_rate p.up)) p.groups =
    g ∙ (ap (put_groups one) f ∙ ap (λ (r : Rates). put_groups r p.groups) line) in
    k ∙ (λ i. put_users (x i) (y i) (z i) (rows i) (h i))

pub groups_offered : (p : Paced) (r : Rates) → r ≡ left_rates p → AreTheGroups r p.groups
groups_offered p r e q = ap (λ (x : Rates). is_some (finite.get x.groups q)) e ∙ keys_mapped group_key group_number offer_group (λ g. refl) p.groups q

pub users_offered : (p : Paced) (r : Rates) → r ≡ left_rates p → AreTheUsers r p.users
users_offered p r e q = ap (λ (x : Rates). is_some (finite.get x.users q)) e ∙ keys_mapped pace_number user_number (handed_user (line_parts Down p) (line_parts Up p) p.groups) (λ u. refl) p.users q

-- the rows of new limits
pub groups_new : (r : Rates) (rows : List GroupRate) (gs : List GroupPace) → gs ≡ map new_group rows → by_number group_number rows ≡ r.groups → IsRising group_number rows → IsRising group_key gs × AreTheGroups r gs
groups_new r rows gs e are up = (
  subst (IsRising group_key) (sym e) (rising_mapped group_number group_key new_group rows (λ g. refl) up),
  subst (AreTheGroups r) (sym e) (λ q. ap (λ (m : Groups). is_some (finite.get m q)) (sym are) ∙ sym (keys_mapped group_number group_key new_group (λ g. refl) rows q)),
)

pub users_new : (r : Rates) (rows : List UserRate) (us : List UserPace) → us ≡ map new_user rows → by_number user_number rows ≡ r.users → IsRising user_number rows → IsRising pace_number us × AreTheUsers r us
users_new r rows us e are up = (
  subst (IsRising pace_number) (sym e) (rising_mapped user_number pace_number new_user rows (λ u. refl) up),
  subst (AreTheUsers r) (sym e) (λ q. ap (λ (m : Users). is_some (finite.get m q)) (sym are) ∙ sym (keys_mapped user_number pace_number new_user (λ u. refl) rows q)),
)
