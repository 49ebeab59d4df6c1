-- Ten times the rates of rows.
use Rattle.std.proofs.Common.{◌≡◌, subst, ℕ, Bool, true, false, cond, List, [], ◌∷◌, map, refl, ap, ◌∙◌, sym, Option, Some, None}
use Rattle.std.specs.Prelude.{nat_eq}
use Rattle.std.specs.Option.{option_map}
use Rattle.std.specs.FinMap as finite
use Rattle.line_rates.specs.declared.ask.Name.{Name}
use Rattle.line_rates.specs.declared.ask.Name.TheVariants.{Server, Direction, Group, User, Session}
use Rattle.line_rates.specs.declared.ask.Way.{Way}
use Rattle.line_rates.specs.declared.ask.Way.TheVariants.{Down, Up}
use Rattle.line_rates.specs.declared.row.GroupRate.{GroupRate}
use Rattle.line_rates.specs.declared.row.UserRate.{UserRate}
use Rattle.line_rates.specs.declared.share_by.ShareBy.{ShareBy}
use Rattle.line_rates.specs.Rates.{Groups, Rates, Users, floor_rate, group_in, group_rate, rate_of, session_rate, shared_by, user_rate, way_of}
use Rattle.line_rates.specs.Stated.{by_number, group_number, stated, user_number}
use Rattle.line_rates.proofs.RowLemmas.{first_row, get-by_number}
use Rattle.rate_plan.specs.Tens.{AreTens, ten_floor, ten_group, ten_rate, ten_user}

first_mapped : {X : Type 0} (number : X → ℕ) (f : X → X) → ((x : X) → number (f x) ≡ number x) → (q : ℕ) (xs : List X) → first_row number q (map f xs) ≡ option_map f (first_row number q xs)
first_mapped number f same q [] = refl
first_mapped {X} number f same q (x ∷ xs) =
    ap (λ (n : ℕ). cond (nat_eq n q) (Some (f x)) (first_row number q (map f xs))) (same x)
    ∙ (ap (cond (nat_eq (number x) q) (Some (f x))) (first_mapped number f same q xs) ∙ go (nat_eq (number x) q))
  where
    go : (b : Bool) → cond b (Some (f x)) (option_map f (first_row number q xs)) ≡ option_map f (cond b (Some x) (first_row number q xs))
    go true = refl
    go false = refl

mapped : {X : Type 0} (number : X → ℕ) (f : X → X) → ((x : X) → number (f x) ≡ number x) → (xs : List X) (q : ℕ) → finite.get (by_number number (map f xs)) q ≡ option_map f (finite.get (by_number number xs) q)
mapped number f same xs q = get-by_number number q (map f xs) ∙ (first_mapped number f same q xs ∙ ap (option_map f) (sym (get-by_number number q xs)))

group_tens : (o : Option GroupRate) (way : Way) → group_rate (option_map ten_group o) way ≡ ten_rate (group_rate o way)
group_tens None way = refl
group_tens (Some row) Down = refl
group_tens (Some row) Up = refl

user_tens : (o : Option UserRate) (way : Way) → user_rate (option_map ten_user o) way ≡ ten_rate (user_rate o way)
user_tens None way = refl
user_tens (Some row) Down = refl
user_tens (Some row) Up = refl

session_tens : (o : Option UserRate) (way : Way) → session_rate (option_map ten_user o) way ≡ ten_rate (session_rate o way)
session_tens None way = refl
session_tens (Some row) Down = refl
session_tens (Some row) Up = refl

floor_tens : (o : Option UserRate) (way : Way) → floor_rate (option_map ten_user o) way ≡ ten_floor (floor_rate o way)
floor_tens None way = refl
floor_tens (Some row) Down = refl
floor_tens (Some row) Up = refl

in_tens : (o : Option UserRate) → group_in (option_map ten_user o) ≡ group_in o
in_tens None = refl
in_tens (Some row) = refl

way_tens : (down up : ℕ) (way : Way) → way_of (ten_rate down) (ten_rate up) way ≡ ten_rate (way_of down up way)
way_tens down up Down = refl
way_tens down up Up = refl

abbrev tens_of : ShareBy → ℕ → ℕ → ℕ → List GroupRate → List UserRate → Rates
tens_of by server down up groups users = shared_by by (stated (ten_rate server) (ten_rate down) (ten_rate up) (map ten_group groups) (map ten_user users))

rates_are : (by : ShareBy) (server down up : ℕ) (groups : List GroupRate) (users : List UserRate) (n : Name) → rate_of (tens_of by server down up groups users) n ≡ ten_rate (rate_of (stated server down up groups users) n)
rates_are by server down up groups users Server = refl
rates_are by server down up groups users (Direction way) = way_tens down up way
rates_are by server down up groups users (Group way group) =
    ap (λ o. group_rate o way) (mapped group_number ten_group (λ x. refl) groups group) ∙ group_tens (finite.get (by_number group_number groups) group) way
rates_are by server down up groups users (User way user) =
    ap (λ o. user_rate o way) (mapped user_number ten_user (λ x. refl) users user) ∙ user_tens (finite.get (by_number user_number users) user) way
rates_are by server down up groups users (Session way user session) =
    ap (λ o. session_rate o way) (mapped user_number ten_user (λ x. refl) users user) ∙ session_tens (finite.get (by_number user_number users) user) way

pub are_tens : (by : ShareBy) (server down up : ℕ) (groups : List GroupRate) (users : List UserRate) → AreTens (shared_by by (stated server down up groups users)) (tens_of by server down up groups users)
are_tens by server down up groups users = record {
  share_by = refl;
  rates_of = rates_are by server down up groups users;
  floors_of = λ user way. ap (λ o. floor_rate o way) (mapped user_number ten_user (λ x. refl) users user) ∙ floor_tens (finite.get (by_number user_number users) user) way;
  groups_of = λ user. ap group_in (mapped user_number ten_user (λ x. refl) users user) ∙ in_tens (finite.get (by_number user_number users) user);
}

abbrev rates_with : Rates → Groups → Users → Rates
rates_with r groups users = record { server = r.server; down = r.down; up = r.up; groups = groups; users = users; share_by = r.share_by }

same_stated : (r : Rates) (groups : List GroupRate) (users : List UserRate) → by_number group_number groups ≡ r.groups → by_number user_number users ≡ r.users → shared_by r.share_by (stated r.server r.down r.up groups users) ≡ r
same_stated r groups users g u =
    ap (λ gs. rates_with r gs (by_number user_number users)) g ∙ ap (rates_with r r.groups) u

tens_are : (r : Rates) (s d u : ℕ) (gs : List GroupRate) (us : List UserRate) (groups : List GroupRate) (users : List UserRate) → s ≡ ten_rate r.server → d ≡ ten_rate r.down → u ≡ ten_rate r.up → gs ≡ map ten_group groups → us ≡ map ten_user users
    → tens_of r.share_by r.server r.down r.up groups users ≡ shared_by r.share_by (stated s d u gs us)
tens_are r s d u gs us groups users es ed eu eg eus = cc

pub are_tens_of : (r tens : Rates) (s d u : ℕ) (gs : List GroupRate) (us : List UserRate) (groups : List GroupRate) (users : List UserRate) → by_number group_number groups ≡ r.groups → by_number user_number users ≡ r.users
    → s ≡ ten_rate r.server → d ≡ ten_rate r.down → u ≡ ten_rate r.up → gs ≡ map ten_group groups → us ≡ map ten_user users → tens ≡ shared_by r.share_by (stated s d u gs us) → AreTens r tens
are_tens_of r tens s d u gs us groups users g us_are es ed eu eg eus is =
    subst (AreTens r) (tens_are r s d u gs us groups users es ed eu eg eus ∙ sym is)
    (subst (λ q. AreTens q (tens_of r.share_by r.server r.down r.up groups users)) (same_stated r groups users g us_are) (are_tens r.share_by r.server r.down r.up groups users))
