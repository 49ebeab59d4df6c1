-- The tree of a tick by ten times the rates is that of a second by the rates.
use Rattle.std.proofs.Common.{◌≡◌, ◌≤◌, ℕ, Bool, true, false, cond, List, [], ◌∷◌, map, refl, ap, ◌∙◌, sym, subst, arith, Option, Some, None}
use Rattle.std.specs.Prelude.{◌*◌, ◌/◌, ◌&&◌, ◌||◌, nat_eq, nat_lt, min, IsTrue, slice_get}
use Rattle.std.specs.FinMap as finite
use Rattle.std.specs.List.{AllByRecursion, list_any}
use Rattle.limit_tree.specs.Sharing.{Branch, LimitTree}
use Rattle.line_rates.specs.declared.ask.Ask.{Ask}
use Rattle.line_rates.specs.declared.ask.Name.{Name}
use Rattle.line_rates.specs.declared.ask.Name.TheVariants.{Server, Direction, Group, User, Session}
use Rattle.line_rates.specs.Names.{bears, floor_of, is_number, same_way}
use Rattle.line_rates.specs.Rates.{Rates, floor_rate, rate_of}
use Rattle.line_rates.specs.Ticks.{rate_limit, share_of}
use Rattle.std.proofs.lemmas.Bool.{eqb-true, eq-eqb}
use Rattle.line_rates.proofs.RowLemmas.{other_number}
use Rattle.line_rates.specs.TickTree.{AreNamed, IsTickTree, bears_at, bears_in, is_name, is_server}
use Rattle.rate_plan.specs.Second.{AreNameBranches, IsSecondTree, second_floor, second_limit}
use Rattle.rate_plan.specs.Tens.{AreTens, ten_floor, ten_rate}
use Rattle.rate_plan.specs.declared.tens.TheConstants.{MAX_PLANNED}

share : (rate : ℕ) → share_of (10 * rate) 0 ≡ rate
share rate = omega arith

tenth : (rate : ℕ) → rate_limit (10 * rate) 0 ≡ cond (nat_eq rate 0) None (Some rate)
tenth rate = go (nat_eq rate 0) refl
  where
    go : (b : Bool) → nat_eq rate 0 ≡ b → rate_limit (10 * rate) 0 ≡ cond b None (Some rate)
    go true e = ap (λ (r : ℕ). rate_limit (10 * r) 0) (eqb-true rate 0 e)
    go false e =
        ap (λ t. cond t None (Some (share_of (10 * rate) 0))) (other_number (10 * rate) 0 (λ no. let yes = eq-eqb rate 0 (omega arith) in absurd (cc)))
        ∙ ap (λ (n : ℕ). Some n) (share rate)

pub limit_same : (rate : ℕ) → rate_limit (ten_rate rate) 0 ≡ second_limit rate
limit_same rate = go (nat_eq rate 0) (nat_lt MAX_PLANNED rate) refl refl
  where
    go : (a b : Bool) → nat_eq rate 0 ≡ a → nat_lt MAX_PLANNED rate ≡ b → rate_limit (cond b 0 (10 * rate)) 0 ≡ cond (a || b) None (Some rate)
    go true true e f = refl
    go true false e f = tenth rate ∙ ap (λ t. cond t None (Some rate)) e
    go false true e f = refl
    go false false e f = tenth rate ∙ ap (λ t. cond t None (Some rate)) e

pub bears_same : (rates tens : Rates) → AreTens rates tens → (n : Name) (a : Ask) → bears tens n a ≡ bears rates n a
bears_same rates tens h Server a = refl
bears_same rates tens h (Direction way) a = refl
bears_same rates tens h (Group way group) a = ap (λ o. same_way a.way way && is_number o group) (h.groups_of a.user)
bears_same rates tens h (User way user) a = refl
bears_same rates tens h (Session way user session) a = refl

in_same : (rates tens : Rates) → AreTens rates tens → (n : Name) (o : Option Ask) → bears_in tens n o ≡ bears_in rates n o
in_same rates tens h n None = refl
in_same rates tens h n (Some a) = bears_same rates tens h n a

pub at_same : (rates tens : Rates) → AreTens rates tens → (n : Name) (asks : List Ask) (i : ℕ) → bears_at tens n asks i ≡ bears_at rates n asks i
at_same rates tens h n asks i = in_same rates tens h n (slice_get asks i)

any_alike : {X : Type 0} (p q : X → Bool) → ((n : X) → p n ≡ q n) → (ns : List X) → list_any p ns ≡ list_any q ns
any_alike p q same [] = refl
any_alike p q same (n ∷ ns) = ap (λ b. b || list_any p ns) (same n) ∙ ap (λ b. q n || b) (any_alike p q same ns)

name_same : (rates tens : Rates) → AreTens rates tens → (asks : List Ask) (n : Name) → is_name tens asks n ≡ is_name rates asks n
name_same rates tens h asks n = ap (λ b. is_server n || b) (any_alike (bears tens n) (bears rates n) (bears_same rates tens h n) asks)

tenth_floor : (floor : ℕ) → ten_floor floor / 10 ≡ min floor MAX_PLANNED
tenth_floor floor = omega arith

cut_floor : (want floor : ℕ) → want ≤ MAX_PLANNED → min want (min floor MAX_PLANNED) ≡ min want floor
cut_floor want floor few = grind arith

floor_same : (rates tens : Rates) → AreTens rates tens → (a : Ask) → a.want ≤ MAX_PLANNED → floor_of tens a ≡ second_floor rates a
floor_same rates tens h a few =
    ap (λ (f : ℕ). min a.want (f / 10)) (h.floors_of a.user a.way)
    ∙ (ap (min a.want) (tenth_floor (floor_rate (finite.get rates.users a.user) a.way)) ∙ cut_floor a.want (floor_rate (finite.get rates.users a.user) a.way) few)

pub floors_same : (rates tens : Rates) → AreTens rates tens → (asks : List Ask) → AllByRecursion (λ a. a.want ≤ MAX_PLANNED) asks → map (floor_of tens) asks ≡ map (second_floor rates) asks
floors_same rates tens h [] few = refl
floors_same rates tens h (a ∷ asks) few = ap (λ (f : ℕ). f ∷ map (floor_of tens) asks) (floor_same rates tens h a few.0) ∙ ap (λ fs. second_floor rates a ∷ fs) (floors_same rates tens h asks few.1)

named_same : (rates tens : Rates) → AreTens rates tens → (asks : List Ask) (o : Option Name) (b : Option Branch) → AreNamed tens 0 asks o b → AreNameBranches rates asks o b
named_same rates tens h asks None None is = tt
named_same rates tens h asks (Some n) (Some b) is = record {
  limit = is.limit ∙ (ap (λ (r : ℕ). rate_limit r 0) (h.rates_of n) ∙ limit_same (rate_of rates n));
  holds = λ i. is.holds i ∙ at_same rates tens h n asks i;
}
named_same rates tens h asks None (Some b) is = is
named_same rates tens h asks (Some n) None is = is

pub second_tree : (rates tens : Rates) → AreTens rates tens → (asks : List Ask) → AllByRecursion (λ a. a.want ≤ MAX_PLANNED) asks → (t : LimitTree) → IsTickTree tens 0 asks t → IsSecondTree rates asks t
second_tree rates tens h asks few t is = record {
  wants = is.wants;
  floors = is.floors ∙ floors_same rates tens h asks few;
  name = is.name;
  named = λ k. named_same rates tens h asks (is.name k) (t.branch k) (is.named k);
  no_other = λ k n e. subst IsTrue (name_same rates tens h asks n) (is.no_other k n e);
  each_name = λ n e. is.each_name n (subst IsTrue (sym (name_same rates tens h asks n)) e);
  once = is.once;
}
