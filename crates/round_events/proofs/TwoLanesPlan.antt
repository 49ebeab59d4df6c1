-- The plan of the example: each ask gets what it wants.
use Rattle.std.proofs.Common.{◌≡◌, ℕ, zero, suc, ◌+◌, ◌<◌, ◌≤◌, Bool, true, false, ◌||◌, ◌&&◌, nat_eq, ne_eqb, List, [], ◌∷◌, length, map, get_or, sym, refl, ap, ◌∙◌, subst, arith, All, Option, Some, None}
use Rattle.std.specs.Prelude.{IsTrue}
use Rattle.std.specs.FinMap.{get-empty}
use Rattle.std.specs.Ordering.{nat_cmp}
use Rattle.std.proofs.lemmas.Option.{same_Some}
use Rattle.std.proofs.lemmas.List.Sorted.{All-permutation, IsPermutation-refl}
use mathlib.Core.Logic.{dite}
use native.Mathlib.Decide.{ℕ_discrete}
use Rattle.limit_tree.specs.Sharing.{Branch, IsBest, LimitTree}
use Rattle.line_rates.specs.declared.ask.Ask.{Ask}
use Rattle.line_rates.specs.declared.ask.Name.{Name}
use Rattle.line_rates.specs.declared.ask.Name.TheVariants.{Server, Direction, Group, User, Session}
use Rattle.line_rates.specs.declared.ask.Way.{Way}
use Rattle.line_rates.specs.declared.ask.Way.TheVariants.{Down, Up}
use Rattle.line_rates.specs.declared.row.UserRate.{UserRate}
use Rattle.line_rates.specs.declared.row.GroupRate.{GroupRate}
use Rattle.line_rates.specs.Names.{floor_of, is_number, same_way}
use Rattle.line_rates.specs.Rates.{group_in, group_rate, rate_of, session_rate, user_rate}
use Rattle.line_rates.specs.Ticks.{rate_limit}
use Rattle.line_rates.specs.TickTree.{AreNamed, IsTickTree, bears_at, is_name}
use Rattle.share_world.specs.Shares.{IsFairPlan}
use Rattle.round_events.specs.TwoLanes.{example_ask, example_asks, free_rates}

abbrev asks : List Ask
asks = example_ask 1 ∷ example_ask 2 ∷ []

abbrev name_at : ℕ → Option Name
name_at zero = Some Server
name_at (suc zero) = Some (Direction Down)
name_at (suc (suc zero)) = Some (User Down 1)
name_at (suc (suc (suc zero))) = Some (Session Down 1 1)
name_at (suc (suc (suc (suc zero)))) = Some (Session Down 1 2)
name_at (suc (suc (suc (suc (suc k))))) = None

abbrev branch_of : Option Name → Option Branch
branch_of None = None
branch_of (Some n) = Some record { limit = None; holds = bears_at free_rates n asks }

abbrev pub example_tree : LimitTree
example_tree = record { wants = 5 ∷ 5 ∷ []; floors = map (floor_of free_rates) asks; branch = λ k. branch_of (name_at k) }

free : (n : Name) → rate_of free_rates n ≡ 0
free Server = refl
free (Direction Down) = refl
free (Direction Up) = refl
free (Group way group) = ap (λ (r : Option GroupRate). group_rate r way) (get-empty nat_cmp group)
free (User way user) = ap (λ (r : Option UserRate). user_rate r way) (get-empty nat_cmp user)
free (Session way user session) = ap (λ (r : Option UserRate). session_rate r way) (get-empty nat_cmp user)

named : (tick : ℕ) (o : Option Name) → AreNamed free_rates tick asks o (branch_of o)
named tick None = tt
named tick (Some n) = record { limit = sym (ap (λ (r : ℕ). rate_limit r tick) (free n)); holds = λ i. refl }

-- the number of a name of the tree
abbrev place : Name → ℕ
place Server = 0
place (Direction way) = 1
place (Group way group) = 5
place (User way user) = 2
place (Session way user session) = session + 2

place_at : (k : ℕ) (n : Name) → name_at k ≡ Some n → place n ≡ k
place_at zero n e = ap place (sym (same_Some _ n e))
place_at (suc zero) n e = ap place (sym (same_Some _ n e))
place_at (suc (suc zero)) n e = ap place (sym (same_Some _ n e))
place_at (suc (suc (suc zero))) n e = ap place (sym (same_Some _ n e))
place_at (suc (suc (suc (suc zero)))) n e = ap place (sym (same_Some _ n e))
place_at (suc (suc (suc (suc (suc k))))) n e = absurd (cc)

is_there : (n m : Name) → ◌≡◌ {A = Option Name} (Some n) (Some m) → IsTrue (is_name free_rates asks n) → IsTrue (is_name free_rates asks m)
is_there n m e h = subst (λ (x : Name). IsTrue (is_name free_rates asks x)) (same_Some n m e) h

no_other : (k : ℕ) (n : Name) → name_at k ≡ Some n → IsTrue (is_name free_rates asks n)
no_other zero n e = is_there Server n e refl
no_other (suc zero) n e = is_there (Direction Down) n e refl
no_other (suc (suc zero)) n e = is_there (User Down 1) n e refl
no_other (suc (suc (suc zero))) n e = is_there (Session Down 1 1) n e refl
no_other (suc (suc (suc (suc zero)))) n e = is_there (Session Down 1 2) n e refl
no_other (suc (suc (suc (suc (suc k))))) n e = absurd (cc)

-- no session is in a group
no_group : (way : Way) (group : ℕ) → is_name free_rates asks (Group way group) ≡ false
no_group way group = (λ q. one (get-empty {X = UserRate} nat_cmp 1 q) || (one (get-empty {X = UserRate} nat_cmp 1 q) || false)) ∙ neither way
  where
    one : Option UserRate → Bool
    one r = same_way Down way && is_number (group_in r) group

    neither : (way : Way) → (same_way Down way && false) || ((same_way Down way && false) || false) ≡ false
    neither Down = refl
    neither Up = refl

never : {A : Type 0} → false ≡ true → A
never e = absurd (cc)

each_name : (n : Name) → IsTrue (is_name free_rates asks n) → (k : ℕ) × (name_at k ≡ Some n)
each_name Server h = (0, refl)
each_name (Direction Down) h = (1, refl)
each_name (Direction Up) h = never h
each_name (Group way group) h = never (sym (no_group way group) ∙ h)
each_name (User Down user) h = dite (ℕ_discrete 1 user)
    (λ e. (2, ap (λ (m : ℕ). Some (User Down m)) e))
    (λ ne. never (sym (ap (λ (b : Bool). b || (b || false)) (ne_eqb 1 user ne)) ∙ h))
each_name (User Up user) h = never h
each_name (Session Down user session) h = dite (ℕ_discrete 1 user)
    (λ e. dite (ℕ_discrete 1 session)
    (λ f. (3, λ q. Some (Session Down (e q) (f q))))
    (λ nf. dite (ℕ_discrete 2 session)
    (λ f. (4, λ q. Some (Session Down (e q) (f q))))
    (λ ng. never (sym ((λ q. (nat_eq 1 user && ne_eqb 1 session nf q) || ((nat_eq 1 user && ne_eqb 2 session ng q) || false)) ∙ nothing (nat_eq 1 user)) ∙ h))))
    (λ ne. never (sym (λ q. (ne_eqb 1 user ne q && nat_eq 1 session) || ((ne_eqb 1 user ne q && nat_eq 2 session) || false)) ∙ h))
  where
    nothing : (b : Bool) → (b && false) || ((b && false) || false) ≡ false
    nothing true = refl
    nothing false = refl
each_name (Session Up user session) h = never h

tick_tree : (tick : ℕ) → IsTickTree free_rates tick asks example_tree
tick_tree tick = record {
  wants = refl;
  floors = refl;
  name = name_at;
  named = λ k. named tick (name_at k);
  no_other = no_other;
  each_name = each_name;
  once = λ j k n e f. sym (place_at j n e) ∙ place_at k n f;
}

no_limit : (o : Option Name) (b : Branch) (most : ℕ) → branch_of o ≡ Some b → b.limit ≡ Some most → ⊥
no_limit None b most e f = cc
no_limit (Some n) b most e f = let g : ◌≡◌ {A = Option ℕ} None (Some most) = ap (λ (c : Branch). c.limit) (same_Some _ b e) ∙ f in cc

floors : (i : ℕ) → i < 2 → get_or (map (floor_of free_rates) asks) i 0 ≤ get_or (5 ∷ 5 ∷ []) i 0
floors zero less = omega arith
floors (suc zero) less = omega arith
floors (suc (suc i)) less = absurd (omega (arith, less))

same_or : (xs : List ℕ) (k d e : ℕ) → k < length xs → get_or xs k d ≡ get_or xs k e
same_or [] k d e less = absurd (omega arith)
same_or (x ∷ xs) zero d e less = refl
same_or (x ∷ xs) (suc k) d e less = same_or xs k d e (omega arith)

five : (k : ℕ) → get_or (5 ∷ 5 ∷ []) k 0 ≤ 5
five zero = omega arith
five (suc zero) = omega arith
five (suc (suc k)) = omega arith

all_five : All (λ (n : ℕ). 5 ≤ n) (5 ∷ 5 ∷ [])
all_five zero d less = omega arith
all_five (suc zero) d less = omega arith
all_five (suc (suc k)) d less = absurd (omega (arith, less))

best : IsBest example_tree (5 ∷ 5 ∷ [])
best = record {
  within = record {
    wanted = record { leaves = refl; wants = λ i less. omega arith };
    floors = floors;
    limits = λ k most b e f. absurd (no_limit (name_at k) b most e f);
  };
  greatest = λ h sorted_g sorted_h w g s above.
      let low : All (λ (n : ℕ). 5 ≤ n) sorted_g = All-permutation (λ (n : ℕ). 5 ≤ n) (5 ∷ 5 ∷ []) sorted_g g.0 all_five in
      let most : All (λ (n : ℕ). n ≤ 5) h = λ k d less. let same = same_or h k d 0 less in let want = w.wanted.wants k less in let top = five k in omega (arith, same, want, top) in
      let high : All (λ (n : ℕ). n ≤ 5) sorted_h = All-permutation (λ (n : ℕ). n ≤ 5) h sorted_h s.0 most in
      let a = low above.place 0 above.within in
      let b = high above.place 0 (omega (arith, above.within, above.lengths)) in
      let c = above.larger in
      omega (arith, a, b, c);
}

pub example_plan : (tick : ℕ) → IsFairPlan free_rates tick example_asks example_tree (0 ∷ 1 ∷ []) (5 ∷ 5 ∷ [])
example_plan tick = record {
  plan = record { order = example_asks; all = IsPermutation-refl example_asks; tree = tick_tree tick; lanes_are = refl };
  fair = best;
}
