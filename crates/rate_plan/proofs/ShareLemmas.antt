-- The shares of leaves of the tree of a tick by ten times the rates are those of a second by the rates.
use Rattle.std.proofs.Common.{◌≡◌, ◌≤◌, ◌⊎◌, inl, inr, ℕ, zero, suc, max, count_by, cond, Bool, List, [], ◌∷◌, length, map, refl, ap, ◌∙◌, sym, subst, arith, Option, Some, None}
use Rattle.std.proofs.Math.Nat.{div-le_self}
use Rattle.std.specs.Prelude.{IsPermutation, IsTrue, slice_get, slice_index}
use Rattle.std.specs.List.{All, AllByRecursion}
use Rattle.std.specs.List.Sorted.{IsNonDecreasingBy}
use Rattle.limit_tree.specs.Sharing.{LimitTree, Branch, IsFull, sum_below, sum_over}
use Rattle.fair_terms.specs.Fair.{IsFair, IsFairNeck}
use Rattle.grant_certificate.specs.Users.{IsInnerNeck, IsOuterNeck}
use Rattle.line_rates.specs.declared.share_by.ShareBy.{ShareBy}
use Rattle.line_rates.specs.declared.share_by.ShareBy.TheVariants as share
use Rattle.limit_tree.specs.declared.bounds.TheConstants.{MAX_WANT}
use Rattle.line_rates.specs.declared.ask.Ask.{Ask}
use Rattle.line_rates.specs.declared.ask.Name.{Name}
use Rattle.line_rates.specs.Names.{floor_of}
use Rattle.line_rates.specs.Rates.{Rates, rate_of}
use Rattle.line_rates.specs.Ticks.{rate_limit}
use Rattle.line_rates.specs.TickTree.{Asker, IsPlan, IsTickTree, ask_in, bears_at}
use Rattle.round_tally.specs.Held.{IsHeldBy}
use Rattle.rate_plan.specs.Asked.{AreAsked, is_same_user, want_by}
use Rattle.rate_plan.specs.Second.{name_branch}
use Rattle.rate_plan.specs.Held.{IsHeld}
use Rattle.rate_plan.specs.Plan.{AreLeafShares, AreShares, share_ask, share_asker, share_floor, share_grant, share_lane}
use Rattle.rate_plan.specs.Shared.{AreGrantedShares, AreTickShares}
use Rattle.rate_plan.specs.Tens.{AreTens}
use Rattle.rate_plan.specs.declared.asks.Transfer.{Transfer}
use Rattle.rate_plan.specs.declared.shares.TransferShare.{TransferShare}
use Rattle.rate_plan.specs.declared.tens.TheConstants.{MAX_PLANNED}
use Rattle.rate_plan.proofs.OrderLemmas.{IsInPlace, in_place, same_order}
use Rattle.rate_plan.proofs.SecondTree.{at_same, limit_same, second_tree}

mapped_is : {X Y : Type 0} (f : X → Y) (xs : List X) (ys : List Y) → length xs ≡ length ys → ((i : ℕ) (x : X) → slice_get xs i ≡ Some x → slice_get ys i ≡ Some (f x)) → map f xs ≡ ys
mapped_is f [] [] same each = refl
mapped_is f [] (y ∷ ys) same each = absurd (omega arith)
mapped_is f (x ∷ xs) [] same each = absurd (omega arith)
mapped_is f (x ∷ xs) (y ∷ ys) same each =
    let first : Some y ≡ Some (f x) = each 0 x refl in
    let one : f x ≡ y = cc in
    ap (λ z. z ∷ map f xs) one ∙ ap (λ zs. y ∷ zs) (mapped_is f xs ys (omega arith) (λ i z e. each (suc i) z e))

asks_are : (xs : List TransferShare) → map ask_in (map share_asker xs) ≡ map share_ask xs
asks_are [] = refl
asks_are (x ∷ xs) = ap (λ rest. x.ask ∷ rest) (asks_are xs)

floors_are : (tens : Rates) (xs : List TransferShare) → ((i : ℕ) (s : TransferShare) → slice_get xs i ≡ Some s → s.floor ≡ floor_of tens s.ask) → map (floor_of tens) (map share_ask xs) ≡ map share_floor xs
floors_are tens [] each = refl
floors_are tens (x ∷ xs) each =
    ap (λ (f : ℕ). f ∷ map (floor_of tens) (map share_ask xs)) (sym (each 0 x refl)) ∙ ap (λ fs. x.floor ∷ fs) (floors_are tens xs (λ i s e. each (suc i) s e))

most_want : (by : ShareBy) (ts : List Transfer) (t : Transfer) → want_by by ts t ≤ MAX_WANT
most_want share.Sessions ts t = omega arith
most_want share.Users ts t = div-le_self MAX_WANT (max 1 (count_by (is_same_user t) ts))

want_at : (by : ShareBy) (ts : List Transfer) (asks : List Asker) (x : Asker) → AreAsked by ts asks → IsInPlace asks x → x.1.want ≤ MAX_PLANNED
want_at by ts asks x asked is =
    let ask = asked.each x.0 x is in
    let want : x.1.want ≡ want_by by ts ask.0 = ap (λ (y : Asker). y.1.want) ask.2 in
    omega (arith, want, most_want by ts ask.0)

wants_few : (by : ShareBy) (ts : List Transfer) (asks order : List Asker) → AreAsked by ts asks → All (IsInPlace asks) order → AllByRecursion (λ (a : Ask). a.want ≤ MAX_PLANNED) (map ask_in order)
wants_few by ts asks [] asked all = tt
wants_few by ts asks (x ∷ order) asked all = (want_at by ts asks x asked (all 0 x (omega arith)), wants_few by ts asks order asked (λ k d less. all (suc k) d (omega arith)))

sum_same : (n : ℕ) (f g : ℕ → ℕ) → ((i : ℕ) → f i ≡ g i) → sum_below n f ≡ sum_below n g
sum_same zero f g h = refl
sum_same (suc n) f g h = omega (arith, sum_same n f g h, h n)

over_same : (p q : ℕ → Bool) (g : List ℕ) → ((i : ℕ) → p i ≡ q i) → sum_over p g ≡ sum_over q g
over_same p q g same = sum_same (length g) (λ i. cond (p i) (slice_index g i) 0) (λ i. cond (q i) (slice_index g i) 0) (λ i. ap (λ (b : Bool). cond b (slice_index g i) 0) (same i))

-- a bottleneck by one branch is one by another with the same leaves that is full too
neck_same : (by : ShareBy) (asks : List Ask) (t : LimitTree) (b c : Branch) (g : List ℕ) (i : ℕ) → ((j : ℕ) → b.holds j ≡ c.holds j) → (IsFull b g → IsFull c g) → IsFairNeck by asks t b g i → IsFairNeck by asks t c g i
neck_same share.Sessions asks t b c g i same full neck = record {
  full = full neck.full;
  holds = subst IsTrue (same i) neck.holds;
  greatest = λ j holds. neck.greatest j (subst IsTrue (sym (same j)) holds);
}
neck_same share.Users asks t b c g i same full neck = (neck.0, neck.1, neck.2, each neck.3)
  where
    each : IsInnerNeck t neck.1 b g i ⊎ IsOuterNeck t neck.1 b g i → IsInnerNeck t neck.1 c g i ⊎ IsOuterNeck t neck.1 c g i
    each (inl inner) = inl (record {
      full = full inner.full;
      holds = subst IsTrue (same i) inner.holds;
      own = λ j holds. inner.own j (subst IsTrue (sym (same j)) holds);
      greatest = λ j holds. inner.greatest j (subst IsTrue (sym (same j)) holds);
    })
    each (inr outer) = inr (record {
      full = full outer.full;
      all = λ j mine. subst IsTrue (same j) (outer.all j mine);
      greatest = outer.greatest;
      richest = λ v inside. outer.richest v (λ j mine. subst IsTrue (sym (same j)) (inside j mine));
    })

held_same : (rates tens : Rates) → AreTens rates tens → (asks : List Ask) (t : LimitTree) (g : List ℕ) (i : ℕ) (o : Option Name) → IsHeldBy tens 0 asks t g i o → IsHeld rates asks t g i o
held_same rates tens h asks t g i None is = is
held_same rates tens h asks t g i (Some n) is =
    let b = is.1.0 in
    let named = is.1.1 in
    let neck = subst (λ (by : ShareBy). IsFairNeck by asks t b g i) h.share_by is.1.2 in
    let same : (j : ℕ) → b.holds j ≡ bears_at rates n asks j = λ j. named.holds j ∙ at_same rates tens h n asks j in
    let full : IsFull b g → IsFull (name_branch rates asks n) g = λ used.
    sym (limit_same (rate_of rates n)) ∙ (ap (λ (r : ℕ). rate_limit r 0) (sym (h.rates_of n)) ∙ (sym named.limit ∙ (used ∙ ap (λ (s : ℕ). Some s) (over_same b.holds (bears_at rates n asks) g same)))) in
    (is.0, neck_same rates.share_by asks t b (name_branch rates asks n) g i same full neck)

leaf_shares_are : (rates tens : Rates) → AreTens rates tens → (ts : List Transfer) (asks order : List Asker) (t : LimitTree) (g : List ℕ) (leaves : List TransferShare) → AreAsked rates.share_by ts asks → IsPermutation asks order → IsTickTree tens 0 (map ask_in order) t → length order ≡ length g
    → IsFair tens.share_by (map ask_in order) t g → AreTickShares tens order t g leaves → AreLeafShares rates leaves
leaf_shares_are rates tens h ts asks order t g leaves asked p tree count best are =
    let askers : map share_asker leaves ≡ order = mapped_is share_asker leaves order are.count (λ i s e. (are.each i s e).asker) in
    let grants : map share_grant leaves ≡ g = mapped_is share_grant leaves g (are.count ∙ count) (λ i s e. (are.each i s e).grant) in
    let same_asks : map ask_in order ≡ map share_ask leaves = ap (map ask_in) (sym askers) ∙ asks_are leaves in
    let tree_here : IsTickTree tens 0 (map share_ask leaves) t = subst (λ x. IsTickTree tens 0 x t) same_asks tree in
    record {
      tree = t;
      second = second_tree rates tens h (map share_ask leaves) (subst (AllByRecursion (λ (a : Ask). a.want ≤ MAX_PLANNED)) same_asks (wants_few rates.share_by ts asks order asked (in_place rates.share_by ts asks order asked p))) t tree_here;
      floors = tree_here.floors ∙ floors_are tens leaves (λ i s e. (are.each i s e).floor);
      best = subst (λ (by : ShareBy). IsFair by (map share_ask leaves) t (map share_grant leaves)) h.share_by
          (subst (λ (xs : List Ask). IsFair tens.share_by xs t (map share_grant leaves)) same_asks (subst (λ (xs : List ℕ). IsFair tens.share_by (map ask_in order) t xs) (sym grants) best));
      held = λ i s e. subst (λ x. IsHeld rates x t (map share_grant leaves) i s.held) same_asks (subst (λ x. IsHeld rates (map ask_in order) t x i s.held) (sym grants) (held_same rates tens h (map ask_in order) t g i s.held (are.each i s e).held));
    }

pub shares_are : (rates tens : Rates) → AreTens rates tens → (ts : List Transfer) (asks made : List Asker) (t : LimitTree) (lanes : List ℕ) (leaves shares : List TransferShare) → AreAsked rates.share_by ts asks → IsPlan tens 0 asks t lanes
    → map (λ lane. slice_get asks lane) lanes ≡ map (λ ask. Some ask) made → AreGrantedShares tens made t leaves → IsPermutation leaves shares → IsNonDecreasingBy share_lane shares → AreShares rates ts shares
shares_are rates tens h ts asks made t lanes leaves shares asked plan found granted same sorted =
    let order : made ≡ plan.order = same_order rates.share_by ts asks plan.order made lanes asked plan.all plan.lanes_are found in
    let p : IsPermutation asks made = subst (IsPermutation asks) (sym order) plan.all in
    record {
      asks = asks;
      leaves = leaves;
      asked = asked;
      all = subst (IsPermutation asks) (sym (mapped_is share_asker leaves made granted.are.count (λ i s e. (granted.are.each i s e).asker))) p;
      shared = leaf_shares_are rates tens h ts asks made t granted.grants leaves asked p (subst (λ x. IsTickTree tens 0 (map ask_in x) t) (sym order) plan.tree) granted.count granted.best granted.are;
      same = same;
      in_order = sorted;
    }
