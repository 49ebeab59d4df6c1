-- Grants within the tree of a tick keep the limit of each name.
use Rattle.std.proofs.Common.{◌≡◌, ℕ, zero, suc, ◌+◌, ◌≤◌, Bool, true, false, cond, List, [], ◌∷◌, length, map, sum_by, refl, ap, ◌∙◌, subst, arith, Option, Some, None}
use Rattle.std.specs.Prelude.{slice_index}
use Rattle.std.specs.List.{list_any}
use Rattle.std.proofs.lemmas.Bool.{or_parts}
use Rattle.std.proofs.lemmas.List.Sums.{sum_by-cons}
use Rattle.limit_tree.specs.Sharing.{Branch, LimitTree, IsWithin, sum_below, sum_over}
use Rattle.line_rates.specs.declared.ask.Ask.{Ask}
use Rattle.line_rates.specs.declared.ask.Name.{Name}
use Rattle.line_rates.specs.Granted.{Granted, granted_ask, granted_octets, granted_under}
use Rattle.line_rates.specs.Names.{bears}
use Rattle.line_rates.specs.Rates.{Rates, rate_of}
use Rattle.line_rates.specs.Ticks.{rate_limit}
use Rattle.line_rates.specs.TickTree.{IsTickTree, IsNamed, AreNamed, bears_at, is_name}

-- what is granted to one ask under a name
abbrev grant_under : Rates → Name → Granted → ℕ
grant_under r n l = cond (bears r n l.ask) l.octets 0

named_branch : (r : Rates) (tick : ℕ) (asks : List Ask) (n : Name) (o : Option Branch) → AreNamed r tick asks (Some n) o → (b : Branch) × (o ≡ Some b) × IsNamed r tick asks n b
named_branch r tick asks n (Some b) h = (b, refl, h)
named_branch r tick asks n None h = absurd h

pub sum_front : (n : ℕ) (f : ℕ → ℕ) → sum_below (suc n) f ≡ f 0 + sum_below n (λ i. f (suc i))
sum_front zero f = omega arith
sum_front (suc n) f = omega (arith, sum_front n f)

pub sum_same : (n : ℕ) (f g : ℕ → ℕ) → ((i : ℕ) → f i ≡ g i) → sum_below n f ≡ sum_below n g
sum_same zero f g h = refl
sum_same (suc n) f g h = omega (arith, sum_same n f g h, h n)

leaves_sum : (r : Rates) (n : Name) (ls : List Granted) → sum_over (bears_at r n (map granted_ask ls)) (map granted_octets ls) ≡ sum_by (grant_under r n) ls
leaves_sum r n [] = refl
leaves_sum r n (l ∷ ls) =
    omega (arith, sum_front (length (map granted_octets ls)) (λ i. cond (bears_at r n (map granted_ask (l ∷ ls)) i) (slice_index (map granted_octets (l ∷ ls)) i) 0), leaves_sum r n ls, sum_by-cons (grant_under r n) l ls)

none_under : (r : Rates) (n : Name) (ls : List Granted) → list_any (bears r n) (map granted_ask ls) ≡ false → sum_by (grant_under r n) ls ≡ 0
none_under r n [] h = refl
none_under r n (l ∷ ls) h =
    let parts : (bears r n l.ask ≡ false) × (list_any (bears r n) (map granted_ask ls) ≡ false) = or_parts _ _ h in
    let one : grant_under r n l ≡ 0 = ap (λ (b : Bool). cond b l.octets 0) parts.0 in
    omega (arith, sum_by-cons (grant_under r n) l ls, none_under r n ls parts.1)

under_within : (r : Rates) (tick : ℕ) (t : LimitTree) (ls : List Granted) (n : Name) (most : ℕ) → IsTickTree r tick (map granted_ask ls) t → IsWithin t (map granted_octets ls) → rate_limit (rate_of r n) tick ≡ Some most
    → (b : Bool) → is_name r (map granted_ask ls) n ≡ b → sum_by (grant_under r n) ls ≤ most
under_within r tick t ls n most tree within e false h = omega (arith, none_under r n ls ((or_parts _ _ h).1))
under_within r tick t ls n most tree within e true h =
    let k = tree.each_name n h in
    let x = named_branch r tick (map granted_ask ls) n (t.branch k.0) (subst (λ o. AreNamed r tick (map granted_ask ls) o (t.branch k.0)) k.1 (tree.named k.0)) in
    let limit : sum_over x.0.holds (map granted_octets ls) ≤ most = within.limits k.0 most x.0 x.1 (x.2.limit ∙ e) in
    let same : sum_over x.0.holds (map granted_octets ls) ≡ sum_over (bears_at r n (map granted_ask ls)) (map granted_octets ls) =
    sum_same (length (map granted_octets ls)) (λ i. cond (x.0.holds i) (slice_index (map granted_octets ls) i) 0) (λ i. cond (bears_at r n (map granted_ask ls) i) (slice_index (map granted_octets ls) i) 0)
    (λ i. ap (λ (b : Bool). cond b (slice_index (map granted_octets ls) i) 0) (x.2.holds i)) in
    omega (arith, leaves_sum r n ls)

pub kept : (r : Rates) (tick : ℕ) (t : LimitTree) (ls : List Granted) → IsTickTree r tick (map granted_ask ls) t → IsWithin t (map granted_octets ls) → (n : Name) (most : ℕ) → rate_limit (rate_of r n) tick ≡ Some most
    → granted_under r n ls ≤ most
kept r tick t ls tree within n most e = under_within r tick t ls n most tree within e (is_name r (map granted_ask ls) n) refl
