-- A pool after each of some ports was given back.
use Rattle.std.proofs.Common.{◌≡◌, ℕ, Bool, true, false, not, ◌&&◌, ◌||◌, List, [], ◌∷◌, ◌++◌, sym, refl, ap, ◌∙◌}
use Rattle.std.specs.Prelude.{nat_eq}
use Rattle.std.specs.Cmp.{nat_cmp_total, unsigned_tied}
use Rattle.std.specs.FinSet as set
use Rattle.std.specs.FinSet.{FinSet, contains-insert, contains-remove}
use Rattle.std.specs.Ordering.{nat_cmp}
use Rattle.std.proofs.lemmas.Bool.{eqb-true, and_parts, and_from}
use Rattle.std.proofs.lemmas.List.Sums.{fold-append}
use Rattle.passive_ports.specs.Ports.{Ports, without_lease}
use Rattle.passive_ports.specs.Resting.{unleased, rests, AllRest}

pub inserted : (s : FinSet nat_cmp) (k q : ℕ) → set.contains (set.insert s k) q ≡ (nat_eq q k || set.contains s q)
inserted s k q = contains-insert nat_cmp_total s k q ∙ ap (λ (b : Bool). b || set.contains s q) (unsigned_tied q k)

pub removed : (s : FinSet nat_cmp) (k q : ℕ) → set.contains (set.remove s k) q ≡ (not (nat_eq q k) && set.contains s q)
removed s k q = contains-remove nat_cmp_total s k q ∙ ap (λ (b : Bool). not b && set.contains s q) (unsigned_tied q k)

without : (e c r : Bool) → ((not e && c) && not r) ≡ (c && not (e || r))
without true true r = refl
without true false r = refl
without false true r = refl
without false false r = refl

kept : (c : Bool) → c ≡ (c && true)
kept true = refl
kept false = refl

-- what is leased but for those at rest
pub unleased_has : (pool : Ports) (ks : List ℕ) (q : ℕ) → set.contains (unleased pool ks).leased q ≡ (set.contains pool.leased q && not (rests ks q))
unleased_has pool [] q = kept (set.contains pool.leased q)
unleased_has pool (k ∷ ks) q =
    unleased_has (without_lease pool k) ks q
    ∙ (ap (λ (b : Bool). b && not (rests ks q)) (removed pool.leased k q) ∙ without (nat_eq q k) (set.contains pool.leased q) (rests ks q))

pub same_range : (pool : Ports) (ks : List ℕ) → ((unleased pool ks).first ≡ pool.first) × ((unleased pool ks).last ≡ pool.last)
same_range pool [] = (refl, refl)
same_range pool (k ∷ ks) = same_range (without_lease pool k) ks

pub unleased_more : (pool : Ports) (ks : List ℕ) (k : ℕ) → unleased pool (ks ++ k ∷ []) ≡ without_lease (unleased pool ks) k
unleased_more pool ks k = fold-append without_lease pool ks (k ∷ [])

or_parts : (a b : Bool) → a ≡ false → (a || b) ≡ true → b ≡ true
or_parts true b e h = absurd (let f : true ≡ false = e in cc)
or_parts false b e h = h

-- what rests is leased
pub rests_leased : (s : FinSet nat_cmp) (ks : List ℕ) (q : ℕ) → AllRest s ks → rests ks q ≡ true → set.contains s q ≡ true
rests_leased s [] q all h = absurd (cc)
rests_leased s (k ∷ ks) q all h = go (nat_eq q k) refl (λ e. rests_leased (set.remove s k) ks q all.1 (or_parts (nat_eq q k) (rests ks q) e h))
  where
    go : (b : Bool) → nat_eq q k ≡ b → (nat_eq q k ≡ false → set.contains (set.remove s k) q ≡ true) → set.contains s q ≡ true
    go true e more = ap (set.contains s) (eqb-true q k e) ∙ all.0
    go false e more = (and_parts (not (nat_eq q k)) (set.contains s q) (sym (removed s k q) ∙ more e)).1

-- what is not leased is not at rest
pub free_awake : (s : FinSet nat_cmp) (ks : List ℕ) (q : ℕ) → AllRest s ks → set.contains s q ≡ false → rests ks q ≡ false
free_awake s ks q all free = go (rests ks q) refl
  where
    go : (b : Bool) → rests ks q ≡ b → rests ks q ≡ false
    go true e = absurd (let f : set.contains s q ≡ true = rests_leased s ks q all e in let g : true ≡ false = sym f ∙ free in cc)
    go false e = e

-- more is leased
pub all_more : (s t : FinSet nat_cmp) (ks : List ℕ) → ((q : ℕ) → set.contains s q ≡ true → set.contains t q ≡ true) → AllRest s ks → AllRest t ks
all_more s t [] more all = tt
all_more s t (k ∷ ks) more all = (more k all.0, all_more (set.remove s k) (set.remove t k) ks next all.1)
  where
    next : (q : ℕ) → set.contains (set.remove s k) q ≡ true → set.contains (set.remove t k) q ≡ true
    next q h =
        let parts = and_parts (not (nat_eq q k)) (set.contains s q) (sym (removed s k q) ∙ h) in
        removed t k q ∙ and_from (not (nat_eq q k)) (set.contains t q) parts.0 (more q parts.1)

-- one more rests, which was in use
pub all_with : (pool : Ports) (ks : List ℕ) (k : ℕ) → AllRest pool.leased ks → set.contains (unleased pool ks).leased k ≡ true → AllRest pool.leased (ks ++ k ∷ [])
all_with pool [] k all used = (used, tt)
all_with pool (j ∷ ks) k all used = (all.0, all_with (without_lease pool j) ks k all.1 used)
