-- What a lease leaves.
use Rattle.std.proofs.Common.{◌≡◌, ℕ, ◌≤◌, Bool, true, false, not, ◌&&◌, ◌||◌, List, [], sym, refl, ap, ◌∙◌, subst}
use Rattle.std.specs.Prelude.{nat_eq}
use Rattle.std.specs.Cmp.{nat_cmp_total}
use Rattle.std.specs.FinSet as set
use Rattle.std.specs.FinSet.{FinSet, same_set, nat_cmp-IsAntisymmetric}
use Rattle.std.specs.Ordering.{nat_cmp}
use Rattle.std.proofs.lemmas.Bool.{eqb-true}
use Rattle.passive_ports.specs.Ports.{Ports, IsFree, IsLowestFree, AllAreLeased, with_lease}
use Rattle.passive_ports.specs.Resting.{Resting, unleased, kept_ports, rests, awake, AllRest, IsIdle, IsReady, LeasesReady, LeasesRested, AllAreUsed}
use Rattle.passive_ports.proofs.Unleased.{inserted, unleased_has, same_range, free_awake, all_more}

with_one : (e c r : Bool) → (e ≡ true → r ≡ false) → ((e || c) && not r) ≡ (e || (c && not r))
with_one true c true h = absurd (let f : true ≡ false = h refl in cc)
with_one true c false h = refl
with_one false c r h = refl

one_more : (pool : Ports) (ks : List ℕ) (port : ℕ) → rests ks port ≡ false → (unleased (with_lease pool port) ks).leased ≡ set.insert (unleased pool ks).leased port
one_more pool ks port wakes = same_set nat_cmp_total nat_cmp-IsAntisymmetric (unleased (with_lease pool port) ks).leased (set.insert (unleased pool ks).leased port)
    (λ q. unleased_has (with_lease pool port) ks q
    ∙ (ap (λ (b : Bool). b && not (rests ks q)) (inserted pool.leased port q)
    ∙ (with_one (nat_eq q port) (set.contains pool.leased q) (rests ks q) (λ e. ap (rests ks) (eqb-true q port e) ∙ wakes)
    ∙ sym (inserted (unleased pool ks).leased port q ∙ ap (λ (b : Bool). nat_eq q port || b) (unleased_has pool ks q)))))

pub none_and : (c r : Bool) → c ≡ false → (c && r) ≡ false
none_and true r e = absurd (let f : true ≡ false = e in cc)
none_and false r e = refl

left_of : (c r : Bool) → (c && not r) ≡ false → r ≡ false → c ≡ false
left_of true true e h = absurd (let f : true ≡ false = h in cc)
left_of true false e h = e
left_of false r e h = refl

-- a port that is not leased is ready, and one that is ready is not leased
free_ready : (pool : Ports) (ks : List ℕ) (most port : ℕ) → AllRest pool.leased ks → IsFree pool port → IsReady (kept_ports pool ks most) port
free_ready pool ks most port all free = record {
  idle = record {
    from_first = free.within.from_first;
    to_last = free.within.to_last;
    not_used = unleased_has pool ks port ∙ none_and (set.contains pool.leased port) (not (rests ks port)) free.not_leased;
  };
  awake = free_awake pool.leased ks port all free.not_leased;
}

ready_free : (pool : Ports) (ks : List ℕ) (most port : ℕ) → IsReady (kept_ports pool ks most) port → IsFree pool port
ready_free pool ks most port ready = record {
  within = record { from_first = ready.idle.from_first; to_last = ready.idle.to_last };
  not_leased = left_of (set.contains pool.leased port) (rests ks port) (sym (unleased_has pool ks port) ∙ ready.idle.not_used) ready.awake;
}

abbrev pub resting : ℕ → ℕ → FinSet nat_cmp → List ℕ → ℕ → Resting
resting first last used ks most = record { first = first; last = last; in_use = used; at_rest = ks; most = most }

pub leases_ready : (old new : Ports) (ks : List ℕ) (most port : ℕ) → AllRest old.leased ks → IsLowestFree old port → new ≡ with_lease old port
    → LeasesReady (kept_ports old ks most) (kept_ports new ks most) port
leases_ready old new ks most port all lowest is = record {
  ready = free_ready old ks most port all lowest.free;
  lowest = λ other ready. lowest.lowest other (ready_free old ks most other ready);
  used = ap (λ (pool : Ports). kept_ports pool ks most) is
      ∙ ap (λ (used : FinSet nat_cmp). resting old.first old.last used ks most) (one_more old ks port (free_awake old.leased ks port all lowest.free.not_leased));
}

pub keeps_ready : (old new : Ports) (ks : List ℕ) (port : ℕ) → AllRest old.leased ks → new ≡ with_lease old port → AllRest new.leased ks
keeps_ready old new ks port all is =
    subst (λ (pool : Ports). AllRest pool.leased ks) (sym is) (all_more old.leased (set.insert old.leased port) ks (λ q h. inserted old.leased port q ∙ or_right (nat_eq q port) (set.contains old.leased q) h) all)
  where
    or_right : (a b : Bool) → b ≡ true → (a || b) ≡ true
    or_right true b h = refl
    or_right false b h = h

idle_free : (pool woken : Ports) (ks : List ℕ) (most port : ℕ) → woken ≡ unleased pool ks → IsIdle (kept_ports pool ks most) port → IsFree woken port
idle_free pool woken ks most port is idle = subst (λ (p : Ports). IsFree p port) (sym is) (record {
  within = record {
    from_first = subst (λ (n : ℕ). n ≤ port) (sym (same_range pool ks).0) idle.from_first;
    to_last = subst (λ (n : ℕ). port ≤ n) (sym (same_range pool ks).1) idle.to_last;
  };
  not_leased = idle.not_used;
})

free_idle : (pool woken : Ports) (ks : List ℕ) (most port : ℕ) → woken ≡ unleased pool ks → IsFree woken port → IsIdle (kept_ports pool ks most) port
free_idle pool woken ks most port is free =
    let f : IsFree (unleased pool ks) port = subst (λ (p : Ports). IsFree p port) is free in
    record {
      from_first = subst (λ (n : ℕ). n ≤ port) (same_range pool ks).0 f.within.from_first;
      to_last = subst (λ (n : ℕ). port ≤ n) (same_range pool ks).1 f.within.to_last;
      not_used = f.not_leased;
    }

-- those at rest were all given back
pub wakes : (pool woken : Ports) (ks none : List ℕ) (most : ℕ) → woken ≡ unleased pool ks → none ≡ [] → kept_ports woken none most ≡ awake (kept_ports pool ks most)
wakes pool woken ks none most is empty =
    ap (λ (p : Ports). kept_ports p none most) is
    ∙ (ap (λ (ns : List ℕ). kept_ports (unleased pool ks) ns most) empty
    ∙ (ap (λ (n : ℕ). resting n (unleased pool ks).last (unleased pool ks).leased [] most) (same_range pool ks).0
    ∙ ap (λ (n : ℕ). resting pool.first n (unleased pool ks).leased [] most) (same_range pool ks).1))

pub leases_rested : (pool woken new : Ports) (ks none : List ℕ) (most port : ℕ) → AllRest pool.leased ks → AllAreLeased pool → woken ≡ unleased pool ks → none ≡ []
    → IsLowestFree woken port → new ≡ with_lease woken port → LeasesRested (kept_ports pool ks most) (kept_ports new none most) port
leases_rested pool woken new ks none most port all taken is empty lowest leased = record {
  none_ready = λ other ready. taken other (ready_free pool ks most other ready);
  idle = free_idle pool woken ks most port is lowest.free;
  lowest = λ other idle. lowest.lowest other (idle_free pool woken ks most other is idle);
  used = ap (λ (p : Ports). kept_ports p none most) leased
      ∙ (ap (λ (ns : List ℕ). kept_ports (with_lease woken port) ns most) empty
      ∙ ap (λ (s : Resting). record s { in_use = set.insert s.in_use port }) (wakes pool woken ks [] most is refl));
}

pub all_used : (pool woken : Ports) (ks : List ℕ) (most : ℕ) → woken ≡ unleased pool ks → AllAreLeased woken → AllAreUsed (kept_ports pool ks most)
all_used pool woken ks most is taken port idle = taken port (idle_free pool woken ks most port is idle)
