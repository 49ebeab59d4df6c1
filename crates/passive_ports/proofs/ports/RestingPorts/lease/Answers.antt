use Rattle.std.proofs.Common.{◌≡◌, ℕ, List, Option, Some, None, IfSome, IfNone, [], ap, ◌∙◌, subst, inl, inr}
use Rattle.passive_ports.specs.Ports.{Ports, IsLowestFree, AllAreLeased, with_lease}
use Rattle.passive_ports.specs.Resting.{Resting, unleased, kept_ports, awake, AllRest, Leases, AllAreUsed}
use Rattle.passive_ports.proofs.Leasing.{leases_ready, keeps_ready, leases_rested, all_used, wakes}
use Rattle.passive_ports.proofs.ports.RestingPorts.lease.Goals as goal

pub invariant_of-self : goal.invariant_of-self
invariant_of-self g c = record {
  all_rest = keeps_ready c.self.inside.pool c.lease.new.self c.self.inside.resting.items c.in-Some.port c.self.invariant.all_rest c.in-Some.ensures.leased;
  few = c.self.invariant.few;
  has_room = c.self.invariant.has_room;
}

pub returns-in-Some-clause-leased : goal.returns-in-Some-clause-leased
returns-in-Some-clause-leased g c =
    subst (λ (old : Resting). Leases old (kept_ports c.lease.new.self c.self.inside.resting.items c.self.inside.most) c.in-Some.port) c.self.view_is
    (inl (leases_ready c.self.inside.pool c.lease.new.self c.self.inside.resting.items c.self.inside.most c.in-Some.port c.self.invariant.all_rest c.in-Some.ensures.lowest c.in-Some.ensures.leased))

-- what the second lease answers
some : (pool woken new : Ports) (ks none : List ℕ) (most : ℕ) (r : Option ℕ) → AllRest pool.leased ks → AllAreLeased pool → woken ≡ unleased pool ks → none ≡ []
    → IfSome r (IsLowestFree woken) → IfSome r (λ port. new ≡ with_lease woken port) → IfSome r (Leases (kept_ports pool ks most) (kept_ports new none most))
some pool woken new ks none most None all taken is empty lowest leased = tt
some pool woken new ks none most (Some port) all taken is empty lowest leased = inr (leases_rested pool woken new ks none most port all taken is empty lowest leased)

all : (pool woken : Ports) (ks : List ℕ) (most : ℕ) (r : Option ℕ) → woken ≡ unleased pool ks → IfNone r (AllAreLeased woken) → IfNone r (AllAreUsed (kept_ports pool ks most))
all pool woken ks most None is taken = all_used pool woken ks most is taken
all pool woken ks most (Some port) is taken = tt

rest : (pool woken new : Ports) (ks none : List ℕ) (most : ℕ) (r : Option ℕ) → woken ≡ unleased pool ks → none ≡ [] → IfNone r (new ≡ woken) → IfNone r (kept_ports new none most ≡ awake (kept_ports pool ks most))
rest pool woken new ks none most None is empty same = ap (λ (p : Ports). kept_ports p none most) same ∙ wakes pool woken ks none most is empty
rest pool woken new ks none most (Some port) is empty same = tt

pub returns-in-None-clause-leased : goal.returns-in-None-clause-leased
returns-in-None-clause-leased g c =
    let woken : c.wake.new.pool ≡ unleased c.self.inside.pool c.self.inside.resting.items =
    c.wake.ensures.woken ∙ (ap (unleased c.lease.new.self) c.deref.ensures.value ∙ ap (λ (p : Ports). unleased p c.self.inside.resting.items) c.in-None.ensures.unchanged) in
    subst (λ (old : Resting). IfSome c.lease-in-None.result (Leases old (kept_ports c.lease-in-None.new.self c.clear.new.self.items c.self.inside.most))) c.self.view_is
    (some c.self.inside.pool c.wake.new.pool c.lease-in-None.new.self c.self.inside.resting.items c.clear.new.self.items c.self.inside.most c.lease-in-None.result c.self.invariant.all_rest c.in-None.ensures.all woken c.clear.ensures.items
    c.lease-in-None.ensures.lowest c.lease-in-None.ensures.leased)

pub returns-in-None-clause-all : goal.returns-in-None-clause-all
returns-in-None-clause-all g c =
    let woken : c.wake.new.pool ≡ unleased c.self.inside.pool c.self.inside.resting.items =
    c.wake.ensures.woken ∙ (ap (unleased c.lease.new.self) c.deref.ensures.value ∙ ap (λ (p : Ports). unleased p c.self.inside.resting.items) c.in-None.ensures.unchanged) in
    subst (λ (old : Resting). IfNone c.lease-in-None.result (AllAreUsed old)) c.self.view_is
    (all c.self.inside.pool c.wake.new.pool c.self.inside.resting.items c.self.inside.most c.lease-in-None.result woken c.lease-in-None.ensures.all)

pub returns-in-None-clause-awake : goal.returns-in-None-clause-awake
returns-in-None-clause-awake g c =
    let woken : c.wake.new.pool ≡ unleased c.self.inside.pool c.self.inside.resting.items =
    c.wake.ensures.woken ∙ (ap (unleased c.lease.new.self) c.deref.ensures.value ∙ ap (λ (p : Ports). unleased p c.self.inside.resting.items) c.in-None.ensures.unchanged) in
    subst (λ (old : Resting). IfNone c.lease-in-None.result (kept_ports c.lease-in-None.new.self c.clear.new.self.items c.self.inside.most ≡ awake old)) c.self.view_is
    (rest c.self.inside.pool c.wake.new.pool c.lease-in-None.new.self c.self.inside.resting.items c.clear.new.self.items c.self.inside.most c.lease-in-None.result woken c.clear.ensures.items c.lease-in-None.ensures.unchanged)
