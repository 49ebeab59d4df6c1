use Rattle.std.proofs.Common.{◌≡◌, ℕ, ◌<◌, ◌≤◌, true, false, List, vec_capacity, sym, ap, ◌∙◌, subst, arith}
use Rattle.std.specs.FinSet as set
use Rattle.passive_ports.specs.Ports.{Ports}
use Rattle.passive_ports.specs.Resting.{Resting, unleased, kept_ports, rests, rested}
use Rattle.passive_ports.proofs.Givings.{not_leased, is_resting, is_used, rests_more, keeps_more}
use Rattle.passive_ports.proofs.ports.RestingPorts.give_back.Goals as goal

pub returns-then-not-is_leased-clause-was_used : goal.returns-then-not-is_leased-clause-was_used
returns-then-not-is_leased-clause-was_used g c =
    subst (λ (old : Resting). false ≡ set.contains old.in_use c.args.port) c.self.view_is
    (sym (not_leased c.self.inside.pool c.self.inside.resting.items c.args.port (sym c.is_leased.ensures.leased ∙ c.if-not-is_leased.true)))

pub returns-then-rests-clause-was_used : goal.returns-then-rests-clause-was_used
returns-then-rests-clause-was_used g c =
    let rest : rests c.self.inside.resting.items c.args.port ≡ true =
    sym (c.rests.ensures.rests ∙ ap (λ (xs : List ℕ). rests xs c.args.port) c.deref.ensures.value) ∙ c.if-rests.true in
    subst (λ (old : Resting). false ≡ set.contains old.in_use c.args.port) c.self.view_is
    (sym (is_resting c.self.inside.pool c.self.inside.resting.items c.args.port rest))

pub invariant_of-self-2 : goal.invariant_of-self-2
invariant_of-self-2 g c =
    let awake : rests c.self.inside.resting.items c.args.port ≡ false =
    sym (c.rests.ensures.rests ∙ ap (λ (xs : List ℕ). rests xs c.args.port) c.deref.ensures.value) ∙ c.if-rests.false in
    let used : set.contains (unleased c.self.inside.pool c.self.inside.resting.items).leased c.args.port ≡ true =
    is_used c.self.inside.pool c.self.inside.resting.items c.args.port (sym c.is_leased.ensures.leased ∙ c.if-not-is_leased.false) awake in
    let same : vec_capacity c.push_reserved.new.self ≡ vec_capacity c.self.inside.resting = c.push_reserved.ensures.capacity ∙ c.make_room.ensures.capacity in
    keeps_more c.make_room.new.pool c.make_room.new.resting.items c.push_reserved.new.self.items c.self.inside.most (vec_capacity c.push_reserved.new.self) c.args.port
    c.make_room.ensures.room (subst (λ (n : ℕ). c.self.inside.most ≤ n) (sym same) c.self.invariant.has_room) c.push_reserved.ensures.items c.make_room.ensures.all
    (ap (λ (p : Ports). set.contains p.leased c.args.port) c.make_room.ensures.same ∙ used)

pub returns-clause-was_used : goal.returns-clause-was_used
returns-clause-was_used g c =
    let awake : rests c.self.inside.resting.items c.args.port ≡ false =
    sym (c.rests.ensures.rests ∙ ap (λ (xs : List ℕ). rests xs c.args.port) c.deref.ensures.value) ∙ c.if-rests.false in
    subst (λ (old : Resting). true ≡ set.contains old.in_use c.args.port) c.self.view_is
    (sym (is_used c.self.inside.pool c.self.inside.resting.items c.args.port (sym c.is_leased.ensures.leased ∙ c.if-not-is_leased.false) awake))

pub returns-clause-rested : goal.returns-clause-rested
returns-clause-rested g c h =
    let some : 0 < c.self.inside.most = omega arith in
    subst (λ (old : Resting). kept_ports c.make_room.new.pool c.push_reserved.new.self.items c.self.inside.most ≡ rested old c.args.port) c.self.view_is
    (rests_more c.self.inside.pool c.make_room.new.pool c.self.inside.resting.items c.make_room.new.resting.items c.push_reserved.new.self.items c.self.inside.most c.args.port some
    c.make_room.ensures.same c.make_room.ensures.kept c.push_reserved.ensures.items)
