use Rattle.std.proofs.Common.{arith, ap, subst, sym, List, ℕ}
use Rattle.limit_tree.specs.Sharing.{IsWanted, IsWithin}
use Rattle.limit_tree.specs.Outline.{limits}
use Rattle.limit_tree.specs.declared.place.Place.{Place}
use Rattle.round_allocator.specs.Levels.{branch_count}
use Rattle.round_allocator.specs.Rounds.{HasBottlenecks, IsNamed}
use Rattle.round_allocator.specs.Order.{GivesInOrder}
use Rattle.round_allocator.proofs.Rooms.{bottlenecks-exhausted}
use Rattle.round_allocator.proofs.Names.{named-backed}
use Rattle.round_allocator.proofs.named.allot_counted.Goals as goal

pub deepest_entries-requires : goal.deepest_entries-requires
deepest_entries-requires g c =
    record { grants = subst (IsWanted (limits c.in_ok-flat.flat)) (sym c.deref.ensures.value) c.in_ok-grants.ensures.within.wanted }

pub returns-clause-within : goal.returns-clause-within
returns-clause-within g c =
    subst (λ (ps : List Place). IsWithin (limits ps) c.in_ok-grants.grants.items) c.in_ok-flat.ensures.of c.in_ok-grants.ensures.within

pub returns-clause-named : goal.returns-clause-named
returns-clause-named g c =
    subst (λ (ps : List Place). IsNamed (limits ps) c.in_ok-grants.grants.items c.in_ok-certificate.certificate) c.in_ok-flat.ensures.of
    (subst (λ (g : List ℕ). IsNamed (limits c.in_ok-flat.flat) g c.in_ok-certificate.certificate) c.deref.ensures.value c.in_ok-certificate.ensures.named)

pub returns-clause-counted : goal.returns-clause-counted
returns-clause-counted g c =
    omega (arith, ap (λ (ps : List Place). branch_count ps) c.in_ok-flat.ensures.of, c.in_ok-grants.ensures.counted, c.count.ensures.count)

pub returns-clause-exhausted : goal.returns-clause-exhausted
returns-clause-exhausted g c = bottlenecks-exhausted (limits c.args.tree.now) c.in_ok-grants.grants.items
    (subst (λ (ps : List Place). HasBottlenecks (limits ps) c.in_ok-grants.grants.items) c.in_ok-flat.ensures.of c.in_ok-grants.ensures.bottlenecks)

pub returns-clause-backed : goal.returns-clause-backed
returns-clause-backed g c =
    let grants = c.in_ok-grants.grants.items in
    named-backed (limits c.args.tree.now) grants c.in_ok-certificate.certificate c.leaves-leaves.ensures.later
    (subst (λ (ps : List Place). IsWithin (limits ps) grants) c.in_ok-flat.ensures.of c.in_ok-grants.ensures.within)
    (subst (λ (ps : List Place). HasBottlenecks (limits ps) grants) c.in_ok-flat.ensures.of c.in_ok-grants.ensures.bottlenecks)
    (subst (λ (ps : List Place). IsNamed (limits ps) grants c.in_ok-certificate.certificate) c.in_ok-flat.ensures.of
    (subst (λ (g : List ℕ). IsNamed (limits c.in_ok-flat.flat) g c.in_ok-certificate.certificate) c.deref.ensures.value c.in_ok-certificate.ensures.named))

pub returns-clause-best : goal.returns-clause-best
returns-clause-best g c =
    let grants = c.in_ok-grants.grants.items in
    let within = subst (λ (ps : List Place). IsWithin (limits ps) grants) c.in_ok-flat.ensures.of c.in_ok-grants.ensures.within in
    let backed =
    named-backed (limits c.args.tree.now) grants c.in_ok-certificate.certificate c.leaves-leaves.ensures.later
    (subst (λ (ps : List Place). IsWithin (limits ps) grants) c.in_ok-flat.ensures.of c.in_ok-grants.ensures.within)
    (subst (λ (ps : List Place). HasBottlenecks (limits ps) grants) c.in_ok-flat.ensures.of c.in_ok-grants.ensures.bottlenecks)
    (subst (λ (ps : List Place). IsNamed (limits ps) grants c.in_ok-certificate.certificate) c.in_ok-flat.ensures.of
    (subst (λ (g : List ℕ). IsNamed (limits c.in_ok-flat.flat) g c.in_ok-certificate.certificate) c.deref.ensures.value c.in_ok-certificate.ensures.named)) in
    c.backed_is_best.ensures.best (limits c.args.tree.now) grants c.in_ok-certificate.certificate c.leaves-leaves.ensures.limit_tree.branches within backed

pub returns-clause-order : goal.returns-clause-order
returns-clause-order g c =
    subst (λ (ps : List Place). GivesInOrder (limits ps) c.in_ok-grants.grants.items) c.in_ok-flat.ensures.of c.in_ok-grants.ensures.order
