use Rattle.std.proofs.Common.{List, ℕ, Some, subst, sym}
use Rattle.limit_tree.specs.Outline.{limits}
use Rattle.grant_certificate.specs.Sealing.{IsSealed}
use Rattle.grant_certificate.specs.Users.{HasUsers}
use Rattle.grant_certificate.proofs.sealed.are_sealed.Goals as goal

pub returns-clause-sealed : goal.returns-clause-sealed
returns-clause-sealed g c = λ told.
    let both = c.check_by_users.ensures.exact.0 told in
    let users = c.requires.users.0 in
    let has : HasUsers (limits c.args.tree.now) users c.deref.result.now = subst (λ (xs : List ℕ). HasUsers (limits c.args.tree.now) users xs) (sym c.deref.ensures.value) c.requires.users.1 in
    let sealed : IsSealed c.args.tree.now (Some c.deref.result.now) c.deref-2.result.now c.args.certificate.now =
    record {
      within = both.0;
      backed = both.1;
      best = ((users, has), c.check_by_users.ensures.best told);
    } in
    subst (λ (xs : List ℕ). IsSealed c.args.tree.now (Some c.args.owners.now.items) xs c.args.certificate.now) c.deref-2.ensures.value
    (subst (λ (xs : List ℕ). IsSealed c.args.tree.now (Some xs) c.deref-2.result.now c.args.certificate.now) c.deref.ensures.value sealed)
