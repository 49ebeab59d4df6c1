use Rattle.std.proofs.Common.{◌≡◌, ℕ, List, length, sym, subst}
use Rattle.limit_tree.specs.Outline.{limits}
use Rattle.limit_tree.specs.Sharing.{IsWithin}
use Rattle.grant_certificate.specs.Users.{HasUsers, IsBackedByUsers, IsBestByUsers}
use Rattle.depth_users.proofs.share.allot_at.Goals as goal

pub returns-clause-shared : goal.returns-clause-shared
returns-clause-shared g c =
    let ps = c.args.tree.now in
    let t = limits ps in
    let owners = c.in_ok-owners.owners.items in
    let grants = c.in_ok-grants.grants.items in
    let entries = c.in_ok-certificate.certificate in
    let owned : c.deref-3.result.now ≡ owners = c.deref-3.ensures.value in
    let granted : c.deref-4.result.now ≡ grants = c.deref-4.ensures.value in
    let both = c.check_by_users.ensures.exact.0 c.if-not-check_by_users.false in
    let users : HasUsers t (length ps) c.deref-3.result.now = subst (λ (xs : List ℕ). HasUsers t (length ps) xs) (sym owned) c.in_ok-owners.ensures.users in
    let best = c.check_by_users.ensures.best c.if-not-check_by_users.false (length ps) users in
    record {
      owners = owners;
      are_owners = c.in_ok-owners.ensures.owners;
      within = subst (λ (gs : List ℕ). IsWithin t gs) granted both.0;
      backed = subst (λ (gs : List ℕ). IsBackedByUsers t owners gs entries) granted (subst (λ (xs : List ℕ). IsBackedByUsers t xs c.deref-4.result.now entries) owned both.1);
      best = subst (λ (gs : List ℕ). IsBestByUsers t (length ps) owners gs) granted (subst (λ (xs : List ℕ). IsBestByUsers t (length ps) xs c.deref-4.result.now) owned best);
    }
