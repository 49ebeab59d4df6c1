use Rattle.std.proofs.Common.{◌≡◌, ℕ, List, subst}
use Rattle.std.specs.Prelude.{◌↔◌, IsTrue}
use Rattle.grant_certificate.specs.Users.{HasUsers, IsBackedByUsers, IsBestByUsers}
use Rattle.limit_tree.specs.Outline.{limits}
use Rattle.limit_tree.specs.Sharing.{IsWithin}
use Rattle.limit_tree.specs.declared.place.Place.{Place}
use Rattle.round_allocator.specs.Rounds.{IsNamed}
use Rattle.sheet_commands.proofs.Ruled.{judged_at}
use Rattle.sheet_commands.proofs.check_users.are_best.Goals as goal

pub returns : goal.returns
returns g c =
    let t = limits c.args.tree.now in
    let grants = c.args.grants.now in
    let owners = c.in_ok-owners.owners.items in
    let entries = c.in_ok-certificate.certificate in
    let told = c.check_by_users-best.result in
    let owned : c.deref.result.now ≡ owners = c.deref.ensures.value in
    let named = subst (λ (o : List Place). IsNamed (limits o) grants entries) c.in_ok-flat.ensures.of c.in_ok-certificate.ensures.named in
    let exact = subst (λ (xs : List ℕ). IsTrue told ↔ (IsWithin t grants × IsBackedByUsers t xs grants entries)) owned c.check_by_users-best.ensures.exact in
    let best = subst (λ (xs : List ℕ). IsTrue told → (users : ℕ) → HasUsers t users xs → IsBestByUsers t users xs grants) owned c.check_by_users-best.ensures.best in
    record {
      judged = judged_at c.deepest_is_backed.ensures.backed c.args.tree.now c.args.depth owners grants entries told c.in_ok-owners.ensures.owners c.in_ok-owners.ensures.users c.leaves-leaves.ensures.later c.requires.within named exact best;
    }
