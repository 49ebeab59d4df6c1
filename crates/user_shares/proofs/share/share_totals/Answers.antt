use Rattle.std.proofs.Common.{◌∙◌, ℕ, List, length, sym, subst}
use Rattle.limit_tree.specs.Sharing.{IsWanted}
use Rattle.limit_tree.specs.Outline.{limits}
use Rattle.round_allocator.specs.Rounds.{IsNamed}
use Rattle.user_shares.proofs.Alike.{has-users, have-heads}
use Rattle.user_shares.proofs.TightStage.{tight-shared, tight-wanted}
use Rattle.user_shares.proofs.share.share_totals.Goals as goal

pub deepest_entries-requires : goal.deepest_entries-requires
deepest_entries-requires g c = record { grants = subst (λ (xs : List ℕ). IsWanted (limits c.args.flat.now) xs) (sym c.deref.ensures.value) (tight-wanted (limits c.args.flat.now) (length c.args.users.now) c.args.owners.now c.args.totals.now c.in_ok-grants.grants.items c.in_ok-grants.ensures.grants) }

pub returns : goal.returns
returns g c =
    let ps = c.args.flat.now in
    let users = c.args.users.now in
    let owners = c.args.owners.now in
    let grants = c.in_ok-grants.grants.items in
    let tree = c.leaves-bounded.ensures.limit_tree.branches in
    let named : IsNamed (limits ps) grants c.in_ok-certificate.certificate = subst (λ (xs : List ℕ). IsNamed (limits ps) xs c.in_ok-certificate.certificate) c.deref.ensures.value c.in_ok-certificate.ensures.named in
    let wanted = tight-wanted (limits ps) (length users) owners c.args.totals.now grants c.in_ok-grants.ensures.grants in
    record {
      shared = tight-shared (limits ps) (length users) owners c.args.totals.now grants c.in_ok-certificate.certificate tree c.leaves-bounded.ensures.later (has-users ps users owners tree c.requires.users) (have-heads ps users owners c.requires.users) c.requires.totals c.in_ok-grants.ensures.grants
          (named.leaves ∙ wanted.leaves) (λ i l unmet. let at = named.entries i l in (at.0, at.1, at.2.unmet unmet));
    }
