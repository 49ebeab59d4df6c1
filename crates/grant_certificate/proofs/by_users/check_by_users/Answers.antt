use Rattle.std.proofs.Common.{◌∙◌, ℕ, List, Option, sym, subst}
use Rattle.std.proofs.lemmas.Bool.{false≢true}
use Rattle.limit_tree.specs.Outline.{limits}
use Rattle.grant_certificate.specs.Users.{IsBackedByUsers}
use Rattle.grant_certificate.proofs.UserChecks.{verdict-within}
use Rattle.grant_certificate.proofs.UserInside.{by-users-best}
use Rattle.grant_certificate.proofs.by_users.check_by_users.Goals as goal

pub returns-then-not-keeps_limits-clause-exact : goal.returns-then-not-keeps_limits-clause-exact
returns-then-not-keeps_limits-clause-exact g c =
    let t = limits c.args.tree.now in
    let exact = verdict-within t c.args.grants.now c.args.certificate.now c.check.result c.check.ensures.verdict in (
      λ told. absurd (false≢true told),
      λ both. absurd (false≢true (sym c.if-not-keeps_limits.true ∙ (c.keeps_limits.ensures.kept ∙ exact.1 ((both.0.wanted.leaves, both.1.leaves), both.0)))),
    )

pub returns-clause-best : goal.returns-clause-best
returns-clause-best g c = λ told users has.
    let t = limits c.args.tree.now in
    let exact = verdict-within t c.args.grants.now c.args.certificate.now c.check.result c.check.ensures.verdict in
    let within = (exact.0 (sym c.keeps_limits.ensures.kept ∙ c.if-not-keeps_limits.false)).1 in
    let backed : IsBackedByUsers t c.args.owners.now c.args.grants.now c.args.certificate.now = subst (λ (xs : List (Option ℕ)). IsBackedByUsers t c.args.owners.now c.args.grants.now xs) c.entries-entries.ensures.entries (c.are_backed_within.ensures.backed.0 told) in
    by-users-best t users c.args.owners.now c.args.grants.now c.args.certificate.now c.leaves-leaves.ensures.limit_tree.branches has within backed
