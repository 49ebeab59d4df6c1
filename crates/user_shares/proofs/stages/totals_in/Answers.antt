use Rattle.std.proofs.Common.{arith, ◌≡◌, ◌∙◌, ◌<◌, ◌^◌, ℕ, List, length, sum, sym, ap, subst}
use Rattle.limit_tree.specs.Outline.{limits}
use Rattle.grant_certificate.proofs.FitsTree.{within-fits}
use Rattle.user_shares.specs.Stages.{AreTotals}
use Rattle.user_shares.proofs.stages.totals_in.Goals as goal

pub user_totals-requires-clause-owners : goal.user_totals-requires-clause-owners
user_totals-requires-clause-owners g c =
    omega (arith, c.requires.owners, c.in_ok-shared.ensures.within.wanted.leaves, ap (λ (xs : List ℕ). length xs) c.deref.ensures.value)

pub user_totals-requires-clause-fits : goal.user_totals-requires-clause-fits
user_totals-requires-clause-fits g c =
    let t = limits c.args.tree.now in
    let few : sum t.wants < 2 ^ 64 = omega (arith, c.leaves-bounded.ensures.octets, c.leaves-bounded.ensures.most) in
    subst (λ (xs : List ℕ). sum xs < 2 ^ 64) (sym c.deref.ensures.value) (within-fits t c.in_ok-shared.shared.0.items c.in_ok-shared.ensures.within few)

pub returns : goal.returns
returns g c = record {
  found = record {
    grants = c.in_ok-shared.shared.0.items;
    entries = c.in_ok-shared.shared.1;
    within = c.in_ok-shared.ensures.within;
    backed = c.in_ok-shared.ensures.backed;
    sums = subst (λ (xs : List ℕ). AreTotals c.args.users c.args.owners.now xs c.in_ok-totals.totals.items) c.deref.ensures.value c.in_ok-totals.ensures.totals;
  };
}
