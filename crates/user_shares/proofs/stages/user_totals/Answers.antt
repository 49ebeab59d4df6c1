use Rattle.std.proofs.Common.{arith, ◌≡◌, ◌∙◌, ℕ, List, length, sym, ap, subst}
use Rattle.std.specs.Prelude.{slice_index}
use Rattle.round_allocator.proofs.Pours.{back}
use Rattle.user_shares.specs.Stages.{AreTotals}
use Rattle.user_shares.proofs.stages.user_totals.Goals as goal

pub add_totals-requires-clause-few : goal.add_totals-requires-clause-few
add_totals-requires-clause-few g c = λ i l. omega (arith, c.requires.few i l, c.in_ok-totals.ensures.each)

pub add_totals-requires-clause-none : goal.add_totals-requires-clause-none
add_totals-requires-clause-none g c = λ u l.
    let value = c.deref_mut.ensures.value in
    subst (λ (xs : List ℕ). slice_index xs u ≡ 0) (sym value) (c.in_ok-totals.ensures.none u (omega (arith, l, ap (λ (xs : List ℕ). length xs) value, c.in_ok-totals.ensures.each)))

pub returns : goal.returns
returns g c =
    let items = c.in_ok-totals.totals.items in
    let new = c.add_totals.new.totals in
    let size = ap (λ (xs : List ℕ). length xs) c.deref_mut.ensures.value in
    let whole : length new ≡ length items = c.add_totals.ensures.totals.each ∙ size in
    let len : c.in_ok-totals.totals.len ≡ length items = sym c.deref_mut.ensures.len ∙ size in
    let same = back c.in_ok-totals.totals.len new items whole len in
    record {
      totals = subst (λ (xs : List ℕ). AreTotals c.args.users c.args.owners.now c.args.grants.now xs) (sym same)
          (subst (λ (n : ℕ). AreTotals n c.args.owners.now c.args.grants.now new) (size ∙ c.in_ok-totals.ensures.each) c.add_totals.ensures.totals);
    }
