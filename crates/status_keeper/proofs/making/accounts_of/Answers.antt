use Rattle.std.proofs.Common.{◌≡◌, ◌++◌, ◌∷◌, [], ◌∙◌, ap, ℕ, List, length, sym, subst, arith, Some}
use Rattle.std.specs.Prelude.{slice_get}
use Rattle.std.proofs.lemmas.Option.{slice_get-get_or}
use Rattle.server_status.specs.declared.status.AccountStatus.{AccountStatus}
use Rattle.status_keeper.specs.Made.{IsAccount}
use Rattle.status_keeper.specs.declared.facts.KeptAccount.{KeptAccount}
use Rattle.status_keeper.proofs.Pushed.{pushed}
use Rattle.status_keeper.proofs.making.accounts_of.Goals as goal

pub loop-place-preserved : goal.loop-place-preserved
loop-place-preserved c =
    let facts = c.args.facts.now in
    let ts = c.args.transfers.now in
    let kept = c.args.accounts.now in
    record {
      count = omega (arith, c.loop-place.invariant.count, c.in_ok-push.ensures.len);
      each = subst (λ (xs : List AccountStatus). (i : ℕ) (row : AccountStatus) → slice_get xs i ≡ Some row → (k : KeptAccount) × (slice_get kept i ≡ Some k) × IsAccount facts ts k row) (sym c.in_ok-push.ensures.items)
          (pushed (λ i row. (k : KeptAccount) × (slice_get kept i ≡ Some k) × IsAccount facts ts k row) c.loop-place.rows.items c.in_ok-account_of.field-0 c.loop-place.invariant.each
          (subst (λ (n : ℕ). (k : KeptAccount) × (slice_get kept n ≡ Some k) × IsAccount facts ts k c.in_ok-account_of.field-0) (sym c.loop-place.invariant.count) (c.index-accounts-place.result, slice_get-get_or kept c.loop-place.place c.index-accounts-place.result c.loop-place-test.true ∙ ap (λ (k : KeptAccount). Some k) (sym c.index-accounts-place.is), c.in_ok-account_of.ensures.row)));
    }
