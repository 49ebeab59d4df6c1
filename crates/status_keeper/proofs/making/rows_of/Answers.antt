use Rattle.std.proofs.Common.{◌≡◌, ◌++◌, ◌∷◌, [], ◌∙◌, ap, ℕ, List, length, sym, subst, arith, Some}
use Rattle.std.specs.Prelude.{slice_get}
use Rattle.std.proofs.lemmas.Option.{slice_get-get_or}
use Rattle.server_status.specs.declared.status.TransferStatus.{TransferStatus}
use Rattle.status_keeper.specs.Made.{IsRow}
use Rattle.status_keeper.specs.declared.facts.KeptTransfer.{KeptTransfer}
use Rattle.status_keeper.proofs.Pushed.{pushed}
use Rattle.status_keeper.proofs.making.rows_of.Goals as goal

pub loop-place-preserved : goal.loop-place-preserved
loop-place-preserved c =
    let facts = c.args.facts.now in
    let lanes = c.args.lanes.now in
    let ts = c.args.transfers.now in
    record {
      count = omega (arith, c.loop-place.invariant.count, c.in_ok-push.ensures.len);
      each = subst (λ (xs : List TransferStatus). (i : ℕ) (row : TransferStatus) → slice_get xs i ≡ Some row → (t : KeptTransfer) × (slice_get ts i ≡ Some t) × IsRow facts lanes t row) (sym c.in_ok-push.ensures.items)
          (pushed (λ i row. (t : KeptTransfer) × (slice_get ts i ≡ Some t) × IsRow facts lanes t row) c.loop-place.rows.items c.in_ok-row_of.field-0 c.loop-place.invariant.each
          (subst (λ (k : ℕ). (t : KeptTransfer) × (slice_get ts k ≡ Some t) × IsRow facts lanes t c.in_ok-row_of.field-0) (sym c.loop-place.invariant.count) (c.index-transfers-place.result, slice_get-get_or ts c.loop-place.place c.index-transfers-place.result c.loop-place-test.true ∙ ap (λ (t : KeptTransfer). Some t) (sym c.index-transfers-place.is), c.in_ok-row_of.ensures.row)));
    }
