use Rattle.std.proofs.Common.{◌≡◌, ◌++◌, ◌∷◌, [], ◌∙◌, ap, ℕ, List, length, sym, subst, arith, Some}
use Rattle.std.specs.Prelude.{slice_get}
use Rattle.std.proofs.lemmas.Option.{slice_get-get_or}
use Rattle.server_status.specs.declared.status.SessionStatus.{SessionStatus}
use Rattle.status_keeper.specs.Made.{IsSession}
use Rattle.status_keeper.specs.declared.facts.KeptSession.{KeptSession}
use Rattle.status_keeper.proofs.Pushed.{pushed}
use Rattle.status_keeper.proofs.making.sessions_of.Goals as goal

pub loop-place-preserved : goal.loop-place-preserved
loop-place-preserved c =
    let facts = c.args.facts.now in
    let ts = c.args.transfers.now in
    let now = c.args.now in
    let kept = c.args.sessions.now in
    record {
      count = omega (arith, c.loop-place.invariant.count, c.in_ok-push.ensures.len);
      each = subst (λ (xs : List SessionStatus). (i : ℕ) (row : SessionStatus) → slice_get xs i ≡ Some row → (k : KeptSession) × (slice_get kept i ≡ Some k) × IsSession facts ts now k row) (sym c.in_ok-push.ensures.items)
          (pushed (λ i row. (k : KeptSession) × (slice_get kept i ≡ Some k) × IsSession facts ts now k row) c.loop-place.rows.items c.in_ok-session_of.field-0 c.loop-place.invariant.each
          (subst (λ (n : ℕ). (k : KeptSession) × (slice_get kept n ≡ Some k) × IsSession facts ts now k c.in_ok-session_of.field-0) (sym c.loop-place.invariant.count) (c.index-sessions-place.result, slice_get-get_or kept c.loop-place.place c.index-sessions-place.result c.loop-place-test.true ∙ ap (λ (k : KeptSession). Some k) (sym c.index-sessions-place.is), c.in_ok-session_of.ensures.row)));
    }
