use Rattle.std.proofs.Common.{rules, refl, subst, ◌≡◌, Some}
use Rattle.std.specs.Prelude.{slice_get}
use Rattle.config_report.specs.Looks.{IsRowOf}
use Rattle.config_report.proofs.Pushed.{at_place, pushed}
use Rattle.config_report.proofs.seen.rows_seen.Goals as goal

pub loop-place-preserved : goal.loop-place-preserved
loop-place-preserved g c =
    let user = at_place c.args.users.now _ c.loop-place.place c.index-users-place.result _ c.loop-place.invariant.count (search rules) c.index-users-place.is in
    let rules_of = at_place c.args.overrides.now _ c.loop-place.place c.index-overrides-place.result _ c.loop-place.invariant.count (search rules) c.index-overrides-place.is in
    record {
      count = search rules;
      each = λ i row is.
          pushed (λ j r. IsRowOf (g.L.Lookout.Shows c.args.lookout.now) c.args.store.now c.args.users.now c.args.overrides.now j r) c.loop-place.rows.items _ c.loop-place.invariant.each (c.index-users-place.result, c.index-overrides-place.result, user, rules_of, refl, search rules, search rules) i row
          (subst (λ xs. slice_get xs i ≡ Some row) c.in_ok-push.ensures.items is);
      same = search rules;
    }
