use Rattle.std.proofs.Common.{◌≡◌, ◌++◌, ◌∷◌, [], ◌∙◌, ap, ℕ, List, length, sym, subst, arith, Some}
use Rattle.std.specs.Prelude.{slice_get}
use Rattle.std.proofs.lemmas.Option.{slice_get-get_or}
use Rattle.server_status.specs.declared.status.GroupStatus.{GroupStatus}
use Rattle.status_keeper.specs.Made.{IsGroup}
use Rattle.status_keeper.specs.declared.facts.StatedGroup.{StatedGroup}
use Rattle.status_keeper.proofs.Pushed.{pushed}
use Rattle.status_keeper.proofs.making.groups_of.Goals as goal

pub loop-place-preserved : goal.loop-place-preserved
loop-place-preserved c =
    let rates = c.args.limits.now in
    let sessions = c.args.sessions.now in
    let stated = c.args.stated.now in
    record {
      count = omega (arith, c.loop-place.invariant.count, c.in_ok-push.ensures.len);
      each = subst (λ (xs : List GroupStatus). (i : ℕ) (g : GroupStatus) → slice_get xs i ≡ Some g → (s : StatedGroup) × (slice_get stated i ≡ Some s) × IsGroup rates sessions s g) (sym c.in_ok-push.ensures.items)
          (pushed (λ i g. (s : StatedGroup) × (slice_get stated i ≡ Some s) × IsGroup rates sessions s g) c.loop-place.groups.items c.in_ok-group_of.field-0 c.loop-place.invariant.each
          (subst (λ (k : ℕ). (s : StatedGroup) × (slice_get stated k ≡ Some s) × IsGroup rates sessions s c.in_ok-group_of.field-0) (sym c.loop-place.invariant.count) (c.index-stated-place.result, slice_get-get_or stated c.loop-place.place c.index-stated-place.result c.loop-place-test.true ∙ ap (λ (s : StatedGroup). Some s) (sym c.index-stated-place.is), c.in_ok-group_of.ensures.group)));
    }
