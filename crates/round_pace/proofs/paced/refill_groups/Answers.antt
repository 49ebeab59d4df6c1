use Rattle.std.proofs.Common.{◌≡◌, ◌<◌, ap, ◌∙◌, sym, subst, arith, length, slice_set, true}
use Rattle.std.proofs.lemmas.List.Edits.{map_over_more}
use Rattle.std.proofs.lemmas.List.Elements.{All-set}
use Rattle.std.specs.List.{All}
use Rattle.round_pace.specs.Offered.{refill_group}
use Rattle.round_pace.specs.Paced.{IsGroupPace}
use Rattle.round_pace.specs.Quiet.{mark_at}
use Rattle.round_pace.proofs.Marks.{map_over_same}
use Rattle.round_pace.proofs.paced.refill_groups.Goals as goal
use Rattle.round_pace.proofs.paced.refill_groups.Goals.{then-not-is_marked, else-not-is_marked}

pub loop-place-preserved : goal.loop-place-preserved
loop-place-preserved g c =
    let within : c.loop-place.place < length c.args.groups.now.items = omega arith in
    elim c.if-not-is_marked.branch [
      | then-not-is_marked w ↦ (
          let new : c.if-not-is_marked.groups.items ≡ slice_set c.loop-place.groups.items c.loop-place.place w.refill_group.result = ap (λ v. v.items) w.groups-is in
          record {
            rows = new ∙ (ap (slice_set c.loop-place.groups.items c.loop-place.place) w.refill_group.ensures.group
                ∙ map_over_more (refill_group c.args.begun c.args.tick) c.args.groups.now.items c.loop-place.groups.items c.loop-place.place w.index.result.now within c.loop-place.invariant.rows w.index.ensures);
            paces = subst (All IsGroupPace) (sym new) (All-set IsGroupPace c.loop-place.groups.items c.loop-place.place w.refill_group.result w.refill_group.ensures.fits c.loop-place.invariant.paces);
          })
      | else-not-is_marked w ↦ (
          let same : c.if-not-is_marked.groups.items ≡ c.loop-place.groups.items = ap (λ v. v.items) w.groups-is in
          let marked : mark_at c.args.marks.now c.loop-place.place ≡ true = sym c.is_marked.ensures.mark ∙ w.if-not-is_marked.false in
          record {
            rows = same ∙ map_over_same (refill_group c.args.begun c.args.tick) c.args.groups.now.items c.loop-place.groups.items c.args.marks.now c.loop-place.place within c.loop-place.invariant.rows c.requires.marked marked;
            paces = subst (All IsGroupPace) (sym same) c.loop-place.invariant.paces;
          })
    ]
