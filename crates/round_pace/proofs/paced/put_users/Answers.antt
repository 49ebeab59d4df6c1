use Rattle.std.proofs.Common.{◌≡◌, ◌∙◌, ◌<◌, List, Bool, true, ap, refl, sym, arith, length, set}
use Rattle.round_pace.specs.Quiet.{is_full_user, mark_at}
use Rattle.round_pace.proofs.Marks.{marked_set, set_before}
use Rattle.round_pace.proofs.Placed.{users_more, users_quiet, users_there}
use Rattle.round_pace.proofs.paced.put_users.Goals as goal
use Rattle.round_pace.proofs.paced.put_users.Goals.{then-not-is_marked, else-not-is_marked}

pub loop-place-init : goal.loop-place-init
loop-place-init g c = record { offered = refl; full = λ k d lt m. (c.requires.marked k d lt m).0; later = λ k le. refl }

pub loop-place-preserved : goal.loop-place-preserved
loop-place-preserved g c =
    let before = c.loop-place.invariant in
    let place = c.loop-place.place in
    let within : place < length c.args.users.now = omega arith in
    elim c.if-not-is_marked.branch [
      | then-not-is_marked w ↦ (
          let marks = c.if-not-is_marked.marks.items in
          let new : marks ≡ set c.loop-place.marks.items place w.is_full_user.result = ap (λ v. v.items) w.marks-is ∙ w.set_mark.ensures.mark in
          record {
            offered = users_more c.args.down c.args.up c.args.groups.now c.args.offered.now c.loop-place.offered c.if-not-is_marked.offered c.args.users.now place _ w.handed_user.result within before.offered w.handed_user.ensures.row (w.offered-is ∙ w.put_user.ensures.put);
            full = marked_set (λ r. is_full_user r ≡ true) c.loop-place.marks.items marks place w.is_full_user.result c.args.users.now _ new (λ h. sym w.is_full_user.ensures.full ∙ h) before.full;
            later = λ k le. set_before c.loop-place.marks.items marks place k w.is_full_user.result new (omega (arith, le)) ∙ before.later k (omega (arith, le));
          })
      | else-not-is_marked w ↦ (
          let marks = c.if-not-is_marked.marks.items in
          let same : marks ≡ c.loop-place.marks.items = ap (λ v. v.items) w.marks-is in
          let here : mark_at c.loop-place.marks.items place ≡ true = ap (λ (ms : List Bool). mark_at ms place) (sym c.deref.ensures.value) ∙ (sym c.is_marked.ensures.mark ∙ w.if-not-is_marked.false) in
          let marked : mark_at c.args.marks.now.items place ≡ true = sym (before.later place (omega arith)) ∙ here in
          record {
            offered = users_there c.args.down c.args.up c.args.groups.now c.args.offered.now c.loop-place.offered c.if-not-is_marked.offered c.args.users.now place c.requires.rising within before.offered (λ d. (c.requires.marked c.loop-place.place d within marked).1 _ _) w.offered-is;
            full = λ k d lt m. before.full k d lt (sym (ap (λ (ms : List Bool). mark_at ms k) same) ∙ m);
            later = λ k le. ap (λ (ms : List Bool). mark_at ms k) same ∙ before.later k (omega (arith, le));
          })
    ]

pub returns-clause-marked : goal.returns-clause-marked
returns-clause-marked g c =
    let end : c.loop-place.place ≡ length c.args.users.now = omega arith in
    users_quiet c.args.down c.args.up c.args.groups.now c.args.offered.now c.loop-place.offered c.args.users.now c.loop-place.marks.items c.loop-place.place c.requires.rising c.requires.rows end c.loop-place.invariant.offered c.loop-place.invariant.full
