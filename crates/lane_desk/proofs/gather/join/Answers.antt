use Rattle.std.proofs.Common.{rules, ap, ◌∙◌, sym, subst}
use Rattle.atomic_table.specs.Table.{Joins}
use Rattle.desk_rule.specs.Lanes.{taken_in}
use Rattle.desk_rule.specs.Steps.{Ran}
use Rattle.desk_rule.specs.declared.view.DeskView.TheVariants.{Spent}
use Rattle.lane_desk.proofs.Taking.{held_none, joins_of}
use Rattle.lane_desk.proofs.gather.join.Goals as goal

pub join_seat-requires : goal.join_seat-requires
join_seat-requires g c =
    let s = c.args.seat in
    let r = c.args.round.now in (
      search rules,
      search rules,
      ap (λ q. q.me.1) c.into_seat.ensures.seat ∙ held_none _ s.lane s.state (λ e. c.requires.state (s.knows.1 ∙ e)) s.knows.2,
      search rules,
      subst (λ q. Joins Ran r.seat.id r.seat.me.0 q.id q.me.0 (taken_in r.seat.me.0 q.me.0) Spent) (sym c.into_seat.ensures.seat) (joins_of _ _ r.lanes r.held _ _ s.lane s.state r.knows s.knows c.requires.seat.1),
    )
