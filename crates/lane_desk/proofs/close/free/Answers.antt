use Rattle.std.proofs.Common.{ap, ◌∙◌, sym, subst}
use lib.ListN.{get_elem?}
use Rattle.std.specs.Mem.Slots.{slots_items}
use Rattle.atomic_table.specs.Table.{Final, Seen}
use Rattle.desk_rule.specs.Steps.{Ran}
use Rattle.desk_rule.proofs.Keeps.{at_length}
use Rattle.lane_desk.proofs.Closing.{no_grant_at}
use Rattle.lane_desk.proofs.close.free.Goals as goal

pub unreachable-requires : goal.unreachable-requires
unreachable-requires g c =
    let r = c.args.round in
    let at = ap (λ l. get_elem? l c.loop-i.i) (sym c.loop-i.invariant.2) ∙ c.take.ensures.value in
    let fin = subst (λ q. Final (Seen Ran q.id q.me.0) (slots_items c.close_with-closed.result.words) (slots_items c.close_with-closed.result.slots)) c.into_seat.ensures.seat c.close_with-closed.ensures.values.2 in
    no_grant_at r.seat.id r.seat.me r.lanes r.held r.knows c.requires.round.1 c.requires.settled _ _ fin c.loop-i.i (at_length _ c.loop-i.i c.take.result at) c.take.result at c.in_default.field-0 c.in_default.is
