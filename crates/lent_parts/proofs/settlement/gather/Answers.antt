use Rattle.std.proofs.Common.{rules, ◌≡◌, ◌∙◌, ◌+◌, ◌≤◌, List, length, ap, sym, subst}
use Rattle.std.specs.Prelude.{vec_capacity, vec_len}
use Rattle.grant_ledger.specs.Books.{TallyView}
use Rattle.lane_desk.specs.declared.seat.LaneSeat.{LaneSeat}
use Rattle.lane_desk.specs.declared.worked.Worked.{Worked}
use Rattle.lane_desk.specs.Workers.{AreWorkers}
use Rattle.lent_parts.proofs.Gathering.{worker_more, moved_passed}
use Rattle.lent_parts.proofs.settlement.gather.Goals as goal

pub loop-worker-preserved : goal.loop-worker-preserved
loop-worker-preserved g c =
    let k = c.loop-worker.invariant in
    let w = c.into_worked.ensures.seat in
    let all : vec_len c.loop-worker.gathered ≡ length c.loop-worker.gathered.items = search rules in
    let first : length c.push_reserved.new.self.items + length c.pop.new.self.items ≤ vec_capacity c.push_reserved.new.self = search rules in (
      first,
      subst (λ (ws : List (Worked g.row.N.Denot)). AreWorkers g.B.PartsName.desk (length ws) ws) (sym c.push_reserved.ensures.items)
          (worker_more g.B.PartsName.desk c.loop-worker.gathered.items c.into_worked.result k.1
          (ap (λ (s : LaneSeat g.row.N.Denot). s.lane) w.0 ∙ sym c.lane.ensures.lane ∙ c.if-lane-len.true ∙ c.len.ensures ∙ all) w.1.0),
      moved_passed c.loop-worker.gathered.items c.push_reserved.new.self.items c.into_worked.result c.loop-worker.workers.items c.pop.new.self.items c.in-Some.worker _
          c.push_reserved.ensures.items c.in-Some.ensures.items (ap (λ (t : TallyView). t.moved) c.into_worked.ensures.tally) k.2,
    )
