use Rattle.std.proofs.Common.{rules, arith, ◌≡◌, ◌++◌, [], ◌∷◌, List, ap, append_assoc, sym, subst, ◌∙◌, length, length-append}
use Rattle.lane_desk.specs.declared.worked.Worked.{Worked}
use Rattle.lane_desk.specs.Workers.{AreWorkers}
use Rattle.lane_desk.specs.Seats.{desk_id}
use Rattle.lent_parts.proofs.Gathering.{worker_more}
use Rattle.ftp_daemon.proofs.Lists.{next_at}
use Rattle.ftp_daemon.proofs.settling.gather_fresh.Goals as goal

pub loop-seat-preserved : goal.loop-seat-preserved
loop-seat-preserved g c =
    let l = c.loop-seat in
    let k = l.invariant in
    let w = c.new.result in
    let here : l.yielded ++ c.in-Some.seat ∷ c.next.new.self.rest.items ≡ c.args.seats.items = search rules in
    let fresh = c.requires.seats.1 (length l.yielded) c.in-Some.seat (next_at c.args.seats.items l.yielded c.next.new.self.rest.items c.in-Some.seat here) in (
      append_assoc l.yielded (c.in-Some.seat ∷ []) c.next.new.self.rest.items ∙ here,
      omega (arith, ap length c.push_reserved.ensures.items, length-append l.gathered.items (w ∷ []), length-append l.yielded (c.in-Some.seat ∷ []), k.1),
      search rules,
      search rules,
      subst (λ (ws : List (Worked g.row.N.Denot)). AreWorkers (desk_id c.args._desk.now) (length ws) ws) (sym c.push_reserved.ensures.items)
          (worker_more (desk_id c.args._desk.now) l.gathered.items w k.4 (ap (λ s. s.lane) c.new.ensures.parts.0 ∙ fresh.0 ∙ sym k.1) (ap (λ s. s.seat.table_id) c.new.ensures.parts.0 ∙ fresh.1)),
    )
