use Rattle.std.proofs.Common.{ℕ, subst}
use Rattle.atomic_table.specs.Seated.{TableId}
use Rattle.lane_desk.specs.Open.{AreFresh}
use Rattle.lane_desk.specs.Seats.{desk_id}
use Rattle.ftp_daemon.proofs.server.lend_line.Goals as goal

pub lend-requires-clause-seats : goal.lend-requires-clause-seats
lend-requires-clause-seats g c =
    let named = c.requires.desk in
    let line = c.args.line in
    subst (λ (z : TableId). AreFresh z g.B.PartsName.lanes line.seats.items) named.0
    (subst (λ (n : ℕ). AreFresh (desk_id line.desk) n line.seats.items) named.1 line.fresh)
