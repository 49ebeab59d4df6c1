use Rattle.std.proofs.Common.{rules, refl, ap, ◌∙◌}
use Rattle.lane_desk.specs.Seats.{seat_view}
use Rattle.transfer_worker.specs.declared.job.LaneJob.TheVariants.{Send, Take}
use Rattle.transfer_worker.specs.Transfers.{known}
use Rattle.transfer_worker.specs.Transfers.Flow.{Sending, Receiving}
use Rattle.transfer_worker.specs.Runs.{worker}
use Rattle.transfer_worker.proofs.Jobs.{opened, unopened, fault_is}
use Rattle.transfer_worker.proofs.transfer.run_job.Goals as goal

pub returns-in-Ok-clause-run : goal.returns-in-Ok-clause-run
returns-in-Ok-clause-run g c =
    let k = known g.R.Source.remaining g.K.Sink.collected g.K.Sink.target g.C.Read.remaining g.C.Write.contents in
    let j = c.in-Send in
    let e = c.in-Ok.ensures in
    let o = opened k g.G.Gate.may_want (Send j.user j.session j.source j.connection j.data_type) (Sending c.in-Ok.out) c.run_transfer.result _ _ refl
    (record { connection_is = e.connection.0; type_is = e.connection.1; room_is = e.room; more = e.connection.2; filled = e.filled; sending = λ before octets f h. e.sending before octets f h }) c.run_transfer.ensures.run in
    (o.0, o.1 ∙ search rules, o.2, o.3)

pub returns-in-Err-clause-run : goal.returns-in-Err-clause-run
returns-in-Err-clause-run g c =
    let k = known g.R.Source.remaining g.K.Sink.collected g.K.Sink.target g.C.Read.remaining g.C.Write.contents in
    let j = c.in-Send in
    let x = seat_view c.args.seat.now in
    let o = unopened k g.G.Gate.may_want (Send j.user j.session j.source j.connection j.data_type) c.open_end.result (worker x c.args.tally.now (g.G.Gate.heard c.args.gate.now) (g.G.Gate.passed c.args.gate.now))
    (worker x c.args.tally.now (g.G.Gate.heard c.done.new.self) (g.G.Gate.passed c.done.new.self)) (fault_is c.in-Err.fault c.open_end.result c.open_end.ensures.end) refl refl c.done.ensures.passed c.done.ensures.heard in
    (o.0, o.1 ∙ search rules, o.2, o.3)

pub returns-in-Ok-open-clause-run : goal.returns-in-Ok-open-clause-run
returns-in-Ok-open-clause-run g c =
    let k = known g.R.Source.remaining g.K.Sink.collected g.K.Sink.target g.C.Read.remaining g.C.Write.contents in
    let j = c.in-Take in
    let b = c.in-Ok-open.ensures.begun in
    let o = opened k g.G.Gate.may_want (Take j.user j.session j.connection j.sink j.data_type) (Receiving c.in-Ok-open.upload) c.run_transfer-in-Ok-open.result _ _ refl
    (record { connection_is = ap (λ u. u.flow.connection) b; sink_is = ap (λ u. u.flow.sink) b; type_is = ap (λ u. u.flow.data_type) b; held_is = ap (λ u. u.flow.held) b; more = ap (λ u. u.last) b }) c.run_transfer-in-Ok-open.ensures.run in
    (o.0, o.1 ∙ search rules, o.2, o.3)

pub returns-in-Err-open-clause-run : goal.returns-in-Err-open-clause-run
returns-in-Err-open-clause-run g c =
    let k = known g.R.Source.remaining g.K.Sink.collected g.K.Sink.target g.C.Read.remaining g.C.Write.contents in
    let j = c.in-Take in
    let x = seat_view c.args.seat.now in
    let o = unopened k g.G.Gate.may_want (Take j.user j.session j.connection j.sink j.data_type) c.open_end-in-Err-open.result (worker x c.args.tally.now (g.G.Gate.heard c.args.gate.now) (g.G.Gate.passed c.args.gate.now))
    (worker x c.args.tally.now (g.G.Gate.heard c.done-in-Err-open.new.self) (g.G.Gate.passed c.done-in-Err-open.new.self)) (fault_is c.in-Err-open.fault c.open_end-in-Err-open.result c.open_end-in-Err-open.ensures.end) refl refl c.done-in-Err-open.ensures.passed c.done-in-Err-open.ensures.heard in
    (o.0, o.1 ∙ search rules, o.2, o.3)
