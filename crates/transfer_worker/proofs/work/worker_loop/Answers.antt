use Rattle.std.proofs.Common.{[], ◌∷◌, ◌++◌, refl, sym, ap, ◌∙◌, subst}
use Rattle.std.proofs.lemmas.List.Elements.{All-nil, All-push}
use Rattle.grant_ledger.specs.Books.{TallyView}
use Rattle.lane_desk.specs.declared.seat.LaneSeat.{LaneSeat}
use Rattle.lane_desk.specs.Seats.{seat_view}
use Rattle.transfer_worker.specs.Order.{hand}
use Rattle.transfer_worker.specs.Boards.{done_by}
use Rattle.transfer_worker.specs.declared.end.LoopEnd.TheVariants.{Stopped}
use Rattle.transfer_worker.specs.Transfers.{known}
use Rattle.transfer_worker.specs.Runs.{worker}
use Rattle.transfer_worker.specs.Works.{NotStopped, Works}
use Rattle.transfer_worker.proofs.Jobs.{none_done, more_done}
use Rattle.transfer_worker.proofs.work.worker_loop.Goals as goal

pub loop-preserved : goal.loop-preserved
loop-preserved g c =
    let i = c.loop.invariant in
    let e = c.if-run_job.ensures in
    let r = e.run in
    let p = c.in-Some-pop.ensures.popped in
    let b = c.pop.ensures.board in
    let h = done_by c.loop.pass in
    let works = i.6.0 in (
      tt,
      tt,
      (e.same.0 ∙ i.2.0, e.same.1 ∙ i.2.1),
      (b.0 ∙ i.3.0, b.1 ∙ i.3.1),
      e.reported,
      e.free refl,
      (
        works ++ r.0 ∷ [],
        All-push NotStopped works r.0 i.6.1 r.2,
        more_done _ _ works r.0 (done_by c.args.pass.now) h (done_by c.pop.new.pass) _ _ _ i.6.2 (p.0 ∙ ap (λ j. hand h.pushed (h.popped ++ j ∷ [])) (sym r.1)) r.3,
      ),
    )

pub loop-init : goal.loop-init
loop-init g c = (
  tt,
  tt,
  (refl, refl),
  (refl, refl),
  c.parts-seat.ensures.reported,
  ap (λ s. (seat_view s).state) c.parts-seat.ensures.parts.0 ∙ c.requires.state,
  ([], All-nil NotStopped, none_done _ _ (done_by c.args.pass.now) _),
)

pub returns-then-run_job-clause-works : goal.returns-then-run_job-clause-works
returns-then-run_job-clause-works g c =
    let k = known g.R.Source.remaining g.K.Sink.collected g.K.Sink.target g.C.Read.remaining g.C.Write.contents in
    let i = c.loop.invariant in
    let r = c.if-run_job.ensures.run in
    let p = c.in-Some-pop.ensures.popped in
    let h = done_by c.loop.pass in
    let works = i.6.0 in
    let a = c.parts-seat.ensures.parts in
    let z = c.new-then-run_job.ensures.parts in
    subst (λ (s : (LaneSeat g.row.N.Denot × TallyView) × (LaneSeat g.row.N.Denot × TallyView)). Works k g.G.Gate.may_want Stopped (done_by c.args.pass.now) (done_by c.pop.new.pass)
    (worker (seat_view s.0.0) s.0.1 (g.G.Gate.heard c.args.gate.now) (g.G.Gate.passed c.args.gate.now))
    (worker (seat_view s.1.0) s.1.1 (g.G.Gate.heard c.run_job.new.gate) (g.G.Gate.passed c.run_job.new.gate)))
    (λ q. ((a.0 q, a.1 q), (sym z.0 q, sym z.1 q))) (
      works ++ r.0 ∷ [],
      (works, r.0, refl, i.6.1, r.2),
      more_done k g.G.Gate.may_want works r.0 (done_by c.args.pass.now) h (done_by c.pop.new.pass) _ _ _ i.6.2 (p.0 ∙ ap (λ j. hand h.pushed (h.popped ++ j ∷ [])) (sym r.1)) r.3,
    )
