use Rattle.std.proofs.Common.{rules, ℕ, [], ◌∷◌, length, sum, inl, inr, refl, sym, ap, ◌∙◌, subst}
use Rattle.std.specs.Prelude.{Some}
use Rattle.std.proofs.lemmas.List.Elements.{All-nil, All-push}
use Rattle.lane_desk.specs.Seats.{seat_view}
use Rattle.transfer_worker.specs.declared.gate.Go.TheVariants.{Stop}
use Rattle.transfer_worker.specs.Ends.{end_of}
use Rattle.transfer_worker.specs.Passes.{calls_until}
use Rattle.transfer_worker.specs.Transfers.{known, flow_of, way_in}
use Rattle.transfer_worker.specs.Runs.{worker, Turn, Halt, calls_in, calls_at, looks_at, Adds, Bears}
use Rattle.transfer_worker.specs.Runs.Halt.{BeforeAsk, AfterAsk}
use Rattle.transfer_worker.proofs.Adding.{passes_are, adds_still}
use Rattle.transfer_worker.proofs.Steps.{adds_turn, adds_open, adds_stop}
use Rattle.transfer_worker.proofs.Sittings.{Sits, begins, turn_more, ended, stopped, not_more, only_more, pumps_last, topped_last}
use Rattle.transfer_worker.proofs.transfer.run_transfer.Goals as goal

pub loop-init : goal.loop-init
loop-init g c =
    let k = known g.R.Source.remaining g.K.Sink.collected g.K.Sink.target g.C.Read.remaining g.C.Write.contents in
    let x = seat_view c.args.seat.now in
    let y = seat_view c.sit.new.self in (
      tt,
      tt,
      c.sit.ensures.same,
      refl,
      refl,
      c.requires.more,
      c.requires.reported ∙ sym (ap (λ v. sum v.taken) c.sit.ensures.view),
      refl,
      ap (λ v. v.state) c.sit.ensures.view,
      begins k g.G.Gate.may_want c.args.transfer.user c.args.transfer.session (flow_of c.args.transfer.running) x y c.args.tally.now (g.G.Gate.heard c.args.gate.now) (g.G.Gate.passed c.args.gate.now) c.args.transfer.moved c.sit.ensures.view c.requires.begun,
    )

pub done-requires : goal.done-requires
done-requires g c = record { condition = c.into_ran.ensures.ends _ _ (inr (refl, c.loop.invariant.5, search rules)) }

pub returns-then-not-may_ask-clause-run : goal.returns-then-not-may_ask-clause-run
returns-then-not-may_ask-clause-run g c =
    let k = known g.R.Source.remaining g.K.Sink.collected g.K.Sink.target g.C.Read.remaining g.C.Write.contents in
    let user = c.args.transfer.user in let session = c.args.transfer.session in let start = flow_of c.args.transfer.running in
    let v = worker (seat_view c.args.seat.now) c.args.tally.now (g.G.Gate.heard c.args.gate.now) (g.G.Gate.passed c.args.gate.now) in
    let i = c.loop.invariant in
    let now = flow_of c.loop.transfer.running in
    let moved = c.loop.transfer.moved in
    let m = c.if-not-may_ask.ensures.passed in
    let e = c.rise.ensures.view in
    let q = g.G.Gate.passed c.loop.gate in
    let r = g.G.Gate.passed c.may_ask.new.gate in
    let x = seat_view c.loop.seat in
    let w = worker x c.loop.tally (g.G.Gate.heard c.loop.gate) q in
    let u = worker x c.loop.tally (g.G.Gate.heard c.may_ask.new.gate) r in
    let z = worker (seat_view c.rise.new.self) c.loop.tally (g.G.Gate.heard c.done.new.self) (g.G.Gate.passed c.done.new.self) in
    let p = passes_are q r (calls_until c.loop.transfer.session moved Stop m.0) (calls_until session moved Stop m.0) (ap (λ (n : ℕ). calls_until n moved Stop m.0) i.4) m.1 in
    stopped k g.G.Gate.may_want user session start v now moved w z (BeforeAsk m.0) i.9 (refl, i.5, tt) (All-nil (Bears user session (way_in now))) (ap (λ l. l.sittings) e)
    (adds_still [] [] 0 [] (calls_until session moved Stop m.0) w u z (adds_stop session moved m.0 x c.loop.tally w.heard u.heard q r p) (ap (λ l. l.asks) e) (ap (λ l. l.taken) e) (ap (λ l. l.looks) e) refl c.done.ensures.passed)
    (λ before f. c.done.ensures.heard before (c.may_ask.ensures.heard ∙ i.7 ∙ f))

pub done-requires-in-None-pump_next : goal.done-requires-in-None-pump_next
done-requires-in-None-pump_next g c =
    let n = c.in-None-pump_next.ensures.none in
    record { condition = c.into_ran-in-None-pump_next.ensures.ends _ _ (inr (refl, search rules, n.2)) }

pub returns-in-None-pump_next-clause-run : goal.returns-in-None-pump_next-clause-run
returns-in-None-pump_next-clause-run g c =
    let k = known g.R.Source.remaining g.K.Sink.collected g.K.Sink.target g.C.Read.remaining g.C.Write.contents in
    let user = c.args.transfer.user in let session = c.args.transfer.session in let start = flow_of c.args.transfer.running in
    let v = worker (seat_view c.args.seat.now) c.args.tally.now (g.G.Gate.heard c.args.gate.now) (g.G.Gate.passed c.args.gate.now) in
    let i = c.loop.invariant in
    let now = flow_of c.loop.transfer.running in
    let moved = c.loop.transfer.moved in
    let m = c.if-not-may_ask.ensures.passed in
    let n = c.in-None-pump_next.ensures.none.0 in
    let a = c.ask.result in
    let q = g.G.Gate.passed c.loop.gate in
    let r = g.G.Gate.passed c.may_ask.new.gate in
    let x = seat_view c.loop.seat in
    let y = seat_view c.ask-in-loop.new.self in
    let w = worker x c.loop.tally (g.G.Gate.heard c.loop.gate) q in
    let u = worker (seat_view c.pump_next.new.seat) c.pump_next.new.tally (g.G.Gate.heard c.pump_next.new.gate) (g.G.Gate.passed c.pump_next.new.gate) in
    let z = worker (seat_view c.pump_next.new.seat) c.pump_next.new.tally (g.G.Gate.heard c.done-in-None-pump_next.new.self) (g.G.Gate.passed c.done-in-None-pump_next.new.self) in
    let halt : Halt = AfterAsk m.0 a n.between n.laters in
    let adds = adds_open c.loop.transfer.session moved m.0 a n.between n.laters x y c.loop.tally (g.G.Gate.heard c.may_ask.new.gate) w.heard q r u m.1 c.ask-in-loop.ensures.view n.adds in
    stopped k g.G.Gate.may_want user session start v now moved w z halt i.9 (refl, i.5, c.ask.ensures.want)
    (All-push (Bears user session (way_in now)) [] a (All-nil (Bears user session (way_in now))) (c.ask.ensures.user ∙ i.3, c.ask.ensures.session ∙ i.4, c.ask.ensures.way))
    (n.sittings_are ∙ ap (λ l. l.sittings) c.ask-in-loop.ensures.view)
    (adds_still (a ∷ []) [] (looks_at (Some halt)) [] (calls_at session moved (Some halt)) w u z
    (subst (λ (s : ℕ). Adds (a ∷ []) [] (looks_at (Some halt)) [] (calls_at s moved (Some halt)) w u) i.4 adds)
    refl refl refl refl c.done-in-None-pump_next.ensures.passed)
    (λ before f. c.done-in-None-pump_next.ensures.heard before (c.pump_next.ensures.heard ∙ c.may_ask.ensures.heard ∙ i.7 ∙ f))

pub done-requires-in-Some-job_end : goal.done-requires-in-Some-job_end
done-requires-in-Some-job_end g c =
    let k = known g.R.Source.remaining g.K.Sink.collected g.K.Sink.target g.C.Read.remaining g.C.Write.contents in
    let some = c.in-Some-pump_next.ensures.some.0 in
    record { condition = c.into_ran-in-Some-job_end.ensures.ends _ _ (inl (ap end_of (pumps_last k some.octets (flow_of c.loop.transfer.running) (flow_of c.pump_next.new.transfer.running) c.in-Some-pump_next.pumped some.pumps) ∙ sym c.in-Some-job_end.ensures.end)) }

pub returns-in-Some-job_end-clause-run : goal.returns-in-Some-job_end-clause-run
returns-in-Some-job_end-clause-run g c =
    let k = known g.R.Source.remaining g.K.Sink.collected g.K.Sink.target g.C.Read.remaining g.C.Write.contents in
    let user = c.args.transfer.user in let session = c.args.transfer.session in let start = flow_of c.args.transfer.running in
    let v = worker (seat_view c.args.seat.now) c.args.tally.now (g.G.Gate.heard c.args.gate.now) (g.G.Gate.passed c.args.gate.now) in
    let i = c.loop.invariant in
    let now = flow_of c.loop.transfer.running in
    let next = flow_of c.pump_next.new.transfer.running in
    let moved = c.loop.transfer.moved in
    let m = c.if-not-may_ask.ensures.passed in
    let p = c.in-Some-pump_next.ensures.some.0 in
    let a = c.ask.result in
    let q = g.G.Gate.passed c.loop.gate in
    let r = g.G.Gate.passed c.may_ask.new.gate in
    let x = seat_view c.loop.seat in
    let y = seat_view c.ask-in-loop.new.self in
    let w = worker x c.loop.tally (g.G.Gate.heard c.loop.gate) q in
    let u = worker (seat_view c.pump_next.new.seat) c.pump_next.new.tally (g.G.Gate.heard c.pump_next.new.gate) (g.G.Gate.passed c.pump_next.new.gate) in
    let z = worker (seat_view c.rise-in-Some-job_end.new.self) c.pump_next.new.tally (g.G.Gate.heard c.done-in-Some-job_end.new.self) (g.G.Gate.passed c.done-in-Some-job_end.new.self) in
    let e = c.rise-in-Some-job_end.ensures.view in
    let t : Turn = record { before = m.0; ask = a; between = p.between; octets = p.octets; pumped = c.in-Some-pump_next.pumped } in
    let adds = adds_turn c.loop.transfer.session moved m.0 a p.between p.octets t.pumped x y c.loop.tally (g.G.Gate.heard c.may_ask.new.gate) w.heard q r u m.1 c.ask-in-loop.ensures.view p.adds in
    let is = sym c.in-Some-job_end.ensures.end in
    let s = turn_more k g.G.Gate.may_want user session start v now next moved w u t i.9
    (record { more = i.5; want = c.ask.ensures.want; pumped = next; pumps = p.pumps; tops = λ more. absurd (not_more t.pumped.end c.in-Some-job_end.end is more); ends = λ _. refl })
    (c.ask.ensures.user ∙ i.3, c.ask.ensures.session ∙ i.4, c.ask.ensures.way)
    (p.sittings_are ∙ ap (λ l. l.sittings) c.ask-in-loop.ensures.view)
    (subst (λ (n : ℕ). Adds (a ∷ []) (p.octets ∷ []) (length p.between) (t.pumped.moved ∷ []) (calls_in n moved t) w u) i.4 adds) in
    ended k g.G.Gate.may_want user session start v next _ u z c.in-Some-job_end.end s
    (ap end_of (pumps_last k p.octets now next t.pumped p.pumps) ∙ sym c.in-Some-job_end.ensures.end)
    (ap (λ l. l.sittings) e) (ap (λ l. l.asks) e) (ap (λ l. l.taken) e) (ap (λ l. l.looks) e) refl c.done-in-Some-job_end.ensures.passed
    (λ before f. c.done-in-Some-job_end.ensures.heard before (c.pump_next.ensures.heard ∙ c.may_ask.ensures.heard ∙ i.7 ∙ f))

pub loop-preserved : goal.loop-preserved
loop-preserved g c =
    let k = known g.R.Source.remaining g.K.Sink.collected g.K.Sink.target g.C.Read.remaining g.C.Write.contents in
    let user = c.args.transfer.user in let session = c.args.transfer.session in let start = flow_of c.args.transfer.running in
    let v = worker (seat_view c.args.seat.now) c.args.tally.now (g.G.Gate.heard c.args.gate.now) (g.G.Gate.passed c.args.gate.now) in
    let i = c.loop.invariant in
    let now = flow_of c.loop.transfer.running in
    let pumped = flow_of c.pump_next.new.transfer.running in
    let next = flow_of c.top_up.new.self.running in
    let topped = c.top_up.ensures in
    let moved = c.loop.transfer.moved in
    let m = c.if-not-may_ask.ensures.passed in
    let some = c.in-Some-pump_next.ensures.some in
    let p = some.0 in
    let n = c.pump_next.ensures in
    let a = c.ask.result in
    let q = g.G.Gate.passed c.loop.gate in
    let r = g.G.Gate.passed c.may_ask.new.gate in
    let x = seat_view c.loop.seat in
    let y = seat_view c.ask-in-loop.new.self in
    let w = worker x c.loop.tally (g.G.Gate.heard c.loop.gate) q in
    let u = worker (seat_view c.pump_next.new.seat) c.pump_next.new.tally (g.G.Gate.heard c.pump_next.new.gate) (g.G.Gate.passed c.pump_next.new.gate) in
    let t : Turn = record { before = m.0; ask = a; between = p.between; octets = p.octets; pumped = c.in-Some-pump_next.pumped } in
    let adds = adds_turn c.loop.transfer.session moved m.0 a p.between p.octets t.pumped x y c.loop.tally (g.G.Gate.heard c.may_ask.new.gate) w.heard q r u m.1 c.ask-in-loop.ensures.view p.adds in
    let more = only_more t.pumped.end (sym c.in-None-job_end.ensures.end) in
    let s = turn_more k g.G.Gate.may_want user session start v now next moved w u t i.9
    (record { more = i.5; want = c.ask.ensures.want; pumped = pumped; pumps = p.pumps; tops = λ _. topped.topped; ends = λ not. absurd (not more) })
    (c.ask.ensures.user ∙ i.3, c.ask.ensures.session ∙ i.4, c.ask.ensures.way)
    (p.sittings_are ∙ ap (λ l. l.sittings) c.ask-in-loop.ensures.view)
    (subst (λ (j : ℕ). Adds (a ∷ []) (p.octets ∷ []) (length p.between) (t.pumped.moved ∷ []) (calls_in j moved t) w u) i.4 adds) in (
      tt,
      tt,
      (n.same.0 ∙ c.ask-in-loop.ensures.same.0 ∙ i.2.0, n.same.1 ∙ c.ask-in-loop.ensures.same.1 ∙ i.2.1),
      topped.user ∙ n.user ∙ i.3,
      topped.session ∙ n.session ∙ i.4,
      topped_last k pumped next topped.topped ∙ pumps_last k p.octets now pumped t.pumped p.pumps ∙ more,
      n.reported,
      n.heard ∙ c.may_ask.ensures.heard ∙ i.7,
      p.state_is,
      subst (λ (j : ℕ). Sits k g.G.Gate.may_want user session start v next j u) (sym (topped.moved ∙ some.1)) s,
    )
