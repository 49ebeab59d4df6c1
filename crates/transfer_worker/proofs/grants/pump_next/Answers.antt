use Rattle.std.proofs.Common.{[], ◌∷◌, ◌++◌, refl, ap, ◌∙◌}
use Rattle.lane_desk.specs.Seats.{seat_view}
use Rattle.transfer_worker.specs.declared.gate.Go.TheVariants.{On, Stop}
use Rattle.transfer_worker.specs.Passes.{calls_until}
use Rattle.transfer_worker.specs.Runs.{worker}
use Rattle.transfer_worker.proofs.Adding.{passes_are, adds_none}
use Rattle.transfer_worker.proofs.Steps.{looks_again, waits_in_vain}
use Rattle.transfer_worker.proofs.grants.pump_next.Goals as goal

pub loop-init : goal.loop-init
loop-init g c = (tt, tt, (refl, refl), refl, refl, refl, refl, c.requires.reported, refl, refl, refl, ([], adds_none _))

pub returns-then-not-may_go_on-clause-none : goal.returns-then-not-may_go_on-clause-none
returns-then-not-may_go_on-clause-none g c =
    let session = c.args.transfer.now.session in let moved = c.args.transfer.now.moved in
    let v = worker (seat_view c.args.seat.now) c.args.tally.now (g.G.Gate.heard c.args.gate.now) (g.G.Gate.passed c.args.gate.now) in
    let i = c.loop.invariant in
    let n = c.in-None-turn.ensures.none in
    let m = c.if-not-may_go_on.ensures.passed in
    let q = g.G.Gate.passed c.loop.gate in
    let r = g.G.Gate.passed c.may_go_on.new.gate in
    let u = worker (seat_view c.loop.seat) c.loop.tally (g.G.Gate.heard c.loop.gate) q in
    let w = worker (seat_view c.turn.new.seat) c.turn.new.tally (g.G.Gate.heard c.may_go_on.new.gate) r in
    let es = c.turn.ensures.session ∙ i.4 in
    let em = n.3 ∙ i.5 in
    let p = passes_are q r (calls_until c.turn.new.self.session c.turn.new.self.moved Stop m.0) (calls_until session moved Stop m.0) (λ j. calls_until (es j) (em j) Stop m.0) m.1 in (
      waits_in_vain session moved v i.11.0 m.0 u w i.11.1 (ap (λ l. l.asks) n.0) (ap (λ l. l.taken) n.0) (ap (λ l. l.looks) n.0) (ap (λ t. t.moved) n.2) p (ap (λ l. l.state) n.0 ∙ i.9) (ap (λ l. l.sittings) n.0 ∙ i.10),
      n.1 ∙ i.6,
      c.if-not-may_go_on.ensures.stop refl,
    )

pub loop-preserved : goal.loop-preserved
loop-preserved g c =
    let session = c.args.transfer.now.session in let moved = c.args.transfer.now.moved in
    let v = worker (seat_view c.args.seat.now) c.args.tally.now (g.G.Gate.heard c.args.gate.now) (g.G.Gate.passed c.args.gate.now) in
    let i = c.loop.invariant in
    let n = c.in-None-turn.ensures.none in
    let m = c.if-not-may_go_on.ensures.passed in
    let q = g.G.Gate.passed c.loop.gate in
    let r = g.G.Gate.passed c.may_go_on.new.gate in
    let u = worker (seat_view c.loop.seat) c.loop.tally (g.G.Gate.heard c.loop.gate) q in
    let w = worker (seat_view c.turn.new.seat) c.turn.new.tally (g.G.Gate.heard c.may_go_on.new.gate) r in
    let es = c.turn.ensures.session ∙ i.4 in
    let em = n.3 ∙ i.5 in
    let p = passes_are q r (calls_until c.turn.new.self.session c.turn.new.self.moved On m.0) (calls_until session moved On m.0) (λ j. calls_until (es j) (em j) On m.0) m.1 in (
      tt,
      tt,
      (c.turn.ensures.same.0 ∙ i.2.0, c.turn.ensures.same.1 ∙ i.2.1),
      c.turn.ensures.user ∙ i.3,
      es,
      em,
      n.1 ∙ i.6,
      c.turn.ensures.reported,
      c.may_go_on.ensures.heard ∙ i.8,
      ap (λ l. l.state) n.0 ∙ i.9,
      ap (λ l. l.sittings) n.0 ∙ i.10,
      (i.11.0 ++ m.0 ∷ [], looks_again session moved v i.11.0 m.0 u w i.11.1 (ap (λ l. l.asks) n.0) (ap (λ l. l.taken) n.0) (ap (λ l. l.looks) n.0) (ap (λ t. t.moved) n.2) p),
    )
