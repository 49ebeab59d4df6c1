use Rattle.std.proofs.Common.{◌≡◌, ◌<◌, ◌++◌, ◌∷◌, [], length, ap, ◌∙◌, arith, refl, List}
use Rattle.std.specs.Prelude.{Result}
use Rattle.world_terms.specs.declared.event.EventAnswer.{EventAnswer}
use Rattle.world_terms.specs.declared.fault.StepFault.{StepFault}
use Rattle.share_world.proofs.Longer.{had_more, on_err, run_at, stopped_run, unbegun_run, unmoved}
use Rattle.share_world.proofs.world.World.run.Goals as goal

pub loop-event-preserved : goal.loop-event-preserved
loop-event-preserved g c =
    let less : c.loop-event.event-index < length c.args.events.now = omega arith in
    let more : c.push_reserved.new.self.items ≡ c.loop-event.replies.items ++ c.step-reply.result ∷ [] = c.push_reserved.ensures.items ∙ ap (λ (xs : List (Result EventAnswer StepFault)). xs ++ c.step-reply.result ∷ []) c.in_ok-reserve.ensures.items in
    record {
      run = run_at c.args.self.now.rates c.loop-event.self.rates c.args.self.now.world c.loop-event.self.world c.step-reply.new.self.world c.args.events.now c.loop-event.event-index c.loop-event.replies.items c.push_reserved.new.self.items
          _ c.step-reply.result less c.loop-event.invariant.rates more c.loop-event.invariant.run c.step-reply.ensures.step;
      had = had_more c.loop-event.replies.items c.push_reserved.new.self.items c.step-reply.result more c.loop-event.invariant.had (c.is_lack.ensures.had c.if-is_lack.false);
      rates = c.step-reply.ensures.rates ∙ c.loop-event.invariant.rates;
    }

pub returns-in_err-clone-clause-stopped : goal.returns-in_err-clone-clause-stopped
returns-in_err-clone-clause-stopped g c = on_err _ c.from_residual.result (unbegun_run (λ _. c.args.self.now.rates) c.args.self.now.world c.args.events.now)

pub returns-in_err-reserve-clause-stopped : goal.returns-in_err-reserve-clause-stopped
returns-in_err-reserve-clause-stopped g c = on_err _ c.from_residual-in_err-reserve.result (stopped_run (λ _. c.args.self.now.rates) c.args.self.now.world c.loop-event.self.world c.loop-event.self.world c.args.events.now c.loop-event.event-index c.loop-event.replies.items c.loop-event.invariant.run refl c.loop-event.invariant.had (omega arith))

pub returns-then-is_lack-clause-stopped : goal.returns-then-is_lack-clause-stopped
returns-then-is_lack-clause-stopped g c =
    stopped_run (λ _. c.args.self.now.rates) c.args.self.now.world c.loop-event.self.world c.step-reply.new.self.world c.args.events.now c.loop-event.event-index c.loop-event.replies.items c.loop-event.invariant.run
    (unmoved c.loop-event.self.rates c.loop-event.self.world _ c.step-reply.result _ c.step-reply.new.self.world c.step-reply.ensures.step (c.is_lack.ensures.lack c.if-is_lack.true)) c.loop-event.invariant.had (omega arith)
