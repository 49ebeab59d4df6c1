use Rattle.std.proofs.Common.{subst}
use Rattle.std.specs.Prelude.{IfOk}
use Rattle.round_pace.specs.Earned.{tick_of}
use Rattle.round_pace.specs.Paced.{IsPacedFrom}
use Rattle.transfer_tests.proofs.parts.Opened.new.Goals as goal

pub returns : goal.returns
returns g c = record { paced = (c.limits.result, subst (λ r. IfOk r (λ p. IsPacedFrom (tick_of c.moment-begun.result.micros) c.limits.result p)) c.expect-pace.ensures (subst (λ now. IfOk c.of.result (λ p. IsPacedFrom (tick_of now) c.limits.result p)) c.micros.ensures.micros c.of.ensures.rates)) }
