use Rattle.std.proofs.Common.{subst}
use Rattle.std.specs.Prelude.{IfOk}
use Rattle.round_pace.specs.Paced.{IsPacedFrom}
use Rattle.transfer_tests.proofs.desk.paces.PacedDesk.open.Goals as goal

pub new-requires-in-Ok-2 : goal.new-requires-in-Ok-2
new-requires-in-Ok-2 g c = record { new = (c.limits.result, subst (λ r. IfOk r (λ p. IsPacedFrom 0 c.limits.result p)) c.expect-pace.ensures c.of.ensures.rates) }
