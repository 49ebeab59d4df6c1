use Rattle.std.proofs.Common.{refl, arith}
use Rattle.std.proofs.lemmas.Bool.{false≢true}
use Rattle.test_allotment.proofs.plain.has_room.Goals as goal

pub returns-in-None : goal.returns-in-None
returns-in-None g c = record { room = (λ _. (omega (arith, c.want.ensures.want), c.in-None.ensures.deepest), λ _. refl) }

pub returns-in-Some : goal.returns-in-Some
returns-in-Some g c = record { room = (λ h. absurd (false≢true h), λ room. absurd (room.1 c.in-Some.field-0 c.in-Some.ensures.deepest.0)) }
