use Rattle.std.proofs.Common.{arith}
use Rattle.std.proofs.lemmas.Bool.{ltb-true}
use Rattle.rate_plan.proofs.small.is_large.Goals as goal

pub returns-clause-large : goal.returns-clause-large
returns-clause-large g c = λ reported. (c.args.name, omega (arith, ltb-true 109951162777 c.rate.result reported, c.rate.ensures.rate))
