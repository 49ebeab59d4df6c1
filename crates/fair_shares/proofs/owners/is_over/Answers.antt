use Rattle.std.proofs.lemmas.Bool.{false≢true}
use Rattle.fair_shares.proofs.owners.is_over.Goals as goal

pub returns-in-None : goal.returns-in-None
returns-in-None g c = record { over = (λ e. absurd (false≢true e), λ next. absurd (c.in-None.ensures.none c.args.leaves next)) }
