use Rattle.std.proofs.Common.{◌+◌, ◌≤◌, sym, subst, rules}
use Rattle.round_cadence.specs.Cadences.{Beats, opens_of}
use Rattle.round_cadence.proofs.Soon.{rows_soon}
use Rattle.round_cadence.proofs.cadence.Cadence.settle.Goals as goal

pub returns-clause-settled : goal.returns-clause-settled
returns-clause-settled g c = search rules

pub returns-clause-soon : goal.returns-clause-soon
returns-clause-soon g c = λ le.
    subst (λ (b : Beats). opens_of c.args.way c.args.user c.args.rows.now b ≤ c.args.tick + 32)
    (sym (returns-clause-settled g c))
    (rows_soon c.args.way c.args.user c.args.rows.now c.args.tick c.args.self.now le)
