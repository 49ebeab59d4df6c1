use Rattle.std.proofs.Common.{◌∙◌, ap, not}
use Rattle.std.proofs.lemmas.Result.{err_from_is_err_and}
use Rattle.config_file.proofs.Pushes.{are_overrides-more, override_refused}
use Rattle.config_file.proofs.tables.read_overrides.Goals as goal

pub loop-index-preserved : goal.loop-index-preserved
loop-index-preserved c =
    let worked = c.is_err.ensures.negation ∙ ap not c.if-is_err.false in
    let grown = rw worked at c.push.ensures.items in
    are_overrides-more c.args.users.now c.loop-index.index c.index-users-index.result c.loop-index.found.items c.push.new.self.items c.in_ok-rules.rules
    c.loop-index-test.true c.index-users-index.is c.loop-index.invariant c.in_ok-rules.ensures.rows grown

pub returns-in_err-rules-clause-refused : goal.returns-in_err-rules-clause-refused
returns-in_err-rules-clause-refused c =
    let failed = err_from_is_err_and c.from_residual.result c.from_residual.ensures.1 in
    rw (failed.1, failed.2) (override_refused c.args.users.now c.loop-index.index c.index-users-index.result c.loop-index.found.items c.in_err-rules.field-0.0
    c.loop-index-test.true c.index-users-index.is c.loop-index.invariant c.in_err-rules.ensures.refused)
