use Rattle.std.proofs.lemmas.Result.{err_from_is_err_and}
use Rattle.server_config.proofs.Numbering.{numbers-next}
use Rattle.server_config.proofs.GroupsRefused.{refused_next, apart-whole}
use Rattle.server_config.proofs.groups.number_groups.Goals as goal

pub loop-index-preserved : goal.loop-index-preserved
loop-index-preserved c =
    numbers-next c.args.groups.now c.loop-index.index c.index-groups-index.result c.loop-index.numbers c.number_next.new.numbers
    c.loop-index-test.true c.index-groups-index.is c.loop-index.invariant.0 c.loop-index.invariant.1 c.in_ok-number_next.ensures.first c.in_ok-number_next.ensures.next

pub returns-in_err-number_next-clause-refused : goal.returns-in_err-number_next-clause-refused
returns-in_err-number_next-clause-refused c = λ users.
    let failed = err_from_is_err_and c.from_residual.result c.from_residual.ensures.1 in
    let reported = refused_next c.args.groups.now users c.loop-index.index c.index-groups-index.result c.loop-index.numbers c.in_err-number_next.field-0.0
    c.loop-index-test.true c.index-groups-index.is c.loop-index.invariant.0 c.loop-index.invariant.1 c.in_err-number_next.ensures.refused in
    rw (failed.1, failed.2) reported

pub returns-clause-apart : goal.returns-clause-apart
returns-clause-apart c = apart-whole c.args.groups.now c.loop-index.index c.loop-index-test.false c.loop-index.invariant.1
