use Rattle.std.proofs.Common.{ap, ℕ}
use Rattle.server_config.specs.RateRows.{group_row}
use Rattle.std.proofs.lemmas.Result.{err_from_is_err_and}
use Rattle.server_config.proofs.Numbering.{numbered-next}
use Rattle.server_config.proofs.GroupsRefused.{refused_number}
use Rattle.server_config.proofs.rate_rows.read_groups.Goals as goal

pub loop-index-preserved : goal.loop-index-preserved
loop-index-preserved c =
    let group = c.index-groups-index.result in
    let row = group_row c.in_ok-row_number.field-0 group in
    numbered-next group_row c.args.groups.now c.loop-index.index group c.loop-index.rows.items c.push.new.self.items row
    c.loop-index-test.true c.index-groups-index.is c.loop-index.invariant (ap (λ (k : ℕ). group_row k group) c.in_ok-row_number.ensures.number) c.in_ok-push.ensures.items

pub returns-in_err-row_number-clause-refused : goal.returns-in_err-row_number-clause-refused
returns-in_err-row_number-clause-refused c = λ users.
    let failed = err_from_is_err_and c.from_residual.result c.from_residual.ensures.1 in
    let reported = refused_number c.args.groups.now users c.loop-index.index c.index-groups-index.result c.in_err-row_number.field-0.0
    c.loop-index-test.true c.index-groups-index.is c.in_err-row_number.ensures.refused in
    rw (failed.1, failed.2) reported
