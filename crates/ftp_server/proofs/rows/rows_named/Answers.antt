use Rattle.std.proofs.Common.{string_bytes, ap, ◌∙◌}
use Rattle.ftp_server.proofs.Last.{named_step}
use Rattle.ftp_server.proofs.rows.rows_named.Goals as goal

pub loop-place-preserved : goal.loop-place-preserved
loop-place-preserved c =
    named_step string_bytes c.args.users.now.users c.args.set.now c.args.names.now c.loop-place.place c.index-names-place.result c.loop-place.rows.items c.add_row.new.rows.items c.as_str.result.now c.row_of.result c.loop-place-test.true c.loop-place.invariant
    (c.as_str.ensures.value ∙ ap string_bytes c.index-names-place.is) c.row_of.ensures.row c.in_ok-add_row.ensures.added
