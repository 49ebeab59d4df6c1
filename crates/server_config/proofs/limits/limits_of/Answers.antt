use Rattle.server_config.proofs.LimitsFit.{not_refused}
use Rattle.server_config.proofs.limits.limits_of.Goals as goal

pub unreachable-requires : goal.unreachable-requires
unreachable-requires c = not_refused c.args.server.now c.requires.rows.0 c.requires.rows.1 c.args.rows c.in-Err.field-0 c.requires.rows.2 c.in-Err.ensures.fault
