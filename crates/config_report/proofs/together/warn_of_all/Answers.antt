use Rattle.config_report.specs.Together.{all_warnings, lane_warnings, nobody_warnings, promise_warnings}
use Rattle.config_report.proofs.Joined.{three}
use Rattle.config_report.proofs.together.warn_of_all.Goals as goal

pub returns : goal.returns
unfolding all_warnings
returns c =
    let server = c.args.server.now in
    let rows = c.args.rows.now in
    record {
      warnings = three c.args.found.now.items c.warn_of_lanes.new.found.items c.warn_of_promises.new.found.items c.warn_of_nobody.new.found.items
          (lane_warnings server rows) (promise_warnings server rows) (nobody_warnings rows)
          c.in_ok-warn_of_lanes.ensures.warnings c.in_ok-warn_of_promises.ensures.warnings c.in_ok-warn_of_nobody.ensures.warnings;
    }
