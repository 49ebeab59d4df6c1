use Rattle.config_report.specs.Together.{name_warnings}
use Rattle.config_report.specs.Warnings.{access_warnings, floor_warnings, home_warnings, one_user_warnings}
use Rattle.config_report.proofs.Joined.{five}
use Rattle.config_report.proofs.warnings.warn_of_user.Goals as goal

pub returns : goal.returns
returns c =
    let row = c.args.row.now in
    let user = row.user.now in
    record {
      warnings = five c.args.found.now.items c.warn_of_name.new.found.items c.warn_of_access.new.found.items c.warn_of_floors.new.found.items c.warn_of_home.new.found.items c.warn_of_one_user.new.found.items
          (name_warnings user) (access_warnings user) (floor_warnings c.args.server.now c.args.groups.now user) (home_warnings c.args.root row) (one_user_warnings c.args.share_by user)
          c.in_ok-warn_of_name.ensures.warnings c.in_ok-warn_of_access.ensures.warnings c.in_ok-warn_of_floors.ensures.warnings c.in_ok-warn_of_home.ensures.warnings c.in_ok-warn_of_one_user.ensures.warnings;
    }
