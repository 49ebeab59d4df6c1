use Rattle.std.proofs.Common.{refl, sym, ◌∙◌}
use Rattle.std.specs.FinMap as finite
use Rattle.ftp_server.proofs.Named.{found_user, others_for, row_for, set_for}
use Rattle.ftp_server.proofs.server.FtpServer.limit_user.Goals as goal

pub returns-clause-set : goal.returns-clause-set
returns-clause-set c =
    let found = found_user (finite.get c.args.self.now.users.users c.args.name.now) c.in-Some.number (sym c.in-Some.is ∙ c.number.ensures.number) in
    let set = set_for c.args.self.now.user_rates.items c.push.new.self.items c.args.rates c.in-Some.number found.0.number c.in_ok-push.ensures.items found.2 in
    record {
      user = found.0;
      named = found.1;
      set = set;
      row = row_for c.args.self.now.user_rates.items c.push.new.self.items c.args.rates found.0 set;
      others = others_for c.args.self.now.user_rates.items c.push.new.self.items c.args.rates found.0.number set;
      groups = refl;
      same = record { users = refl; rate = refl; down_rate = refl; up_rate = refl; numbers = refl; settings = refl; patience = refl; user_sessions = refl; share_by = refl; syncs = refl };
    }
