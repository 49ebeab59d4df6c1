use Rattle.std.proofs.Common.{inl, refl}
use Rattle.config_file.specs.declared.fault.TableName.TheVariants.{User}
use Rattle.server_config.specs.Users.{IsRefusedUser}
use Rattle.server_config.proofs.UsersAdded.{with_rules}
use Rattle.server_config.proofs.StrayLetters.{account_lacks}
use Rattle.server_config.proofs.UsersRefused.{reported_as, rules_refused}
use Rattle.server_config.proofs.users.add_user.Goals as goal

pub returns-in-Ok : goal.returns-in-Ok
returns-in-Ok c = record {
  user = with_rules c.args.group c.args.user.now c.args.rules.now c.args.users.now c.add_account.new.users c.add_rules.new.users c.add_rules.result
      c.in-Ok.ensures.account c.add_rules.ensures.rules;
  refused = rules_refused c.args.index c.args.group c.args.user.now c.args.rules.now c.args.users.now c.add_account.new.users c.add_rules.result
      c.in-Ok.ensures.account c.add_rules.ensures.refused;
}

pub returns-in-Err-clause-refused : goal.returns-in-Err-clause-refused
returns-in-Err-clause-refused c =
    reported_as (IsRefusedUser c.args.index c.args.group c.args.user.now c.args.rules.now c.args.users.now) User c.args.index c.args.user.now.name.now c.args.user.now.perms.now c.in-Err.fault c.refused.result c.refused.ensures.reported
    (λ problem lack reported. inl (refl, (c.in-Err.fault, c.in-Err.ensures.refused lack, reported)))

pub refused-requires-clause-stray : goal.refused-requires-clause-stray
refused-requires-clause-stray c =
    account_lacks c.args.group c.args.user.now c.args.users.now c.in-Err.fault c.in-Err.ensures.refused
