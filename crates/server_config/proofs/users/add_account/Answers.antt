use Rattle.std.proofs.Common.{inl, inr}
use Rattle.std.proofs.lemmas.Result.{err_from_is_err_and}
use Rattle.server_config.proofs.UsersAdded.{account}
use Rattle.server_config.proofs.UsersRefused.{group_refused}
use Rattle.server_config.proofs.users.add_account.Goals as goal

pub returns : goal.returns
returns c = record {
  account = account c.args.group c.args.user.now c.args.users.now c.add_user.new.self c.set_messages.new.self c.set_group.new.self c.set_group.result
      c.in_ok-add_user.ensures.users c.in_ok-set_messages.ensures.users c.set_group.ensures.users;
  refused = group_refused c.args.group c.args.user.now c.args.users.now c.add_user.new.self c.set_messages.new.self c.set_group.new.self c.set_group.result
      c.in_ok-add_user.ensures.users c.in_ok-set_messages.ensures.users c.set_group.ensures.users;
}

pub returns-in_err-set_messages-clause-refused : goal.returns-in_err-set_messages-clause-refused
returns-in_err-set_messages-clause-refused c =
    let failed = err_from_is_err_and c.from_residual-in_err-set_messages.result c.from_residual-in_err-set_messages.ensures.1 in
    rw (failed.1, failed.2) (λ reported. inr (c.add_user.new.self, c.in_ok-add_user.ensures.users, inl (c.in_err-set_messages.ensures.users.1 reported)))
