use Rattle.std.proofs.Common.{[], ◌∷◌}
use Rattle.machine_parts.proofs.Numbers.{went-users, went-next}
use Rattle.machine_parts.proofs.known.skip_one.Goals as goal

pub returns : goal.returns
returns c = record {
  users = went-users c.args.users.now c.add_user.new.self c.remove_user.new.self (10 ∷ []) [] (47 ∷ []) [] c.in_ok-add_user.ensures.users c.remove_user.result c.remove_user.ensures.users;
  next = went-next c.args.users.now c.add_user.new.self c.remove_user.new.self (10 ∷ []) [] (47 ∷ []) [] c.in_ok-add_user.ensures.users c.remove_user.result c.remove_user.ensures.users;
}
