use Rattle.desk_rule.proofs.Events.{sit_is, ask_is, collect_is, miss_is, post_is, take_is, look_is, rise_is}
use Rattle.desk_rule.proofs.laws.exchanges_are_events.Goals as goal

pub returns : goal.returns
returns g c = record { sit = sit_is; ask = ask_is; collect = collect_is; miss = miss_is; post = post_is; take = take_is; look = look_is; rise = rise_is }
