use Rattle.std.proofs.Common.{rules}
use Rattle.desk_rule.proofs.Keeps.{rises}
use Rattle.lane_desk.proofs.Calls.{owns_of}
use Rattle.lane_desk.proofs.seat.LaneSeat.rise.Goals as goal

pub store-requires : goal.store-requires
store-requires g c = (search rules, search rules, rises _ _ _ _ (owns_of _ _ _ c.args.self.now.knows.0) c.requires.state (search rules))
