use Rattle.std.proofs.Common.{◌≡◌, ◌+◌, ◌≤◌, drop}
use Rattle.server_house.specs.Logins.{sessions_of}
use Rattle.server_house.proofs.logins.count_of.Given as goal

abbrev pub invariant-loop-session : goal.invariant-loop-session
invariant-loop-session l = (l.count + sessions_of l.user (drop l.session-index l.sessions) ≡ sessions_of l.user l.sessions) × (l.count ≤ l.session-index)
