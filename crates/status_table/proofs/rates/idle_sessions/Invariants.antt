use Rattle.std.proofs.Common.{◌≡◌, map, take}
use Rattle.std.specs.List.{filter}
use Rattle.status_table.specs.Rates.{is_idle}
use Rattle.status_table.proofs.rates.idle_sessions.Given as goal

abbrev pub invariant-loop-session : goal.invariant-loop-session
invariant-loop-session l =
    map (λ s. s.now) l.idle.items ≡ filter (is_idle l.now) (take l.session-index l.now.sessions_now.items)
