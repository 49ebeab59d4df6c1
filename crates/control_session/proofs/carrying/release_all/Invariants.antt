use Rattle.std.proofs.Common.{ℕ, ◌≡◌, ◌++◌, List, drop}
use Rattle.session_table.specs.Laws.{releases}
use Rattle.control_session.specs.Calls.{Chain}
use Rattle.control_session.specs.Turns.{release_calls}
use Rattle.control_session.proofs.carrying.release_all.Given as goal

abbrev pub invariant-loop-action : goal.invariant-loop-action
invariant-loop-action g l = (done : List ℕ) × Chain g.H.Host.Does l.fn.host (release_calls done) l.host
    × (releases l.fn.actions ≡ done ++ releases (drop l.action-index l.actions))
