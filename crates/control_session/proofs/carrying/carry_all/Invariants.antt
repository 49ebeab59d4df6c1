use Rattle.std.proofs.Common.{◌++◌, List, Option, length}
use Rattle.std.specs.Vec.Iter.{into_iter_items}
use Rattle.control_session.specs.Calls.{Chain, HostCall}
use Rattle.control_session.specs.Turns.{Carries}
use Rattle.control_session.specs.declared.turn_fault.TurnFault.{TurnFault}
use Rattle.control_session.proofs.carrying.carry_all.Given as goal

-- what is left, behind what was carried out, is all
abbrev pub invariant-loop-action : goal.invariant-loop-action
invariant-loop-action g l = (calls : List (HostCall _ _ _ _)) × Chain g.H.Host.Does l.fn.host calls l.host
    × ((rest : List (HostCall _ _ _ _)) (end : Option TurnFault) → Carries (into_iter_items l.left) l.lost rest end → Carries l.fn.actions.items l.fn.lost (calls ++ rest) end)

abbrev pub decreases-loop-action : goal.decreases-loop-action
decreases-loop-action g l = length (into_iter_items l.left)
