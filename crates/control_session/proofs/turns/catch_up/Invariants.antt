use Rattle.std.proofs.Common.{◌≡◌, ◌⊎◌, Bool, List, None, true}
use Rattle.ftp_wire.specs.Items.{Item}
use Rattle.control_session.specs.Rows.{IsRow}
use Rattle.control_session.specs.Standing.{stand}
use Rattle.control_session.specs.Turns.{Heard, Went, WhileOpen, asked_as}
use Rattle.control_session.specs.Unmade.{open_held}
use Rattle.control_session.proofs.turns.catch_up.Given as goal

abbrev pub invariant-loop-host : goal.invariant-loop-host
invariant-loop-host g l = record {
  none : l.talk.came ≡ None;
  whole : l.talk.lost ≡ None;
  went : (taken : List Item) (heard : Heard) → (asked : Bool) × Went (WhileOpen (IsRow {A = g.row.A.Denot} g.H.Host.Step)) g.H.Host.Does
      l.fn.host (stand l.fn.talk taken heard) l.host (stand l.talk taken (asked_as asked heard))
      × ((l.talk.closed ≡ true) ⊎ (asked ≡ true));
}

abbrev pub decreases-loop-host : goal.decreases-loop-host
decreases-loop-host g l = open_held l.talk.closed l.talk.session.held
