use Rattle.std.proofs.Common.{◌≡◌, ◌++◌, List, None, false, length, true}
use Rattle.std.specs.Vec.Iter.{into_iter_items}
use Rattle.ftp_wire.specs.Items.{Item}
use Rattle.ftp_wire.specs.Reading.{items_of}
use Rattle.control_session.specs.Rows.{IsRow}
use Rattle.control_session.specs.Standing.{stand}
use Rattle.control_session.specs.Turns.{Heard, Went, WhileOpen, asked_as, due}
use Rattle.control_session.proofs.turns.take_lines.Given as goal

abbrev pub invariant-loop-item : goal.invariant-loop-item
invariant-loop-item g l = record {
  none : l.talk.came ≡ None;
  whole : l.talk.lost ≡ None;
  live : l.talk.closed ≡ false;
  due : due l.talk.session ≡ false;
  went : (taken : List Item) (heard : Heard) → heard.items ≡ taken ++ items_of l.fn.items.items
      → (last : List Item) × (heard.items ≡ last ++ items_of (into_iter_items l.left)) × Went (WhileOpen (IsRow {A = g.row.A.Denot} g.H.Host.Step)) g.H.Host.Does
      l.fn.host (stand l.fn.talk taken heard) l.host (stand l.talk last (asked_as true heard));
}

abbrev pub decreases-loop-item : goal.decreases-loop-item
decreases-loop-item g l = length (into_iter_items l.left)
