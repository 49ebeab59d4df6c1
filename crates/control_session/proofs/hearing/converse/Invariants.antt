use Rattle.std.proofs.Common.{◌≡◌, ◌⊎◌, List, [], length, None, true, false}
use Rattle.ftp_wire.specs.Items.{Item}
use Rattle.ftp_wire.specs.Reading.{HasRead}
use Rattle.control_session.specs.Rows.{IsRow}
use Rattle.control_session.specs.Standing.{AllTaken, stand}
use Rattle.control_session.specs.Turns.{Heard, Went, WhileOpen, due}
use Rattle.control_session.specs.Sessions.{nothing}
use Rattle.control_session.proofs.hearing.converse.Given as goal

-- what was heard so far, and that all of it was taken
abbrev pub invariant-loop-turn : goal.invariant-loop-turn
invariant-loop-turn g l = record {
  none : l.talk.came ≡ None;
  whole : l.talk.lost ≡ None;
  due : (l.talk.closed ≡ true) ⊎ (due l.talk.session ≡ false);
  room : length l.buffer ≡ length l.fn.buffer;
  far : (last : List Item) × (heard : Heard) × Went (WhileOpen (IsRow {A = g.row.A.Denot} g.H.Host.Step)) g.H.Host.Does
      l.fn.host (stand l.fn.talk [] nothing) l.host (stand l.talk last heard)
      × HasRead heard.octets heard.items l.lines
      × (heard.reads ≡ l._turn) × (heard.ended ≡ false)
      × ((l.talk.closed ≡ true) ⊎ (AllTaken last heard × (heard.asked ≡ true)));
}
