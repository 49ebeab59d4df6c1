use Rattle.round_events.proofs.DeskTables.{round_decides, tables_shown, tried_due}
use Rattle.round_events.proofs.laws.rounds_are_of_the_desk.Goals as goal

pub returns : goal.returns
returns g c = record { between = tables_shown g.row.N.Denot; due = tried_due; decision = round_decides }
