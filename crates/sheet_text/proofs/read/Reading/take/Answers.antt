use Rattle.sheet_text.specs.LineViews.{entry_view}
use Rattle.sheet_text.proofs.Taking.{below_more, wants_more}
use Rattle.sheet_text.proofs.read.Reading.take.Goals as goal

pub returns-clause-wants : goal.returns-clause-wants
returns-clause-wants g c = wants_more c.args.self.now.nodes c.take.new.self c.args.self.now.wants.items c.note_want.new.wants.items c.args.number c.in_ok-place.place (entry_view c.args.entry) c.requires.below c.in_ok-place.ensures.kept c.in_ok-place.ensures.place.1 c.in_ok-note_want.ensures.noted

pub returns-clause-below : goal.returns-clause-below
returns-clause-below g c = below_more c.args.self.now.nodes c.take.new.self c.args.self.now.wants.items c.note_want.new.wants.items c.in_ok-place.place c.args.entry.kind c.requires.below c.in_ok-place.ensures.grows c.in_ok-place.ensures.place.0 c.in_ok-note_want.ensures.noted
