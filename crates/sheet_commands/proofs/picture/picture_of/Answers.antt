use Rattle.sheet_commands.proofs.picture.picture_of.Goals as goal

pub returns-clause-drawn : goal.returns-clause-drawn
returns-clause-drawn g c = c.in_ok-picture.ensures.drawn c.args.text.now c.in_ok-sheet.ensures.read
