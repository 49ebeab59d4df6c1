use Rattle.sheet_commands.proofs.share.sharing_of.Goals as goal

pub returns-clause-shared : goal.returns-clause-shared
returns-clause-shared g c = c.in_ok-lines.ensures.shared c.args.text.now c.in_ok-sheet.ensures.read
