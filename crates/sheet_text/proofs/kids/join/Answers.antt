use Rattle.sheet_text.proofs.Rows.{row_joined}
use Rattle.sheet_text.proofs.kids.join.Goals as goal

pub returns-clause-rows : goal.returns-clause-rows
returns-clause-rows g c place row e = row_joined c.args.rows.now.items c.index_mut.result.now c.push.new.self row c.args.parent c.args.kid place c.requires.within c.index_mut.ensures.value c.in_ok-push.ensures.items e
