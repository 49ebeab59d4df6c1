use Rattle.std.proofs.Common.{length, sym}
use Rattle.std.proofs.lemmas.Bool.{leb-true}
use Rattle.virtual_path.proofs.Lines.{name_is_line}
use Rattle.virtual_path.proofs.Parts.{tested_name}
use Rattle.virtual_path.specs.declared.TheConstants.{LONGEST_NAME}
use Rattle.virtual_path.proofs.walk.is_name.Goals as goal

pub returns-clause-name : goal.returns-clause-name
returns-clause-name c = λ yes. tested_name c.args.name.now (sym c.if-not-is_one_name.ensures.one) (leb-true (length c.args.name.now) LONGEST_NAME yes)

pub returns-clause-line : goal.returns-clause-line
returns-clause-line c = λ yes. name_is_line c.args.name.now (returns-clause-name c yes)
