use Rattle.std.proofs.Common.{sym, ◌∙◌}
use Rattle.memory_store.proofs.Moves.{not_under, under, goes_on, stripped}
use Rattle.memory_store.proofs.key.rest_under.Goals as goal

pub returns-in-None : goal.returns-in-None
returns-in-None c = λ front path plain plain_path is are. not_under c.args.directory.now c.args.text.now c.in-None.ensures.cases front path is are

pub returns-then-ends : goal.returns-then-ends
returns-then-ends c = λ front path plain plain_path is are.
    under c.args.directory.now c.args.text.now c.in-Some.rest.now (stripped c.args.directory.now c.args.text.now c.in-Some.rest.now c.in-Some.ensures.cases)
    (sym c.ends_name-ends.ensures ∙ c.if-ends.true) front path plain plain_path is are

pub returns-else-ends : goal.returns-else-ends
returns-else-ends c = λ front path plain plain_path is are.
    goes_on c.args.directory.now c.args.text.now c.in-Some.rest.now (stripped c.args.directory.now c.args.text.now c.in-Some.rest.now c.in-Some.ensures.cases)
    (sym c.ends_name-ends.ensures ∙ c.if-ends.false) front path is are
