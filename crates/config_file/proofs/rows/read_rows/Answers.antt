use Rattle.std.proofs.Common.{◌∙◌, ap, not}
use Rattle.toml.specs.View.{view}
use Rattle.config_file.specs.Lists.{row_at}
use Rattle.config_file.proofs.Pushes.{are_rows-more, first_here, later}
use Rattle.config_file.proofs.rows.read_rows.Goals as goal

pub loop-index-preserved : goal.loop-index-preserved
loop-index-preserved g c =
    let worked = c.is_err.ensures.negation ∙ ap not c.if-is_err.false in
    let grown = rw worked at c.push.ensures.items in (
      are_rows-more c.args.grouped g.R.Keyed.Keys g.R.Keyed.Values c.args.values.now c.loop-index.index c.index-values-index.result c.loop-index.found.items
          c.push.new.self.items c.in-Ok.row c.loop-index-test.true c.index-values-index.is c.loop-index.invariant.0 c.in-Ok.ensures.row grown,
      later c.args.grouped g.R.Keyed.Keys c.args.key.now c.args.values.now c.loop-index.index c.index-values-index.result
          c.loop-index-test.true c.index-values-index.is c.in-Ok.ensures.fine c.loop-index.invariant.1,
    )

pub returns-in-Err-clause-refused : goal.returns-in-Err-clause-refused
returns-in-Err-clause-refused g c = (
  c.loop-index.index,
  view c.index-values-index.result,
  first_here c.args.grouped g.R.Keyed.Keys c.args.key.now c.args.values.now c.loop-index.index c.index-values-index.result c.in-Err.problem.key.now c.in-Err.problem.problem
      c.loop-index-test.true c.index-values-index.is c.in-Err.ensures.refused c.loop-index.invariant.1,
  c.row-header.ensures.place ∙ ap (row_at c.args.table c.loop-index.index) c.name_for.ensures.name,
)
