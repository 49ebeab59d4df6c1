use Rattle.ftpd_program.specs.Runs.{IsPrintEnd}
use Rattle.ftpd_program.specs.declared.printing.Print.TheVariants.{Table}
use Rattle.ftpd_program.proofs.Ends.{table_end, table_unwritten}
use Rattle.ftpd_program.proofs.run.top.Goals as goal

pub returns-clause-end : goal.returns-clause-end
returns-clause-end g c =
    let first = IsPrintEnd (Table c.args.rows) (g.O.Lookout.Shows c.print_text-ending.new.files) (g.O.Opener.Gives c.args.files.now c.args.status.now)
    (g.W.TextWriter.may_refuse c.args.output.now) (g.W.TextWriter.contents c.args.output.now) (g.W.TextWriter.contents c.print_text-ending.new.output) in
    table_end c.args.once c.args.status c.args.rows first _ _ (λ path lines end. end) c.watching.ensures.end c.print_text-ending.ensures.end

pub returns-clause-unwritten : goal.returns-clause-unwritten
returns-clause-unwritten g c = λ unwritten.
    c.print_text-ending.ensures.unwritten (table_unwritten c.args.once c.args.status c.args.rows _ _ c.watching.ensures.end unwritten)
