use Rattle.ftpd_program.proofs.Changed.{refused_end, written_end}
use Rattle.ftpd_program.proofs.against.changed.Goals as goal

pub returns-in-Ok-clause-end : goal.returns-in-Ok-clause-end
returns-in-Ok-clause-end g c =
    written_end c.args.json c.args.config.now c.args.other.now c.args.new.now c.args.old.now (g.W.TextWriter.may_refuse c.args.output.now)
    (g.W.TextWriter.contents c.args.output.now) (g.W.TextWriter.contents c.written.new.output) c.in-Ok.report c.written.result
    c.in-Ok.ensures.report c.written.ensures.end

pub returns-in-Err-clause-end : goal.returns-in-Err-clause-end
returns-in-Err-clause-end g c =
    refused_end c.args.json c.args.config.now c.args.other.now c.args.new.now c.args.old.now (g.W.TextWriter.may_refuse c.args.output.now)
    (g.W.TextWriter.contents c.args.output.now) (g.W.TextWriter.contents c.args.output.now) c.refused.result
    (c.refused.ensures.end c.args.new.now c.args.old.now c.in-Err.ensures.refused)
