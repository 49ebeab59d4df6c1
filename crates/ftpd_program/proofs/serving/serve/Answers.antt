use Rattle.std.proofs.Common.{option_map}
use Rattle.ftpd_program.proofs.Serves.{answered}
use Rattle.ftpd_program.proofs.serving.serve.Goals as goal

pub returns-in-Ok-clause-end : goal.returns-in-Ok-clause-end
returns-in-Ok-clause-end g c =
    let gives = g.O.Opener.Gives c.args.files.now c.args.config.now in
    let shown = g.O.Lookout.Shows c.config_at.new.files in
    let path = option_map (λ w. w.now) c.args.signs.stop_file in
    let ready = option_map (λ w. w.now) c.args.signs.ready_file in
    let old = g.W.TextWriter.contents c.args.output.now in
    let new = g.W.TextWriter.contents c.serve.new.output in
    rw c.ended.ensures.end (answered gives shown c.args.config.now g.V.Server.Serves path ready c.args.patience old new _ _ _ _ c.in-Ok.ensures.config c.as_str.ensures.value c.serve.ensures.served)
