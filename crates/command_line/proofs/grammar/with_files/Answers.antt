use Rattle.std.proofs.Common.{ap, codes, ◌∙◌}
use Rattle.clap.specs.Words.{App, with_rule}
use Rattle.command_line.specs.Commands.{value_rule}
use Rattle.command_line.proofs.grammar.with_files.Goals as goal

pub returns : goal.returns
returns c =
    let ready = c.in_ok-with_ready.ensures.rule ∙ ap (λ (a : App). with_rule a (value_rule (codes "ready-file"))) c.in_ok-with_stop.ensures.rule in
    let drain = c.in_ok-with_drain.ensures.rule ∙ ap (λ (a : App). with_rule a (value_rule (codes "drain-file"))) ready in
    let reload = c.in_ok-with_reload.ensures.rule ∙ ap (λ (a : App). with_rule a (value_rule (codes "reload-file"))) drain in
    record {
      rules = c.in_ok-command.ensures.rule ∙ ap (λ (a : App). with_rule a (value_rule (codes "running-file"))) reload;
    }
