use Rattle.std.proofs.Common.{ap, codes, ◌∙◌}
use Rattle.clap.specs.Words.{App, with_rule}
use Rattle.command_line.specs.Commands.{value_rule}
use Rattle.command_line.proofs.grammar.with_patience.Goals as goal

pub returns : goal.returns
returns c =
    let idle = c.in_ok-with_idle.ensures.rule ∙ ap (λ (a : App). with_rule a (value_rule (codes "idle-timeout"))) c.in_ok-with_login.ensures.rule in
    let delay = c.in_ok-with_delay.ensures.rule ∙ ap (λ (a : App). with_rule a (value_rule (codes "login-delay"))) idle in
    record {
      rules = c.in_ok-command.ensures.rule ∙ ap (λ (a : App). with_rule a (value_rule (codes "drain-seconds"))) delay;
    }
