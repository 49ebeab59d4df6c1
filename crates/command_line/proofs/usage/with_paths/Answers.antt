use Rattle.std.proofs.Common.{ap, ◌∙◌}
use Rattle.clap.specs.Words.{with_rule, app_of}
use Rattle.command_line.proofs.usage.with_paths.Goals as goal

pub returns : goal.returns
returns c = record {
  rule = c.in_ok-command.ensures.shape c.files.ensures.local ∙ ap (with_rule (app_of c.args.command)) c.files.ensures.rule;
}
