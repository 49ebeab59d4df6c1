use Rattle.std.proofs.Common.{ap, codes, ◌∙◌}
use Rattle.clap.specs.Words.{App, with_rule}
use Rattle.command_line.specs.Commands.{value_rule}
use Rattle.command_line.proofs.grammar.with_sync_and_way.Goals as goal

pub returns : goal.returns
returns c = record {
  rules = c.in_ok-command.ensures.rule ∙ ap (λ (a : App). with_rule a (value_rule (codes "share-by"))) c.in_ok-with_sync.ensures.rule;
}
