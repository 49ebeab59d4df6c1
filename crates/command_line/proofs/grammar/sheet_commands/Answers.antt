use Rattle.std.proofs.Common.{ap, ap₂, ◌∙◌}
use Rattle.clap.specs.Words.{App, with_subcommand}
use Rattle.command_line.proofs.Taken.{no_globals}
use Rattle.command_line.proofs.grammar.sheet_commands.Goals as goal

pub returns : goal.returns
returns c =
    let share = c.in_ok-share_command.ensures.share in
    let check = c.in_ok-check_command.ensures.check in
    let first = c.in_ok-with_share.ensures.shape (no_globals _ _ _ _ (ap (λ (a : App). a.top.is_plain) share)) ∙ ap₂ with_subcommand c.in_ok-top.ensures.top (ap (λ (a : App). a.top) share) in
    record {
      sheets = c.in_ok-command.ensures.shape (no_globals _ _ _ _ (ap (λ (a : App). a.top.is_plain) check)) ∙ ap₂ with_subcommand first (ap (λ (a : App). a.top) check);
    }
