use Rattle.std.proofs.Common.{ap, ap₂, ◌∙◌}
use Rattle.clap.specs.Words.{App, with_subcommand}
use Rattle.command_line.proofs.Taken.{no_globals}
use Rattle.command_line.proofs.grammar.ftpd_command.Goals as goal

pub returns : goal.returns
returns c =
    let check = c.in_ok-check_config_command.ensures.check_config in
    let migrate = c.in_ok-migrate_command.ensures.migrate in
    let script = c.in_ok-script_command.ensures.script in
    let serve = c.in_ok-serve_command.ensures.serve in
    let plan = c.in_ok-plan_command.ensures.plan in
    let show = c.in_ok-show_command.ensures.show in
    let start = c.in_ok-with_check.ensures.shape (no_globals _ _ _ _ (ap (λ (a : App). a.top.is_plain) check)) ∙ ap₂ with_subcommand c.in_ok-with_sheets.ensures.sheets (ap (λ (a : App). a.top) check) in
    let first = c.in_ok-with_migrate.ensures.shape (no_globals _ _ _ _ (ap (λ (a : App). a.top.is_plain) migrate)) ∙ ap₂ with_subcommand start (ap (λ (a : App). a.top) migrate) in
    let second = c.in_ok-with_script.ensures.shape (no_globals _ _ _ _ (ap (λ (a : App). a.top.is_plain) script)) ∙ ap₂ with_subcommand first (ap (λ (a : App). a.top) script) in
    let third = c.in_ok-with_serve.ensures.shape (no_globals _ _ _ _ (ap (λ (a : App). a.top.is_plain) serve)) ∙ ap₂ with_subcommand second (ap (λ (a : App). a.top) serve) in
    let fourth = c.in_ok-with_plan.ensures.shape (no_globals _ _ _ _ (ap (λ (a : App). a.top.is_plain) plan)) ∙ ap₂ with_subcommand third (ap (λ (a : App). a.top) plan) in
    let usage = c.in_ok-usage_command.ensures.usage in
    let fifth = c.in_ok-with_show.ensures.shape (no_globals _ _ _ _ (ap (λ (a : App). a.top.is_plain) show)) ∙ ap₂ with_subcommand fourth (ap (λ (a : App). a.top) show) in
    record {
      ftpd = c.in_ok-command.ensures.shape (no_globals _ _ _ _ (ap (λ (a : App). a.top.is_plain) usage)) ∙ ap₂ with_subcommand fifth (ap (λ (a : App). a.top) usage);
    }
