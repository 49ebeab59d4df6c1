use Rattle.std.proofs.Common.{ℕ, List, string_bytes, subst}
use Rattle.config_report.specs.Reports.{AreWarningsOf}
use Rattle.server_config.specs.Configs.{IsConfigText}
use Rattle.ftpd_program.proofs.scripting.warned.Goals as goal

pub returns-in-Ok-clause-warned : goal.returns-in-Ok-clause-warned
returns-in-Ok-clause-warned g c = (
  subst (λ (t : List ℕ). IsConfigText t c.in_ok-config.config) c.as_slice.ensures.value c.in_ok-config.ensures.config,
  subst (λ (t : List ℕ). AreWarningsOf (g.L.Lookout.Shows c.args.lookout.now) c.args.path.now t (string_bytes c.in-Ok.reported)) c.as_slice-2.ensures.value c.in-Ok.ensures.warnings,
)
