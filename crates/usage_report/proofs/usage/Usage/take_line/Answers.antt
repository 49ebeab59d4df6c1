use Rattle.std.proofs.Common.{[], ◌∷◌, Option, subst}
use Rattle.log_lines.specs.Lines.{Line}
use Rattle.usage_report.specs.Usages.{HasSeen}
use Rattle.usage_report.proofs.Seen.{seen_unread}
use Rattle.usage_report.proofs.usage.Usage.take_line.Goals as goal

pub returns-in-None-clause-seen : goal.returns-in-None-clause-seen
returns-in-None-clause-seen c =
    subst (λ (line : Option Line). HasSeen c.args.self.now c.args.self.now (line ∷ [])) c.in-None.ensures.line (seen_unread c.args.self.now)
