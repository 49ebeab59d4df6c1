use Rattle.limit_tree.specs.Outline.{limits}
use Rattle.grant_certificate.proofs.Order.{backed-best}
use Rattle.grant_certificate.proofs.Verdicts.{verdict_yes}
use Rattle.grant_certificate.proofs.checker.check.Goals as goal

pub returns-clause-best : goal.returns-clause-best
returns-clause-best g c = λ yes.
    let both = (verdict_yes (limits c.args.tree.now) c.args.grants.now c.entries.result.now c.judge.result c.judge.ensures.verdict).0 yes in
    backed-best (limits c.args.tree.now) c.args.grants.now c.entries.result.now c.judge.ensures.branches both.0 both.1
