use Rattle.change_report.proofs.Steps.{apart_by_length}
use Rattle.change_report.proofs.rules.same_rules.Goals as goal

pub returns-then-old-new : goal.returns-then-old-new
returns-then-old-new c = record { same = apart_by_length c.args.old.now c.args.new.now c.if-old-new.true }
