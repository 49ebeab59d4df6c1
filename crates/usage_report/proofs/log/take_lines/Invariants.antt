use Rattle.std.proofs.Common.{[]}
use Rattle.usage_report.specs.Looks.{IsLookOf, TakesFrom}
use Rattle.usage_report.specs.declared.look.LogLook.{LogLook}
use Rattle.usage_report.proofs.log.take_lines.Given as goal

-- some lines are taken, from the front of the log
abbrev pub invariant-lines : goal.invariant-lines
invariant-lines g l =
    (none : LogLook) × IsLookOf none []
    × TakesFrom l.fn.usage l.usage none l.look (g.R.Read.remaining l.fn.reader) (g.R.Read.remaining l.reader)
