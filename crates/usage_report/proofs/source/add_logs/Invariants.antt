use Rattle.std.proofs.Common.{ℕ, List, Option, take}
use Rattle.usage_report.specs.Reports.{TakesLogs}
use Rattle.usage_report.proofs.source.add_logs.Given as goal

-- the first paths' logs are taken
abbrev pub invariant-loop-path : goal.invariant-loop-path
invariant-loop-path g l = record {
  taken : TakesLogs (g.S.LogSource.Gives l.fn.source) (take l.path-index l.paths) l.logs.items l.fn.usage l.usage;
  stays : (path : List ℕ) (octets : Option (List ℕ)) → g.S.LogSource.Gives l.source path octets → g.S.LogSource.Gives l.fn.source path octets;
}
