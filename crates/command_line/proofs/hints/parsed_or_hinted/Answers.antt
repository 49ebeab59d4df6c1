use Rattle.std.proofs.Common.{List, ℕ, map, Bor}
use Rattle.clap.specs.Words.{app_of, fault_of}
use Rattle.command_line.proofs.hints.parsed_or_hinted.Goals as goal

pub returns-in-Err-clause-refused : goal.returns-in-Err-clause-refused
returns-in-Err-clause-refused c = λ simple.
    c.hinted.ensures.refused (fault_of (app_of c.args.command) (map (λ (s : Bor (List ℕ)). s.now) c.args.words.now)) (c.in-Err.ensures.refused simple)
