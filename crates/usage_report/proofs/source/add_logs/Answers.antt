use Rattle.std.proofs.Common.{◌<◌, ◌+◌, ◌++◌, ◌∷◌, [], Bor, List, ℕ, get_or, length, subst, sym, take, rules}
use Rattle.std.proofs.lemmas.List.{take_more}
use Rattle.usage_report.specs.Reports.{TakesLogs}
use Rattle.usage_report.specs.declared.report.LogSeen.{LogSeen}
use Rattle.usage_report.proofs.Chained.{one_more, one_sooner}
use Rattle.usage_report.proofs.source.add_logs.Goals as goal

pub loop-path-preserved : goal.loop-path-preserved
loop-path-preserved g c =
    let before = c.loop-path.invariant in
    let gives = g.S.LogSource.Gives c.args.source.now in
    let paths = c.args.paths.now in
    let i = c.loop-path.path-index in
    let none : Bor (List ℕ) = record { ref_ptr = (0, 0); now = [] } in
    let path = get_or paths i none in
    let next = c.in_ok-add_next.ensures.taken in
    let one = one_sooner gives (g.S.LogSource.Gives c.loop-path.source) c.loop-path.usage c.add_next.new.usage path next.0 before.stays next.2 in
    let all = one_more gives (take i paths) c.loop-path.logs.items path next.0 c.args.usage.now c.loop-path.usage c.add_next.new.usage before.taken one in
    let inside : i < length paths = search rules in
    let of_paths =
    subst (λ (some : List (Bor (List ℕ))). TakesLogs gives some (c.loop-path.logs.items ++ next.0 ∷ []) c.args.usage.now c.add_next.new.usage)
    (sym (take_more paths i none inside)) all in
    record {
      taken =
          subst (λ (logs : List LogSeen). TakesLogs gives (take (i + 1) paths) logs c.args.usage.now c.add_next.new.usage)
          (sym {A = List LogSeen} next.1) of_paths;
      stays = λ other octets given. before.stays other octets (c.in_ok-add_next.ensures.stays other octets given);
    }
