use Rattle.std.proofs.Common.{◌≡◌, ◌<◌, ◌∙◌, ℕ, [], ◌∷◌, List, length, ap, is_some, subst, rules, tests, arith}
use Rattle.log_lines.specs.Lines.{line_of}
use Rattle.usage_report.specs.Looks.{looked}
use Rattle.usage_report.specs.Usages.{HasSeen, without_end}
use Rattle.usage_report.proofs.Taken.{cleared, comes_to_end, from_one}
use Rattle.usage_report.proofs.log.take_next.Goals as goal

pub returns-then-count-eq0-clause-end : goal.returns-then-count-eq0-clause-end
returns-then-count-eq0-clause-end g c = λ _.
    let none : c.in-Ok.count ≡ 0 = search (rules, tests) in
    comes_to_end _ _ (c.in-Ok.ensures.end none) c.in-Ok.ensures.rest

pub returns-clause-taken : goal.returns-clause-taken
returns-clause-taken g c =
    let line = c.read_until.new.buf.items in
    let some : 0 < length line = search (rules, arith) in
    let text : c.without_end.result.now ≡ without_end line = search rules in
    let seen = subst (λ (t : List ℕ). HasSeen c.args.usage.now c.take_line.new.self (line_of t ∷ [])) text c.in_ok-is_read.ensures.seen in
    let read = c.in_ok-is_read.ensures.read ∙ ap (λ (t : List ℕ). is_some (line_of t)) text in
    from_one _ _ _ _ _ _ line (cleared _ line _ c.in-Ok.ensures.bytes c.clear.ensures.items) c.in-Ok.ensures.rest some seen
    (c.in-Some.ensures.looked ∙ ap (looked c.args.look.now) read)
