use Rattle.std.proofs.Common.{◌≡◌, false, rules, tests}
use Rattle.usage_report.proofs.Taken.{from_both, log_taken}
use Rattle.usage_report.proofs.log.take_lines.Goals as goal

pub returns-then-not-branch : goal.returns-then-not-branch
returns-then-not-branch g c =
    let before = c.lines.invariant in
    let none : c.in_ok-take_next.field-0 ≡ false = search (rules, tests) in
    record {
      taken =
          log_taken c.args.usage.now c.lines.usage c.take_next.new.usage before.0 c.lines.look c.take_next.new.look
          (g.R.Read.remaining c.args.reader.now) (g.R.Read.remaining c.lines.reader) (g.R.Read.remaining c.take_next.new.reader)
          before.2 c.in_ok-take_next.ensures.taken (c.in_ok-take_next.ensures.end none) before.1;
    }

pub lines-preserved : goal.lines-preserved
lines-preserved g c =
    let before = c.lines.invariant in (
      before.0,
      before.1,
      from_both c.args.usage.now c.lines.usage c.take_next.new.usage before.0 c.lines.look c.take_next.new.look
          (g.R.Read.remaining c.args.reader.now) (g.R.Read.remaining c.lines.reader) (g.R.Read.remaining c.take_next.new.reader)
          before.2 c.in_ok-take_next.ensures.taken,
    )
