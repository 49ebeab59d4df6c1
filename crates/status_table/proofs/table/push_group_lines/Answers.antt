use Rattle.std.proofs.Common.{◌∙◌, ◌++◌, ℕ, List, ap, string_bytes}
use Rattle.status_table.specs.Heads.{group_line}
use Rattle.status_table.specs.Tables.{texts}
use Rattle.status_table.proofs.Screens.{line_more}
use Rattle.status_table.proofs.table.push_group_lines.Goals as goal

pub loop-group-preserved : goal.loop-group-preserved
loop-group-preserved c =
    let line = group_line c.args.before c.args.now.now in
    line_more line c.args.groups.now c.loop-group.group-index c.group-item.result (texts c.args.lines.now) (texts c.loop-group.lines) (texts c.push.new.lines)
    (string_bytes c.push_group.new.line) c.loop-group-test.true c.group-item.is c.loop-group.invariant c.in_ok-push.ensures.pushed
    (c.in_ok-push_group.ensures.appended ∙ ap (λ (b : List ℕ). b ++ line c.group-item.result) c.new-line.ensures.bytes)
