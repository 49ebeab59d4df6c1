use Rattle.std.proofs.Common.{◌∙◌, ◌++◌, ℕ, List, ap}
use Rattle.status_table.specs.Heads.{head_line, idle_line, totals_line}
use Rattle.status_table.proofs.Screens.{on_ok, three_lines}
use Rattle.status_table.proofs.table.push_heads.Goals as goal

pub returns : goal.returns
returns c =
    let now = c.args.now.now in
    let head = head_line now in
    let totals = totals_line c.args.before now in
    let idle = idle_line now in
    record {
      pushed = on_ok c.push-3.result _ _
          (λ last.
          three_lines _ _ _ _ _ _ _ head totals idle
          (c.in_ok-push_head.ensures.appended ∙ ap (λ (b : List ℕ). b ++ head) c.new-head.ensures.bytes)
          (c.in_ok-push_totals.ensures.appended ∙ ap (λ (b : List ℕ). b ++ totals) c.new-totals.ensures.bytes)
          (c.in_ok-push_idle.ensures.appended ∙ ap (λ (b : List ℕ). b ++ idle) c.new-idle.ensures.bytes)
          c.in_ok-push.ensures.pushed c.in_ok-push-2.ensures.pushed last)
          c.push-3.ensures.pushed;
    }
