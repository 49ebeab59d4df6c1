use Rattle.std.proofs.Common.{codes}
use Rattle.server_status.specs.declared.status.Direction.TheVariants.{Down, Up}
use Rattle.status_table.specs.Heads.{labelled}
use Rattle.status_table.specs.Rates.{both_total, line_total}
use Rattle.status_table.proofs.Screens.{on_ok, three}
use Rattle.status_table.proofs.heads.push_totals.Goals as goal

pub returns : goal.returns
returns c =
    let past = c.args.past in
    let now = c.args.now.now in
    let down = labelled (codes "down ") (line_total past now Down) now.line.down in
    let up = labelled (codes "   up ") (line_total past now Up) now.line.up in
    let both = labelled (codes "   both ") (both_total past now) now.line.both in
    record {
      appended = on_ok c.push_both.result _ _
          (λ last. three _ _ _ _ down up both c.in_ok-push_way.ensures.appended c.in_ok-push_way-2.ensures.appended last)
          c.push_both.ensures.appended;
    }
