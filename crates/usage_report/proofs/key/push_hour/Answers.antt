use Rattle.usage_report.proofs.Seen.{on_ok, three}
use Rattle.usage_report.proofs.key.push_hour.Goals as goal

pub returns : goal.returns
returns c = record {
  appended = on_ok c.push_two.result _ _
      (λ last. three _ _ _ _ _ _ _ c.in_ok-push_day.ensures.appended c.in_ok-push_blank.ensures.appended last)
      c.push_two.ensures.appended;
}
