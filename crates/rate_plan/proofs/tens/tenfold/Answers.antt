use Rattle.std.proofs.Common.{◌∙◌, ap}
use Rattle.line_rates.specs.declared.share_by.ShareBy.{ShareBy}
use Rattle.line_rates.specs.Rates.{shared_by}
use Rattle.rate_plan.specs.Tens.{ten_rate}
use Rattle.rate_plan.proofs.TenLemmas.{are_tens_of}
use Rattle.rate_plan.proofs.tens.tenfold.Goals as goal

pub returns-in-Ok-clause-tens : goal.returns-in-Ok-clause-tens
returns-in-Ok-clause-tens g c =
    are_tens_of c.args.limits.now c.shared_by.result c.ten_rate-server.result c.ten_rate-down.result c.ten_rate-up.result c.in_ok-groups.groups.items c.in_ok-users.users.items c.groups.result.now c.users.result.now
    c.groups.ensures.rows c.users.ensures.rows
    (c.ten_rate-server.ensures.ten ∙ ap ten_rate c.rate.ensures.rate) (c.ten_rate-down.ensures.ten ∙ ap ten_rate c.rate-2.ensures.rate) (c.ten_rate-up.ensures.ten ∙ ap ten_rate c.rate-3.ensures.rate)
    c.in_ok-groups.ensures.tens c.in_ok-users.ensures.tens
    (c.shared_by.ensures.shared ∙ ap (λ (by : ShareBy). shared_by by c.in-Ok.tens) c.share_by.ensures.share_by ∙ ap (shared_by c.args.limits.now.share_by) c.in-Ok.ensures.limits)
