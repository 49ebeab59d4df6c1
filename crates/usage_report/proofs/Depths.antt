-- The report as JSON is not deep.
use Rattle.std.proofs.Common.{◌≡◌, ◌≤◌, ℕ, List, [], ◌∷◌, Option, None, Some, map, arith, refl}
use Rattle.serde_json.specs.Data.{Data, depth, items_depth}
use Rattle.serde_json.specs.View.{items_of}
use Rattle.log_lines.specs.declared.moment.LogDay.{LogDay}
use Rattle.usage_report.specs.Adding.{octets_a_second}
use Rattle.usage_report.specs.ReportData.{day_data, log_data, maybe_data, report_data, row_data, sums_data}
use Rattle.usage_report.specs.declared.adding.Sums.{Sums}
use Rattle.usage_report.specs.declared.rank.UsageRow.{UsageRow}
use Rattle.usage_report.specs.declared.report.LogSeen.{LogSeen}
use Rattle.usage_report.specs.declared.report.Report.{Report}

maybe_depth : (n : Option ℕ) → depth (maybe_data n) ≡ 0
maybe_depth None = refl
maybe_depth (Some n) = refl

day_depth : (day : Option LogDay) → depth (day_data day) ≡ 0
day_depth None = refl
day_depth (Some day) = refl

sums_depth : (sums : Sums) → depth (sums_data sums) ≤ 1
sums_depth sums = omega (arith, maybe_depth (octets_a_second sums))

row_depth : (row : UsageRow) → depth (row_data row) ≤ 1
row_depth row = omega (arith, maybe_depth (octets_a_second row.sums))

log_depth : (log : LogSeen) → depth (log_data log) ≤ 1
log_depth log = omega (arith, maybe_depth log.look.first_unread)

-- values of a list that are not deep
shallow : {X : Type 0} (data_of : X → Data) (most : ℕ) → ((x : X) → depth (data_of x) ≤ most) → (xs : List X) → items_depth (items_of (map data_of xs)) ≤ most
shallow data_of most each [] = omega arith
shallow data_of most each (x ∷ xs) =
    let one = each x in
    let more = shallow data_of most each xs in
    omega (arith, one, more)

pub report_depth : (report : Report) → depth (report_data report) ≤ 127
report_depth report =
    omega (
      arith,
      day_depth report.ask.day,
      sums_depth report.total,
      shallow row_data 1 row_depth report.shown.now,
      shallow log_data 1 log_depth report.logs.now,
    )
