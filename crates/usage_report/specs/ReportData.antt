-- The report as JSON: a value, whose members docs/log.md describes.
use Rattle.std.specs.Prelude.{◌≡◌, ◌++◌, ◌∷◌, [], ℕ, List, Option, Some, None, codes, map}
use Rattle.serde_json.specs.Data.{Data, array, member, no_members, null, number, object, string, unsigned}
use Rattle.serde_json.specs.Read.{read}
use Rattle.serde_json.specs.View.{items_of}
use Rattle.log_lines.specs.declared.moment.LogDay.{LogDay}
use Rattle.usage_report.specs.Adding.{octets_a_second}
use Rattle.usage_report.specs.Asks.{key_name}
use Rattle.usage_report.specs.Keys.{day_text}
use Rattle.usage_report.specs.declared.adding.Sums.{Sums}
use Rattle.usage_report.specs.declared.ask.UsageAsk.{UsageAsk}
use Rattle.usage_report.specs.declared.rank.UsageRow.{UsageRow}
use Rattle.usage_report.specs.declared.report.LogSeen.{LogSeen}
use Rattle.usage_report.specs.declared.report.Report.{Report}

abbrev pub count_data : ℕ → Data
count_data n = number (unsigned n)

-- a number, or null for none
abbrev pub maybe_data : Option ℕ → Data
maybe_data None = null
maybe_data (Some n) = count_data n

-- the day, or null for all
abbrev pub day_data : Option LogDay → Data
day_data None = null
day_data (Some day) = string (day_text day)

abbrev pub sums_data : Sums → Data
sums_data sums =
    object
    (member (codes "octets") (count_data sums.octets)
    (member (codes "octets_a_second") (maybe_data (octets_a_second sums))
    (member (codes "seconds") (count_data sums.seconds)
    (member (codes "transfers") (count_data sums.transfers) no_members))))

abbrev pub row_data : UsageRow → Data
row_data row =
    object
    (member (codes "key") (string row.key.now)
    (member (codes "octets") (count_data row.sums.octets)
    (member (codes "octets_a_second") (maybe_data (octets_a_second row.sums))
    (member (codes "seconds") (count_data row.sums.seconds)
    (member (codes "transfers") (count_data row.sums.transfers) no_members)))))

abbrev pub log_data : LogSeen → Data
log_data log =
    object
    (member (codes "file") (string log.path.now)
    (member (codes "first_unread") (maybe_data log.look.first_unread)
    (member (codes "lines") (count_data log.look.lines)
    (member (codes "unread") (count_data log.look.unread) no_members))))

-- the report, given the key, the day, its logs, its rows, and the number of all rows; besides the
-- sums of all transfers, and the version of this form
abbrev pub whole_data : UsageAsk → ℕ → Data → Data → Data → Data → Data
whole_data ask rows_in_all day logs rows total =
    object
    (member (codes "by") (string (key_name ask.by))
    (member (codes "day") day
    (member (codes "logs") logs
    (member (codes "rows") rows
    (member (codes "rows_in_all") (count_data rows_in_all)
    (member (codes "total") total
    (member (codes "version") (count_data 1) no_members)))))))

abbrev pub report_data : Report → Data
report_data report =
    whole_data report.ask report.in_all (day_data report.ask.day)
    (array (items_of (map log_data report.logs.now)))
    (array (items_of (map row_data report.shown.now))) (sums_data report.total)

-- the text is JSON of that value, and a line feed
abbrev pub IsJsonOf : Data → List ℕ → Type 0
IsJsonOf value text = (json : List ℕ) × (text ≡ json ++ 10 ∷ []) × (read json ≡ Some value)
