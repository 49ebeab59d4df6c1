-- The rows of the program, as rows of the definition.
use Rattle.std.specs.Prelude.{List, [], ◌∷◌}
use Rattle.status_page.specs.Rows.{ShownLabel, ShownRow, Head, First, Further}
use Rattle.status_page.specs.declared.rows.Label.{Label}
use Rattle.status_page.specs.declared.rows.Labels.{Labels}
use Rattle.status_page.specs.declared.rows.Labels.TheVariants.{None, One, Three}
use Rattle.status_page.specs.declared.rows.Row.{Row}
use Rattle.status_page.specs.declared.rows.Row.TheVariants as row

abbrev pub label_of : Label → ShownLabel
label_of label = record { name = label.name.now; value = label.value.now }

abbrev pub labels_of : Labels → List ShownLabel
labels_of None = []
labels_of (One label) = label_of label ∷ []
labels_of (Three first second third) = label_of first ∷ label_of second ∷ label_of third ∷ []

abbrev pub row_of : Row → ShownRow
row_of (row.Head head) = Head head.name.now head.kind.now head.help.now
row_of (row.First head labels value) =
    First head.name.now head.kind.now head.help.now (labels_of labels) value
row_of (row.Further name labels value) = Further name.now (labels_of labels) value
