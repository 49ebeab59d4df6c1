-- The rows of metrics, and their text: Prometheus' text format, version 0.0.4.
use Rattle.std.specs.Prelude.{ℕ, List, [], ◌∷◌, ◌++◌, codes}
use Rattle.std.specs.Fmt.{decimal}
use Rattle.std.specs.List.{flat_map}
use Rattle.status_page.specs.Escapes.{escaped}

-- a label of a sample
pub record ShownLabel : Type 0 where
  pub name : List ℕ
  pub value : List ℕ

-- a row: the head of a metric that may have no sample, its first sample after its head, or a
-- sample after others; with the type of the metric, and its meaning
pub data ShownRow : Type 0 where
  Head : (name type help : List ℕ) → ShownRow
  First : (name type help : List ℕ) (labels : List ShownLabel) (value : ℕ) → ShownRow
  Further : (name : List ℕ) (labels : List ShownLabel) (value : ℕ) → ShownRow

-- a metric with one sample: a value that rises and falls, or one that never falls
abbrev pub gauge : List ℕ → List ℕ → ℕ → ShownRow
gauge name help value = First name (codes "gauge") help [] value

abbrev pub counter : List ℕ → List ℕ → ℕ → ShownRow
counter name help value = First name (codes "counter") help [] value

-- one label alone
abbrev pub one : List ℕ → List ℕ → List ShownLabel
one name value = record { name = name; value = value } ∷ []

-- ---- the text

abbrev pub head_text : List ℕ → List ℕ → List ℕ → List ℕ
head_text name type help =
    codes "# HELP " ++ name ++ codes " " ++ help ++ codes "\n# TYPE " ++ name ++ codes " " ++ type
    ++ 10 ∷ []

abbrev pub label_text : ShownLabel → List ℕ
label_text label = label.name ++ codes "=\"" ++ escaped label.value ++ codes "\""

-- the labels of a sample in braces, with commas between them; nothing for none
unfoldable pub labels_text : List ShownLabel → List ℕ
labels_text [] = []
labels_text (label ∷ labels) =
    codes "{" ++ label_text label ++ flat_map (λ other. codes "," ++ label_text other) labels
    ++ codes "}"

abbrev pub sample_text : List ℕ → List ShownLabel → ℕ → List ℕ
sample_text name labels value =
    name ++ labels_text labels ++ codes " " ++ decimal value ++ 10 ∷ []

abbrev pub row_text : ShownRow → List ℕ
row_text (Head name type help) = head_text name type help
row_text (First name type help labels value) =
    head_text name type help ++ sample_text name labels value
row_text (Further name labels value) = sample_text name labels value
