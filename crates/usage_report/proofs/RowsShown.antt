-- The rows of a map, one after another.
use Rattle.std.proofs.Common.{◌≡◌, ◌∙◌, List, [], ◌∷◌, ◌++◌, append_assoc, map, String, ap, sym}
use Rattle.std.specs.declared.alloc.Global.{Global}
use Rattle.std.proofs.lemmas.List.{append-nil, map-append}
use Rattle.log_lines.specs.Words.{Octets}
use Rattle.usage_report.specs.Ranks.{entry_view, row_view}
use Rattle.usage_report.specs.declared.adding.Sums.{Sums}
use Rattle.usage_report.specs.declared.rank.UsageRow.{UsageRow}

-- one more row, of the first entry that is left
pub one_row : (rows : List UsageRow) (row : UsageRow) (entry : String Global × Sums) (left rest : List (String Global × Sums)) (all : List (Octets × Sums)) → left ≡ entry ∷ rest
    → row_view row ≡ entry_view entry → map row_view rows ++ map entry_view left ≡ all → map row_view (rows ++ row ∷ []) ++ map entry_view rest ≡ all
one_row rows row entry left rest all is view same =
    ap (λ (xs : List (Octets × Sums)). xs ++ map entry_view rest) (map-append row_view rows (row ∷ []))
    ∙ append_assoc (map row_view rows) (row_view row ∷ []) (map entry_view rest)
    ∙ ap (λ (x : Octets × Sums). map row_view rows ++ x ∷ map entry_view rest) view
    ∙ sym (ap (λ (l : List (String Global × Sums)). map row_view rows ++ map entry_view l) is)
    ∙ same

-- no entry is left
pub all_rows : (rows : List UsageRow) (left : List (String Global × Sums)) (all : List (Octets × Sums)) → left ≡ [] → map row_view rows ++ map entry_view left ≡ all → map row_view rows ≡ all
all_rows rows left all none same =
    sym (append-nil (map row_view rows))
    ∙ sym (ap (λ (l : List (String Global × Sums)). map row_view rows ++ map entry_view l) none)
    ∙ same
