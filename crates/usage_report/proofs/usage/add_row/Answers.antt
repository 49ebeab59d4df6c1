use Rattle.std.proofs.Common.{◌≡◌, ◌∙◌, ℕ, List, Some, cond, bytes_eq, ap, string_bytes, unwrap_or, rules}
use Rattle.std.specs.BTreeMap.{get_by_text}
use Rattle.std.proofs.lemmas.Map.Text.{btree_map_updates_text}
use Rattle.log_lines.specs.Lines.{line_view}
use Rattle.usage_report.specs.Adding.{no_tally, plus}
use Rattle.usage_report.specs.declared.adding.Sums.{Sums}
use Rattle.usage_report.proofs.usage.add_row.Goals as goal

pub returns : goal.returns
returns c =
    let key = string_bytes c.args.key in
    let rows = c.args.rows.now in
    let sets = btree_map_updates_text key rows c.insert.new.self _ c.in-Ok.ensures.updates in
    let of_key : c.as_str.result.now ≡ key = search rules in
    let was : c.row_at-row.result ≡ unwrap_or (get_by_text rows key) no_tally =
    c.row_at-row.ensures.row ∙ ap (λ (octets : List ℕ). unwrap_or (get_by_text rows octets) no_tally) of_key in
    let is : c.in-Some.row ≡ plus (unwrap_or (get_by_text rows key) no_tally) (line_view c.args.line.now) =
    c.in-Some.ensures.added.0 ∙ ap (λ (sums : Sums). plus sums (line_view c.args.line.now)) was in
    record {
      row = λ other. sets other ∙ ap (λ (sums : Sums). cond (bytes_eq key other) (Some sums) (get_by_text rows other)) is;
    }
