use Rattle.std.proofs.Common.{◌∙◌, ℕ, List, String, Global, ap, map, string_bytes, take}
use Rattle.status_table.specs.Tables.{joined}
use Rattle.status_table.proofs.Screens.{if_ok, map_take}
use Rattle.status_table.proofs.Texts.{take_min}
use Rattle.status_table.proofs.table.first_lines.Goals as goal

pub returns : goal.returns
returns c =
    let lines = c.args.lines.now in
    let texts = λ (ls : List (String Global)). map (λ (s : String Global). string_bytes s) ls in
    record {
      joined = if_ok c.joined.result _ _
          (λ text is.
          is ∙ ap (λ (ls : List (List ℕ)). joined ls)
          (ap (λ (k : ℕ). texts (take k lines)) c.min-count.ensures
          ∙ (ap texts (take_min lines c.args.rows) ∙ map_take (λ (s : String Global). string_bytes s) c.args.rows lines)))
          c.joined.ensures.joined;
    }
