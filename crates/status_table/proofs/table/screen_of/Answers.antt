use Rattle.std.proofs.Common.{◌∙◌, ◌++◌, ◌-◌, ℕ, List, String, Global, ap, length, string_bytes, sym}
use Rattle.std.proofs.lemmas.List.{length-map}
use Rattle.status_table.specs.Tables.{body_lines, top_lines}
use Rattle.status_table.proofs.table.screen_of.Goals as goal

pub returns : goal.returns
returns c =
    let lines = c.in_ok-lines.lines in
    let top = top_lines c.args.before c.args.now.now c.args.shown.now in
    let body = λ (n : ℕ). body_lines c.args.earlier c.args.before c.args.now.now c.args.shown.now n in
    let height = c.len.ensures ∙ (lines.ok.0
    ∙ (sym (length-map lines.items (λ (s : String Global). string_bytes s)) ∙ ap (λ (ls : List (List ℕ)). length ls) c.in_ok-lines.ensures.lines)) in
    let space = c.saturating_sub-space.ensures ∙ ap (λ (n : ℕ). c.args.rows - n) height in
    record {
      screen = c.in_ok-push_body.ensures.pushed
          ∙ (ap (λ (ls : List (List ℕ)). ls ++ body c.saturating_sub-space.result) c.in_ok-lines.ensures.lines ∙ ap (λ (n : ℕ). top ++ body n) space);
    }
