use Rattle.std.proofs.Common.{◌∙◌, ◌++◌, ℕ, List, ap, codes, string_bytes}
use Rattle.status_table.specs.Cells.{shown_text}
use Rattle.status_table.specs.Heads.{group_rates, promised_text}
use Rattle.status_table.specs.Widths.{left}
use Rattle.status_table.proofs.Screens.{four, on_ok}
use Rattle.status_table.proofs.heads.push_group.Goals as goal

pub returns : goal.returns
returns c =
    let group = c.args.group.now in
    let named = λ (n : List ℕ). left 17 (shown_text n) in
    let rates = λ (n : List ℕ). group_rates c.args.past c.args.now.now group n in
    let promised = promised_text group.guaranteed_down group.guaranteed_up in
    record {
      appended = on_ok c.push_promised.result _ _
          (λ last.
          four _ _ _ _ _ (codes "group ") (named c.as_str-name.result.now) (rates c.as_str-name.result.now) promised
          c.in_ok-push_word.ensures.word c.in_ok-push_name.ensures.appended c.in_ok-push_group_rates.ensures.appended last
          ∙ ap (λ (n : List ℕ). string_bytes c.args.line.now ++ (codes "group " ++ named n ++ rates n ++ promised)) c.as_str-name.ensures.value)
          c.push_promised.ensures.appended;
    }
