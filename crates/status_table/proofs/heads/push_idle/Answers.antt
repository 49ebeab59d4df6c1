use Rattle.std.proofs.Common.{◌∙◌, ◌++◌, ℕ, List, ap, codes, length, map, string_bytes, sym}
use Rattle.std.proofs.lemmas.List.{length-map}
use Rattle.std.specs.Borrow.{Bor}
use Rattle.server_status.specs.declared.status.SessionStatus.{SessionStatus}
use Rattle.status_table.specs.Heads.{idle_number, labelled}
use Rattle.status_table.proofs.Screens.{on_ok, three}
use Rattle.status_table.proofs.heads.push_idle.Goals as goal

pub returns : goal.returns
returns c =
    let now = c.args.now.now in
    let down = labelled (codes "   guaranteed down ") now.guaranteed_down now.line.down in
    let up = labelled (codes "   up ") now.guaranteed_up now.line.up in
    let idle = c.in_ok-idle_sessions.field-0.items in
    let count = c.len-count.ensures ∙ (c.in_ok-idle_sessions.field-0.ok.0 ∙ sym (length-map idle (λ (s : Bor SessionStatus). s.now)) ∙ ap (λ (ss : List SessionStatus). length ss) c.in_ok-idle_sessions.ensures.idle) in
    record {
      appended = on_ok c.push_labelled-2.result _ _
          (λ last. three _ _ _ _ (idle_number c.len-count.result) down up c.in_ok-push_idle_number.ensures.appended c.in_ok-push_labelled.ensures.appended last
          ∙ ap (λ (n : ℕ). string_bytes c.args.line.now ++ (idle_number n ++ down ++ up)) count)
          c.push_labelled-2.ensures.appended;
    }
