use Rattle.std.proofs.Common.{rules, ◌≡◌, ◌∙◌, ◌++◌, ◌-◌, ℕ, List, ap, false, length, map, min, sym, take}
use Rattle.std.specs.Borrow.{Bor}
use Rattle.std.specs.Prelude.{nat_lt}
use Rattle.server_status.specs.declared.status.SessionStatus.{SessionStatus}
use Rattle.status_table.specs.Lines.{session_line}
use Rattle.status_table.specs.Tables.{headed, texts}
use Rattle.status_table.proofs.Screens.{fits_two, map_map, map_take, on_ok}
use Rattle.status_table.proofs.Texts.{take_min}
use Rattle.status_table.proofs.table.push_sessions.Goals as goal

pub returns : goal.returns
returns c =
    let now = c.args.now.now in
    let refs = c.in_ok-idle.idle.items in
    let most = c.args.space - 1 in
    let here = λ (s : Bor SessionStatus). s.now in
    let shows = λ (s : Bor SessionStatus). session_line now s.now in
    let count : c.min-count.result ≡ min (length refs) most = c.min-count.ensures ∙ ap (λ (n : ℕ). min n most) (c.len.ensures ∙ c.in_ok-idle.idle.ok.0) in
    let first = ap (λ (ss : List (Bor SessionStatus)). map shows (take c.min-count.result ss)) c.as_slice.ensures.value
    ∙ (ap (λ (k : ℕ). map shows (take k refs)) count ∙ ap (λ (ss : List (Bor SessionStatus)). map shows ss) (take_min refs most)) in
    let same = first ∙ (sym (map_map (session_line now) here (take most refs))
    ∙ ap (λ (ss : List SessionStatus). map (session_line now) ss) (map_take here most refs ∙ ap (λ (ss : List SessionStatus). take most ss) c.in_ok-idle.ensures.idle)) in
    let big : nat_lt c.args.space 2 ≡ false = search rules in
    record {
      pushed = on_ok c.push_headed.result _ _
          (λ is. is ∙ ap (λ (ls : List (List ℕ)). texts c.args.lines.now ++ ls) (ap (λ (ls : List (List ℕ)). headed ls) same ∙ sym (fits_two now c.args.space big)))
          c.push_headed.ensures.pushed;
    }
