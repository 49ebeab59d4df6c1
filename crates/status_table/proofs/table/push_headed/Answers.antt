use Rattle.std.proofs.Common.{◌≡◌, ◌∙◌, ◌++◌, ◌∷◌, [], ℕ, List, append_assoc, ap, false, length, map, sym}
use Rattle.std.specs.Borrow.{Bor}
use Rattle.std.specs.Prelude.{◌==◌}
use Rattle.server_status.specs.declared.status.SessionStatus.{SessionStatus}
use Rattle.status_table.specs.Lines.{session_line}
use Rattle.status_table.specs.Tables.{session_names, texts}
use Rattle.status_table.proofs.Screens.{headed_map, on_ok}
use Rattle.status_table.proofs.table.push_headed.Goals as goal

pub returns : goal.returns
returns c =
    let old = texts c.args.lines.now in
    let shows = λ (s : Bor SessionStatus). session_line c.args.now.now s.now in
    let xs = c.args.sessions.now in
    let some : (length xs == 0) ≡ false = sym c.is_empty.ensures ∙ c.if-is_empty.false in
    record {
      pushed = on_ok c.push_session_lines.result _ _
          (λ last.
          last ∙ (ap (λ (ls : List (List ℕ)). ls ++ map shows xs) c.in_ok-push_text.ensures.pushed
          ∙ (append_assoc old (session_names ∷ []) (map shows xs) ∙ ap (λ (ls : List (List ℕ)). old ++ ls) (sym (headed_map shows xs some)))))
          c.push_session_lines.ensures.pushed;
    }
