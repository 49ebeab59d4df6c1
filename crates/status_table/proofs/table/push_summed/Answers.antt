use Rattle.std.proofs.Common.{◌≡◌, ◌∙◌, ◌++◌, ◌∷◌, [], ℕ, List, ap, length, map, take}
use Rattle.std.specs.Borrow.{Bor}
use Rattle.server_status.specs.declared.status.TransferStatus.{TransferStatus}
use Rattle.status_table.specs.Lines.{user_line}
use Rattle.status_table.specs.Tables.{group_lines, rest_lines, shown_groups, shown_users, texts, user_names}
use Rattle.status_table.proofs.Screens.{four, on_ok}
use Rattle.status_table.proofs.table.push_summed.Goals as goal

pub returns : goal.returns
returns c =
    let before = c.args.before in
    let now = c.args.now.now in
    let us = c.args.users.now in
    let old = texts c.args.lines.now in
    let space = c.args.space in
    let users = λ (k : ℕ). map (λ (t : Bor TransferStatus). user_line before now t.now) (take k us) in
    let groups = λ (k : ℕ). group_lines before now k in
    let rest = λ (k : ℕ). rest_lines space (length us) k in
    let names = user_names ∷ [] in
    let all = length now.groups.items in
    let first = c.shown_users-first.ensures.shown ∙ ap (λ (k : ℕ). shown_users space (length us) k) (c.len.ensures ∙ now.groups.ok.0) in
    let others = c.shown_groups-others.ensures.shown ∙ ap (λ (k : ℕ). shown_groups space (length us) k) (c.len-2.ensures ∙ now.groups.ok.0) in
    let last_len = c.len-3.ensures ∙ now.groups.ok.0 in
    record {
      pushed = on_ok c.push_rest.result _ _
          (λ last.
          four _ _ _ _ _ names (users c.shown_users-first.result) (groups c.shown_groups-others.result) (rest c.len-3.result)
          c.in_ok-push_text.ensures.pushed c.in_ok-push_users.ensures.pushed c.in_ok-push_groups.ensures.pushed last
          ∙ (ap (λ (k : ℕ). old ++ (names ++ users k ++ groups c.shown_groups-others.result ++ rest c.len-3.result)) first
          ∙ (ap (λ (k : ℕ). old ++ (names ++ users (shown_users space (length us) all) ++ groups k ++ rest c.len-3.result)) others
          ∙ ap (λ (k : ℕ). old ++ (names ++ users (shown_users space (length us) all) ++ groups (shown_groups space (length us) all) ++ rest k)) last_len)))
          c.push_rest.ensures.pushed;
    }
