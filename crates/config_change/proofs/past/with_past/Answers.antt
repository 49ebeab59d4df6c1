use Rattle.std.proofs.Common.{◌≡◌, ◌∙◌, ◌++◌, refl, sym, ap}
use Rattle.std.specs.FinMap as finite
use Rattle.line_rates.specs.declared.share_by.ShareBy.{ShareBy}
use Rattle.line_rates.specs.Rates.{shared_by}
use Rattle.line_rates.specs.Stated.{by_number, group_number, user_number, stated, limits_fault}
use Rattle.config_change.specs.Past.{groups_with_past, past_groups, past_users, users_with_past}
use Rattle.config_change.proofs.KeptRows.{listed, keep_past}
use Rattle.config_change.proofs.past.with_past.Goals as goal

pub returns-in-Ok-clause-kept : goal.returns-in-Ok-clause-kept
returns-in-Ok-clause-kept c =
    let limits = c.args.limits.now in
    let earlier = c.args.earlier.now in
    let groups = listed group_number c.groups.result.now limits.groups c.groups.ensures.rising c.groups.ensures.rows in
    let old_groups = listed group_number c.groups-2.result.now earlier.groups c.groups-2.ensures.rising c.groups-2.ensures.rows in
    let users = listed user_number c.users.result.now limits.users c.users.ensures.rising c.users.ensures.rows in
    let old_users = listed user_number c.users-2.result.now earlier.users c.users-2.ensures.rising c.users-2.ensures.rows in
    let all_groups : c.push_groups.new.rows.items ≡ groups_with_past limits earlier =
    c.in_ok-push_groups.ensures.pushed ∙ ap (λ gs. gs ++ past_groups limits c.groups-2.result.now) (c.in_ok-groups.ensures.copied ∙ groups)
    ∙ ap (λ gs. finite.values limits.groups ++ past_groups limits gs) old_groups in
    let all_users : c.push_users.new.rows.items ≡ users_with_past limits earlier =
    c.in_ok-push_users.ensures.pushed ∙ ap (λ us. us ++ past_users limits c.users-2.result.now) (c.in_ok-users.ensures.copied ∙ users)
    ∙ ap (λ us. finite.values limits.users ++ past_users limits us) old_users in
    keep_past limits earlier c.shared_by.result
    (c.shared_by.ensures.shared ∙ ap (λ (by : ShareBy). shared_by by c.in-Ok.all) c.share_by.ensures.share_by ∙ ap (shared_by earlier.share_by) (c.in-Ok.ensures.limits
    ∙ ap (λ s. stated s c.rate-down.result c.rate-up.result c.push_groups.new.rows.items c.push_users.new.rows.items) c.rate-server.ensures.rate
    ∙ ap (λ d. stated limits.server d c.rate-up.result c.push_groups.new.rows.items c.push_users.new.rows.items) c.rate-down.ensures.rate
    ∙ ap (λ u. stated limits.server limits.down u c.push_groups.new.rows.items c.push_users.new.rows.items) c.rate-up.ensures.rate
    ∙ ap (λ gs. stated limits.server limits.down limits.up gs c.push_users.new.rows.items) all_groups
    ∙ ap (λ us. stated limits.server limits.down limits.up (groups_with_past limits earlier) us) all_users))
    (ap (by_number group_number) (sym groups) ∙ c.groups.ensures.rows) (ap (by_number group_number) (sym old_groups) ∙ c.groups-2.ensures.rows)
    (ap (by_number user_number) (sym users) ∙ c.users.ensures.rows) (ap (by_number user_number) (sym old_users) ∙ c.users-2.ensures.rows)

pub returns-in-Err-clause-refused : goal.returns-in-Err-clause-refused
returns-in-Err-clause-refused c =
    let limits = c.args.limits.now in
    let earlier = c.args.earlier.now in
    let groups = listed group_number c.groups.result.now limits.groups c.groups.ensures.rising c.groups.ensures.rows in
    let old_groups = listed group_number c.groups-2.result.now earlier.groups c.groups-2.ensures.rising c.groups-2.ensures.rows in
    let users = listed user_number c.users.result.now limits.users c.users.ensures.rising c.users.ensures.rows in
    let old_users = listed user_number c.users-2.result.now earlier.users c.users-2.ensures.rising c.users-2.ensures.rows in
    let all_groups : c.push_groups.new.rows.items ≡ groups_with_past limits earlier =
    c.in_ok-push_groups.ensures.pushed ∙ ap (λ gs. gs ++ past_groups limits c.groups-2.result.now) (c.in_ok-groups.ensures.copied ∙ groups)
    ∙ ap (λ gs. finite.values limits.groups ++ past_groups limits gs) old_groups in
    let all_users : c.push_users.new.rows.items ≡ users_with_past limits earlier =
    c.in_ok-push_users.ensures.pushed ∙ ap (λ us. us ++ past_users limits c.users-2.result.now) (c.in_ok-users.ensures.copied ∙ users)
    ∙ ap (λ us. finite.values limits.users ++ past_users limits us) old_users in
    sym (ap (λ s. limits_fault s c.rate-down.result c.rate-up.result c.push_groups.new.rows.items c.push_users.new.rows.items) c.rate-server.ensures.rate
    ∙ ap (λ d. limits_fault limits.server d c.rate-up.result c.push_groups.new.rows.items c.push_users.new.rows.items) c.rate-down.ensures.rate
    ∙ ap (λ u. limits_fault limits.server limits.down u c.push_groups.new.rows.items c.push_users.new.rows.items) c.rate-up.ensures.rate
    ∙ ap (λ gs. limits_fault limits.server limits.down limits.up gs c.push_users.new.rows.items) all_groups
    ∙ ap (λ us. limits_fault limits.server limits.down limits.up (groups_with_past limits earlier) us) all_users)
    ∙ c.in-Err.ensures.fault
